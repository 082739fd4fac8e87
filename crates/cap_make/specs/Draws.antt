-- Numbers that look random and follow from a seed: a linear congruential generator of 64 bits, of whose states the high
-- bits are taken.
use Rattle.std.specs.Prelude.{ℕ, ◌+◌, ◌*◌, ◌/◌, ◌%◌, ◌^◌, ◌==◌, if◌then◌else◌}
use Rattle.cap_make.specs.declared.draws.RecordDraws.{RecordDraws}

unfoldable pub next_state : ℕ → ℕ
next_state x = (6364136223846793005 * x + 1442695040888963407) % 2 ^ 64

-- the number below k that a state gives
abbrev pub drawn : ℕ → ℕ → ℕ
drawn x k = x / 2 ^ 33 % k

-- event 12 is a short segment, whose length is drawn too, and event 14 one without payload
abbrev pub payload_len_by : ℕ → ℕ → ℕ
payload_len_by event state = if event == 12 then 1 + drawn state 1199 else (if event == 14 then 0 else 1200)

-- a record's draws: one of eight flows, one of sixteen events, and the length of a short segment
unfoldable pub draws : ℕ → RecordDraws
draws seed =
    let first = next_state seed in
    let second = next_state first in
    let third = next_state second in
    let event = drawn second 16 in
    record {
      flow = drawn first 8;
      event = event;
      payload_len = payload_len_by event third;
      state = if event == 12 then third else second;
    }
