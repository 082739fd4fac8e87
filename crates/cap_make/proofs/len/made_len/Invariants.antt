use Rattle.std.proofs.Common.{◌≡◌, ◌≤◌, ◌-◌, ◌+◌, ◌*◌, length}
use Rattle.cap_make.specs.Capture.{made, records_from}
use Rattle.cap_make.proofs.len.made_len.Given as goal

-- what was counted and what is still to come
abbrev pub invariant-loop-number : goal.invariant-loop-number
invariant-loop-number l =
    (l.len + length (records_from (l.count - l.number) l.number l.maker) ≡ length (made l.fn.seed l.count)) × (l.len ≤ 1320 * (l.number + 1))
