-- What was done to packets, counted.
use Rattle.std.specs.Prelude.{ℕ, ◌+◌, ◌-◌, ◌^◌, Bool, nat_lt, if◌then◌else◌, List, [], ◌∷◌, length, min}
use Rattle.pcap_io.specs.Capture.{Packet}
use Rattle.wire_model.specs.declared.counts.Counts.{Counts}
use Rattle.wire_model.specs.declared.wiring.Wiring.{Wiring}
use Rattle.wire_model.specs.Filling.{filled_in, filled_of, packet_fates, wrong_in}
use Rattle.wire_model.specs.Wire.{is_cut}

-- a count stays at its last value
abbrev pub more : ℕ → ℕ → ℕ
more n k = min (n + k) (2 ^ 64 - 1)

-- of one packet, by what becomes of its sums, whether it is cut, and its length
abbrev pub counts_by : ℕ → ℕ → Bool → ℕ → Counts → Counts
counts_by filled wrong cut len c = record {
  filled = more c.filled filled;
  wrong = more c.wrong wrong;
  cut = more c.cut (if cut then 1 else 0);
  long = more c.long (if cut then 0 else (if nat_lt 1514 len then 1 else 0));
}

abbrev pub counted : Wiring → Packet → Counts → Counts
counted o p c = counts_by (filled_in (packet_fates o.fills_all p)) (wrong_in (packet_fates o.fills_all p))
    (is_cut o.mss (filled_of o.fills_all p)) (length p.frame) c

-- and of all of them
abbrev pub counts_from : Wiring → Counts → List Packet → Counts
counts_from o c [] = c
counts_from o c (p ∷ ps) = counts_from o (counted o p c) ps

abbrev pub counts_of : Wiring → List Packet → Counts
counts_of o ps = counts_from o (record { filled = 0; wrong = 0; cut = 0; long = 0 }) ps
