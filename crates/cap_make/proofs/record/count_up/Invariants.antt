use Rattle.std.proofs.Common.{◌≡◌, ℕ, ◌+◌, ◌<◌, ◌%◌, get_or}
use Rattle.cap_make.proofs.record.count_up.Given as goal

abbrev pub invariant-loop-byte : goal.invariant-loop-byte
invariant-loop-byte l = (l.next ≡ (l.first + l.byte-index) % 256) × ((k : ℕ) → k < l.byte-index → get_or l.bytes k 0 ≡ (l.first + k) % 256)
