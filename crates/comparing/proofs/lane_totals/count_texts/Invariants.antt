use Rattle.std.proofs.Common.{◌≡◌, ◌+◌, drop}
use Rattle.comparing.specs.Texts.{text_bytes}
use Rattle.comparing.proofs.lane_totals.count_texts.Given as goal

abbrev pub invariant-loop-i : goal.invariant-loop-i
invariant-loop-i l = l.bytes + text_bytes (drop l.i l.texts) ≡ text_bytes l.texts
