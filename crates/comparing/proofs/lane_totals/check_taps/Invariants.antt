use Rattle.std.proofs.Common.{◌≡◌, map, take}
use Rattle.comparing.specs.Texts.{totals_of_texts}
use Rattle.comparing.proofs.lane_totals.check_taps.Given as goal

abbrev pub invariant-loop-i : goal.invariant-loop-i
invariant-loop-i l = l.totals.items ≡ map (λ t. totals_of_texts t.texts) (take l.i l.lanes)
