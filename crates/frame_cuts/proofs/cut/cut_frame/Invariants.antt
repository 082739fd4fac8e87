use Rattle.segment_rule.specs.Segmentations.{segment_at}
use Rattle.frame_cuts.proofs.Telling.{Told}
use Rattle.frame_cuts.proofs.cut.cut_frame.Given as goal

-- the first i segments are told
abbrev pub invariant-loop-i : goal.invariant-loop-i
invariant-loop-i l = Told (segment_at l.cut l.frame) l.frame l.segments l.i
