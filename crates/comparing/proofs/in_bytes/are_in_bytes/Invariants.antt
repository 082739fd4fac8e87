use Rattle.std.proofs.Common.{drop}
use Rattle.comparing.specs.Items.{AreInBytes}
use Rattle.comparing.proofs.in_bytes.are_in_bytes.Given as goal

abbrev pub invariant-loop-i : goal.invariant-loop-i
invariant-loop-i l = AreInBytes (drop l.i l.packets) → AreInBytes l.packets
