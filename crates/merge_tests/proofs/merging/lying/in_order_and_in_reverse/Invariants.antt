use Rattle.merge_tests.specs.Numbered.{AreNumbered}
use Rattle.merge_tests.proofs.merging.lying.in_order_and_in_reverse.Given as goal

abbrev pub invariant-loop-i : goal.invariant-loop-i
invariant-loop-i g l = AreNumbered l.packets.items l.i
