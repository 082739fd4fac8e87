use Rattle.merge_tests.specs.Numbered.{AreNumbered}
use Rattle.merge_tests.proofs.merging.chains.linked.Given as goal

abbrev pub invariant-loop-i : goal.invariant-loop-i
invariant-loop-i g l = AreNumbered l.slots.items l.i
