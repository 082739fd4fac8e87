use Rattle.std.proofs.Common.{length, sym, subst}
use Rattle.ref_core.specs.SetMachine.{AllPlaced}
use Rattle.ref_core.proofs.Placing.{placed_without}
use Rattle.ref_core.proofs.set_machine.SetMachine.join.Goals as goal

pub invariant_of-self : goal.invariant_of-self
invariant_of-self c = let n = length c.self.inside.memory in subst (AllPlaced n) (sym c.remove_pair.ensures.removed) (placed_without n _ c.self.inside.pairs.items c.self.invariant)
