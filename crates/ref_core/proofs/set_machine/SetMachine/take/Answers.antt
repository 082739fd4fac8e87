use Rattle.std.proofs.Common.{length, arith, sym, subst}
use Rattle.ref_core.specs.SetMachine.{AllPlaced}
use Rattle.ref_core.proofs.Placing.{placed_push}
use Rattle.ref_core.proofs.set_machine.SetMachine.take.Goals as goal

pub invariant_of-self-then-is_none : goal.invariant_of-self-then-is_none
invariant_of-self-then-is_none c = let n = length c.self.inside.memory in
    subst (AllPlaced n) (sym c.in_ok-push.ensures.items) (placed_push n c.args.holder c.args.block c.self.inside.pairs.items (omega arith) c.self.invariant)
