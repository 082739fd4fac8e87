use Rattle.std.proofs.Common.{◌≡◌, length, Some, sym, subst}
use Rattle.ref_core.specs.SetMachine.{block_of, AllPlaced}
use Rattle.ref_core.proofs.Placing.{placed_found, placed_push}
use Rattle.ref_core.proofs.set_machine.SetMachine.share.Goals as goal

pub invariant_of-self-then-is_none : goal.invariant_of-self-then-is_none
invariant_of-self-then-is_none c = let n = length c.self.inside.memory in let ps = c.self.inside.pairs.items in
    let e : block_of c.args.holder c.self.inside.pairs.items ≡ Some c.in-Some.block = cc in
    subst (AllPlaced n) (sym c.in_ok-push.ensures.items) (placed_push n c.args.fresh c.in-Some.block ps (placed_found n c.args.holder ps c.in-Some.block c.self.invariant e) c.self.invariant)
