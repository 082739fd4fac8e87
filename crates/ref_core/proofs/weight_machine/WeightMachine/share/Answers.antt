use Rattle.std.proofs.Common.{◌≡◌, ◌-◌, true, Some, arith, sym, subst, ap, ◌∙◌}
use Rattle.std.specs.Prelude.{is_none, not}
use Rattle.ref_core.specs.WeightMachine.{WeightState, IsWeighed, holding_of, with_holding}
use Rattle.ref_core.proofs.Weighing.{shared_weighed, lowered_fresh}
use Rattle.ref_core.proofs.weight_machine.WeightMachine.share.Goals as goal

pub invariant_of-self-2 : goal.invariant_of-self-2
invariant_of-self-2 c = let x = c.in-Some.held in let h = c.args.holder in let k = c.args.fresh in let g = c.args.give in let old = c.self.inside in
    let w : WeightState = record { holdings = old.holdings.entries; words = old.words.items; memory = old.memory } in
    let e : holding_of h w.holdings ≡ Some x = subst (λ (s : WeightState). holding_of h s.holdings ≡ Some x) (sym c.self.view_is) (sym c.in-Some.ensures.value) in
    let fresh : is_none (holding_of k w.holdings) ≡ true = ap (λ (s : WeightState). is_none (holding_of k s.holdings)) c.self.view_is ∙ ap is_none (sym c.holding_of-2.ensures.value) ∙ ap not
    (sym c.is_some.ensures ∙ c.if-is_some.false) in
    subst (λ hs. IsWeighed (record { holdings = hs; words = old.words.items; memory = old.memory }))
    (sym (c.put_reserved-2.ensures.entries ∙ ap (with_holding k x.block g) (c.put_reserved.ensures.entries ∙ ap (with_holding h x.block (x.weight - g)) c.in_ok-reserve.ensures.entries)))
    (shared_weighed w c.self.invariant h k g x e (lowered_fresh w c.self.invariant h k g x e fresh) (omega arith) (omega arith))
