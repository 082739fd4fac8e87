use Rattle.std.proofs.Common.{◌≡◌, ◌≢◌, ◌+◌, Some, arith, sym, subst, ap, ◌∙◌}
use Rattle.ref_core.specs.WeightMachine.{WeightState, IsWeighed, holding_of, with_holding}
use Rattle.ref_core.proofs.Weighing.{joined_weighed}
use Rattle.ref_core.proofs.weight_machine.WeightMachine.join.Goals as goal

pub invariant_of-self : goal.invariant_of-self
invariant_of-self c = let x = c.in-Some.held in let y = c.in-Some-holding_of.ends in let h = c.args.holder in let k = c.args.other in let old = c.self.inside in
    let w : WeightState = record { holdings = old.holdings.entries; words = old.words.items; memory = old.memory } in
    let e : holding_of h w.holdings ≡ Some x = subst (λ (s : WeightState). holding_of h s.holdings ≡ Some x) (sym c.self.view_is) (sym c.in-Some.ensures.value) in
    let f : holding_of k w.holdings ≡ Some y = subst (λ (s : WeightState). holding_of k s.holdings ≡ Some y) (sym c.self.view_is) (sym c.in-Some-holding_of.ensures.value) in
    let apart : h ≢ k = c.if-holder-other.false in let same : x.block ≡ y.block = omega arith in
    subst (λ hs. IsWeighed (record { holdings = hs; words = old.words.items; memory = old.memory }))
    (sym (c.put_again.ensures.entries ∙ ap (with_holding h x.block (x.weight + y.weight)) c.shift_remove.ensures.entries)) (joined_weighed w c.self.invariant h k x y e f apart same)
