use Rattle.std.proofs.Common.{◌≡◌, Some, arith, sym, subst, ap, ◌∙◌, slice_set}
use Rattle.block_weight.specs.WeightRule.{full_weight}
use Rattle.ref_core.specs.WeightMachine.{WeightState, IsWeighed, holding_of, word_of}
use Rattle.ref_core.proofs.Weighing.{claimed_weighed}
use Rattle.ref_core.proofs.weight_machine.WeightMachine.claim.Goals as goal

pub invariant_of-self : goal.invariant_of-self
invariant_of-self c = let x = c.in-Some.held in let h = c.args.holder in let old = c.self.inside in
    let w : WeightState = record { holdings = old.holdings.entries; words = old.words.items; memory = old.memory } in
    let e : holding_of h w.holdings ≡ Some x = subst (λ (s : WeightState). holding_of h s.holdings ≡ Some x) (sym c.self.view_is) (sym c.in-Some.ensures.value) in
    let word : c.word.result ≡ word_of w x.block = c.word.ensures.value ∙ ap (λ (s : WeightState). word_of s x.block) (sym c.self.view_is) in
    let same : x.weight ≡ word_of w x.block = omega arith in
    subst (λ hs. IsWeighed (record { holdings = hs; words = slice_set old.words.items x.block full_weight; memory = old.memory })) (sym c.put_again.ensures.entries)
    (claimed_weighed w c.self.invariant h x e same)
