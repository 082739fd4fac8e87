use Rattle.std.proofs.Common.{◌≡◌, true, arith, sym, subst, ap, ◌∙◌, slice_set}
use Rattle.std.specs.Prelude.{is_none, not}
use Rattle.block_weight.specs.WeightRule.{full_weight}
use Rattle.ref_core.specs.WeightMachine.{WeightState, IsWeighed, holding_of, word_of}
use Rattle.ref_core.proofs.Weighing.{taken_weighed}
use Rattle.ref_core.proofs.weight_machine.WeightMachine.take.Goals as goal

pub invariant_of-self-then-is_none : goal.invariant_of-self-then-is_none
invariant_of-self-then-is_none c = let b = c.args.block in let h = c.args.holder in let old = c.self.inside in
    let w : WeightState = record { holdings = old.holdings.entries; words = old.words.items; memory = old.memory } in
    let zeros : word_of w b ≡ 0 = ap (λ (s : WeightState). word_of s b) c.self.view_is ∙ sym c.word.ensures.value ∙ c.if-word-eq0.true in
    let none : is_none c.holding_of.result ≡ true = ap not c.if-is_none.ensures in
    let fresh : is_none (holding_of h w.holdings) ≡ true = ap (λ (s : WeightState). is_none (holding_of h s.holdings)) c.self.view_is ∙ ap is_none (sym c.holding_of.ensures.value) ∙ none in
    subst (λ hs. IsWeighed (record { holdings = hs; words = slice_set old.words.items b full_weight; memory = old.memory })) (sym c.in_ok-insert.ensures.entries)
    (taken_weighed w c.self.invariant b h (omega arith) zeros fresh)
