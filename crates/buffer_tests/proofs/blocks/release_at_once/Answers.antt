use Rattle.std.proofs.Common.{rules, ◌≡◌, IfSome, sym, ◌∙◌}
use Rattle.core.specs.declared.option.Option.{Option}
use Rattle.core.specs.declared.option.Option.TheVariants.{Some, None}
use Rattle.raw_block.specs.Views.{Life, ReceiptState}
use Rattle.buffer_tests.proofs.blocks.release_at_once.Goals as goal

one_life : (l : Life) (x y : Option ReceiptState) → IfSome x (λ r. r.life ≡ l) → IfSome y (λ s. s.life ≡ l)
    → IfSome x (λ r. IfSome y (λ s. s.life ≡ r.life))
one_life l (Some x) (Some y) h k = k ∙ sym h
one_life l (Some x) None h k = tt
one_life l None y h k = tt

pub both-requires-3 : goal.both-requires-3
both-requires-3 g c = record {
  life = let l : Life = c.share.result.life in
      let a : IfSome c.join-front.result.0.0.1 (λ r. r.life ≡ l) = search rules in
      let b : IfSome c.join-front.result.0.1.1 (λ r. r.life ≡ l) = search rules in
      let d : IfSome c.join-front.result.1.0.1 (λ r. r.life ≡ l) = search rules in
      let e : IfSome c.join-front.result.1.1.1 (λ r. r.life ≡ l) = search rules in
      one_life l c.both.result c.both-2.result (c.both.ensures.life l a b) (c.both-2.ensures.life l d e);
}
