use Rattle.std.proofs.Common.{◌≡◌, ◌+◌, ◌*◌, ◌/◌, inl, inr, length, drop, sym, ap, ◌∙◌, arith}
use Rattle.std.proofs.lemmas.Bool.{cases_lt}
use Rattle.std.proofs.lemmas.List.{take_rest}
use Rattle.inet_sum.specs.Sum.{word_sum, folded, fold_of as fold_of_bytes}
use Rattle.inet_sum.proofs.Folds.{folded-zero, folded-add}
use Rattle.inet_sum.proofs.Words.{words_more, around_is}
use Rattle.inet_sum.proofs.words_sum.Goals as goal

pub loop-i-preserved : goal.loop-i-preserved
loop-i-preserved c =
    let xs = c.args.bytes.now in
    let i = c.loop-i.i in
    record {
      fold = words_more xs i c.loop-i.sum c.around-sum.result (omega (arith, c.loop-i-test.true))
          (around_is _ _ _ _ c.word_at-word.ensures.value c.around-sum.ensures.kept)
          ∙ c.loop-i.invariant.fold;
      none = λ e. omega (arith, e);
    }

pub returns-clause-fold : goal.returns-clause-fold
returns-clause-fold c =
    let xs = c.args.bytes.now in
    let end : 8 * (length xs / 8) ≡ 8 * c.loop-i.i = omega (arith, c.loop-i.auto.i-end, c.loop-i-test.false) in
    let behind : folded c.rest_sum.result ≡ fold_of_bytes (drop (8 * c.loop-i.i) xs)
    = c.rest_sum.ensures.fold ∙ ap fold_of_bytes (take_rest xs (8 * (length xs / 8))) ∙ ap (λ z. fold_of_bytes (drop z xs)) end in
    sym (folded-add c.turned.result c.rest_sum.result)
    ∙ ap (λ z. folded (z + folded c.rest_sum.result)) c.turned.ensures.fold
    ∙ ap (λ z. folded (folded (256 * c.loop-i.sum) + z)) behind
    ∙ folded-add (256 * c.loop-i.sum) (word_sum (drop (8 * c.loop-i.i) xs))
    ∙ c.loop-i.invariant.fold

pub returns-clause-small : goal.returns-clause-small
returns-clause-small c = elim (cases_lt 0 c.loop-i.i) [
  | inl l ↦ omega (arith, c.turned.ensures.small, c.rest_sum.ensures.small, c.loop-i.auto.i-end, l)
  | inr l ↦
      let none : c.loop-i.sum ≡ 0 = c.loop-i.invariant.none (omega (arith, l)) in
      let zero : 256 * c.loop-i.sum ≡ 0 = omega (arith, none) in
      let nothing : c.turned.result ≡ 0 = folded-zero c.turned.result (c.turned.ensures.fold ∙ ap folded zero) in
      omega (arith, nothing, c.rest_sum.ensures.small)
]
