use Rattle.std.proofs.Common.{◌++◌, length, refl, sym, ap, ◌∙◌, arith, length-append}
use Rattle.std.proofs.lemmas.List.{get_or_append_left, drop_at}
use Rattle.inet_sum.specs.Sum.{fold_of}
use Rattle.wire_fill.proofs.sums.sum_over.Goals as goal

pub returns : goal.returns
returns c = record {
  sum = λ bytes s.
      let head = c.args.head.now in
      c.carried_sum.ensures.sum (head ++ bytes) (record {
        begins = λ k less. get_or_append_left head bytes 0 k less;
        long = omega (arith, length-append head bytes, s.1, c.len.ensures.len);
        fold = c.fold.ensures.fold bytes s ∙ ap fold_of (sym (drop_at head bytes (length head) refl));
      });
}
