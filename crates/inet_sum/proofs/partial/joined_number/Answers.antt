use Rattle.std.proofs.Common.{sym, ap, ◌+◌, ◌*◌, ◌∙◌, arith}
use Rattle.inet_sum.specs.Sum.{folded, joined_fold}
use Rattle.inet_sum.proofs.Folds.{folded-behind}
use Rattle.inet_sum.proofs.partial.joined_number.Goals as goal

pub returns : goal.returns
returns c = record {
  fold = c.fold_number-2.ensures.fold
      ∙ ap (λ z. folded (z + c.args.second)) c.from.ensures
      ∙ folded-behind c.args.first c.args.second (omega arith)
      ∙ ap (λ z. joined_fold z c.args.first (folded c.args.second)) (sym c.if-is_odd.false);
}

pub returns-then-is_odd : goal.returns-then-is_odd
returns-then-is_odd c = record {
  fold = c.joined_fold.ensures.fold
      ∙ ap (λ z. folded (c.args.first + 256 * z)) c.fold_number.ensures.fold
      ∙ ap (λ z. joined_fold z c.args.first (folded c.args.second)) (sym c.if-is_odd.true);
}
