use Rattle.std.proofs.Common.{◌*◌, ◌/◌, ◌++◌, length, take-append-drop, ap, ◌∙◌, arith}
use Rattle.inet_sum.specs.Sum.{fold_of as fold_of_bytes}
use Rattle.inet_sum.proofs.Folds.{even_total}
use Rattle.inet_sum.proofs.long_sum.Goals as goal

pub returns-clause-fold : goal.returns-clause-fold
returns-clause-fold c =
    let halves = c.split_at.result in
    even_total halves.0.now halves.1.now c.pairs_sum.result c.words_sum.result (omega (arith, c.split_at.ensures.front_len)) c.pairs_sum.ensures.fold c.words_sum.ensures.fold
    ∙ ap fold_of_bytes ((λ i. c.split_at.ensures.front i ++ c.split_at.ensures.back i) ∙ take-append-drop (length c.args.bytes.now / 16 * 16) c.args.bytes.now)
