use Rattle.std.proofs.Common.{length-append, ap, ◌∙◌, arith}
use Rattle.inet_sum.proofs.Folds.{joined_is}
use Rattle.inet_sum.proofs.partial.Partial.with.Goals as goal

pub returns-clause-sum : goal.returns-clause-sum
returns-clause-sum c = λ front s. (
  c.joined_number.ensures.fold
      ∙ joined_is front c.args.bytes.now c.self.inside.fold _ c.self.inside.len
      (ap (λ v. v.fold) c.self.view_is ∙ s.0) c.unfolded.ensures.fold (ap (λ v. v.len) c.self.view_is ∙ s.1),
  omega (arith, ap (λ v. v.len) c.self.view_is, s.1, length-append front c.args.bytes.now),
)
