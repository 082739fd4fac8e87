use Rattle.std.proofs.Common.{length-append, ap, ◌∙◌, arith}
use Rattle.inet_sum.proofs.Folds.{joined_is}
use Rattle.inet_sum.proofs.partial.Partial.joined.Goals as goal

pub returns-clause-sum : goal.returns-clause-sum
returns-clause-sum c = λ front back f b. (
  c.joined_fold.ensures.fold
      ∙ joined_is front back c.self.inside.fold c.other.inside.fold c.self.inside.len
      (ap (λ v. v.fold) c.self.view_is ∙ f.0) (ap (λ v. v.fold) c.other.view_is ∙ b.0) (ap (λ v. v.len) c.self.view_is ∙ f.1),
  omega (arith, ap (λ v. v.len) c.self.view_is, ap (λ v. v.len) c.other.view_is, f.1, b.1, length-append front back),
)
