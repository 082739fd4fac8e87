use Rattle.std.proofs.Common.{◌≡◌, ℕ, List, length, Some, sym, ◌∙◌, subst}
use Rattle.frame_layout.specs.Candidate.{IsCandidate}
use Rattle.frame_layout.specs.Shape.{Layout}
use Rattle.frame_causes.proofs.Deciding.{candidate_from, candidate_to}
use Rattle.frame_causes.proofs.judging.why.Goals as goal

pub returns-in-Some-clause-candidate : goal.returns-in-Some-clause-candidate
returns-in-Some-clause-candidate c =
    let f : List ℕ = c.args.frame.now in
    let l : Layout = c.in-Some.layout in
    let n : length f ≡ c.args.original = c.if-frame-original.false in
    let cause = c.layout_why.ensures.cause in (
      λ e. (
        l,
        (
          sym c.in-Some.ensures.shape,
          subst (λ (z : ℕ). IsCandidate f z l) n (candidate_from f l (sym cause ∙ e)),
        ),
      ),
      λ k.
          let both : Some k.0 ≡ Some l = sym k.1.0 ∙ sym c.in-Some.ensures.shape in
          let same : k.0 ≡ l = cc in
          cause
          ∙ candidate_to f l (subst (λ (z : ℕ). IsCandidate f z l) (sym n) (subst (IsCandidate f c.args.original) same k.1.1)),
    )
