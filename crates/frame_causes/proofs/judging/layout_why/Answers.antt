use Rattle.std.proofs.Common.{◌≡◌, ℕ, ◌+◌, ◌≤◌, List, [], length, Some, sym, ap, ◌∙◌, subst, arith}
use Rattle.std.proofs.lemmas.Bool.{false≢true, le-ltb, lt-ltb}
use Rattle.std.proofs.lemmas.List.{append-nil}
use Rattle.frame_layout.specs.Candidate.{IsCandidate, is_length_right, are_flags_plain}
use Rattle.frame_layout.specs.Headers.{AtHeaders, all_headers, size}
use Rattle.frame_layout.specs.Shape.{Layout}
use Rattle.frame_causes.proofs.Deciding.{lengths, flags, sums_right, sums_wrong, headers_in}
use Rattle.frame_causes.proofs.Deciding.{length_is, flags_are, empty_is, sum_is, merges}
use Rattle.frame_causes.proofs.judging.layout_why.Goals.{After-are_lengths_right, After-are_flags_plain, After-payload_at}
use Rattle.frame_causes.proofs.judging.layout_why.Goals as goal

pub are_lengths_right-requires-clause-there : goal.are_lengths_right-requires-clause-there
are_lengths_right-requires-clause-there c =
    subst (AtHeaders (λ layer at. at + size layer ≤ length c.args.frame.now)) (sym c.headers-headers.ensures.headers)
    (headers_in c.args.frame.now c.args.layout.now c.requires.shape)

pub are_flags_plain-requires : goal.are_flags_plain-requires
are_flags_plain-requires c = record {
  there = subst (AtHeaders (λ layer at. at + size layer ≤ length c.args.frame.now)) (sym c.headers-headers.ensures.headers)
      (headers_in c.args.frame.now c.args.layout.now c.requires.shape);
}

lengths_are : (c : After-are_lengths_right) → lengths c.args.frame.now c.args.layout.now ≡ c.are_lengths_right.result
lengths_are c =
    let f : List ℕ = c.args.frame.now in
    sym (
    c.are_lengths_right.ensures.right []
    ∙ ap (λ (z : List ℕ). all_headers (is_length_right (length f) z) c.headers-headers.result.now) (append-nil f)
    ∙ ap (all_headers (is_length_right (length f) f)) c.headers-headers.ensures.headers
    )

flags_as : (c : After-are_flags_plain) → flags c.args.frame.now c.args.layout.now ≡ c.are_flags_plain.result
flags_as c =
    sym (c.are_flags_plain.ensures.plain ∙ ap (all_headers (are_flags_plain c.args.frame.now)) c.headers-headers.ensures.headers)

pub returns-then-not-are_lengths_right : goal.returns-then-not-are_lengths_right
returns-then-not-are_lengths_right c = record {
  cause = length_is c.args.frame.now c.args.layout.now c.are_lengths_right.result
      (lengths_are (goal.at.returns-then-not-are_lengths_right c).After-are_lengths_right) c.if-not-are_lengths_right.true;
}

pub returns-then-not-are_flags_plain : goal.returns-then-not-are_flags_plain
returns-then-not-are_flags_plain c =
    let p = goal.at.returns-then-not-are_flags_plain c in
    record {
      cause = flags_are c.args.frame.now c.args.layout.now c.are_lengths_right.result (lengths_are p.After-are_lengths_right)
          c.are_flags_plain.result (flags_as p.After-are_flags_plain) c.if-not-are_lengths_right.false c.if-not-are_flags_plain.true;
    }

pub returns-then-frame-payload_at : goal.returns-then-frame-payload_at
returns-then-frame-payload_at c =
    let p = goal.at.returns-then-frame-payload_at c in
    record {
      cause = empty_is c.args.frame.now c.args.layout.now c.are_lengths_right.result (lengths_are p.After-are_lengths_right)
          c.are_flags_plain.result (flags_as p.After-are_flags_plain) c.if-not-are_lengths_right.false c.if-not-are_flags_plain.false
          (le-ltb c.args.layout.now.payload_at (length c.args.frame.now) (omega (arith, c.if-frame-payload_at.true, c.payload_at.ensures.place)));
    }

pub returns-then-not-is_candidate : goal.returns-then-not-is_candidate
returns-then-not-is_candidate c =
    let p = goal.at.returns-then-not-is_candidate c in
    let f : List ℕ = c.args.frame.now in
    let l : Layout = c.args.layout.now in
    let more = lt-ltb l.payload_at (length f) (omega (arith, c.if-frame-payload_at.false, c.payload_at.ensures.place)) in
    let none : IsCandidate f (length f) l → ⊥ = λ k.
    false≢true (sym c.if-not-is_candidate.true ∙ c.is_candidate.ensures.candidate.1 (l, (c.requires.shape, k))) in
    record {
      cause = sum_is f l c.are_lengths_right.result (lengths_are p.After-are_lengths_right) c.are_flags_plain.result
          (flags_as p.After-are_flags_plain) c.if-not-are_lengths_right.false c.if-not-are_flags_plain.false more
          (sums_wrong f l (lengths_are p.After-are_lengths_right ∙ c.if-not-are_lengths_right.false)
          (flags_as p.After-are_flags_plain ∙ c.if-not-are_flags_plain.false) more none);
    }

pub returns : goal.returns
returns c =
    let p = goal.at.returns c in
    let f : List ℕ = c.args.frame.now in
    let l : Layout = c.args.layout.now in
    let more = lt-ltb l.payload_at (length f) (omega (arith, c.if-frame-payload_at.false, c.payload_at.ensures.place)) in
    let some = c.is_candidate.ensures.candidate.0 c.if-not-is_candidate.false in
    let both : Some some.0 ≡ Some l = sym some.1.0 ∙ c.requires.shape in
    let same : some.0 ≡ l = cc in
    record {
      cause = merges f l c.are_lengths_right.result (lengths_are p.After-are_lengths_right) c.are_flags_plain.result
          (flags_as p.After-are_flags_plain) c.if-not-are_lengths_right.false c.if-not-are_flags_plain.false more
          (sums_right f l (subst (IsCandidate f (length f)) same some.1.1));
    }
