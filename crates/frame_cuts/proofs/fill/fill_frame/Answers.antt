use Rattle.std.proofs.Common.{◌≡◌, ℕ, ◌+◌, ◌-◌, ◌++◌, ◌≤◌, List, [], length, take, drop, ap, sym, refl, ◌∙◌, subst, arith, true, false}
use Rattle.std.proofs.lemmas.List.{length-append, length-drop, length-take-le, take_all, take-append-drop, append-nil}
use Rattle.inet_sum.specs.Stands.{StandsFor}
use Rattle.pcap_io.specs.Capture.{packet}
use Rattle.frame_layout.specs.Headers.{AtHeaders, AreLaid, size, all_headers}
use Rattle.frame_layout.specs.Candidate.{is_length_right}
use Rattle.frame_layout.specs.declared.layout.Header.{Header}
use Rattle.frame_layout.proofs.Lemmas.{laid}
use Rattle.wire_model.specs.Filling.{fates_of, fill_sums, no_header, with_bytes}
use Rattle.wire_fill.specs.Fated.{IsFated}
use Rattle.frame_cuts.specs.Cuts.{whole}
use Rattle.frame_cuts.proofs.Judging.{headers_in}
use Rattle.frame_cuts.proofs.Fillings.{some_filled, some_fated, whole_by}
use Rattle.frame_cuts.proofs.fill.fill_frame.Goals.{After-are_lengths_right, After-fill_sums}
use Rattle.frame_cuts.proofs.fill.fill_frame.Goals as goal

pub are_lengths_right-requires-clause-there : goal.are_lengths_right-requires-clause-there
are_lengths_right-requires-clause-there c =
    subst (AtHeaders (λ layer at. at + size layer ≤ length c.args.frame.now)) (sym c.headers.ensures.headers)
    (headers_in c.args.frame.now c.in_ok-layout.layout (sym c.in_ok-layout.ensures.shape))

-- what the test of the lengths says
lengths_are : (c : After-are_lengths_right) → c.are_lengths_right.result
    ≡ all_headers (is_length_right (length c.args.frame.now) c.args.frame.now) c.in_ok-layout.layout.headers
lengths_are c =
    let f : List ℕ = c.args.frame.now in
    c.are_lengths_right.ensures.right []
    ∙ ap (λ (z : List ℕ). all_headers (is_length_right (length f) z) c.headers.result.now) (append-nil f)
    ∙ ap (all_headers (is_length_right (length f) f)) c.headers.ensures.headers

pub returns-then-not-are_lengths_right-clause-filled : goal.returns-then-not-are_lengths_right-clause-filled
returns-then-not-are_lengths_right-clause-filled c =
    let p = whole c.args.frame.now in
    let at = goal.at.returns-then-not-are_lengths_right-clause-filled c in
    some_filled false p c.in_ok-layout.layout c.in_ok-layout.ensures.shape
    (whole_by c.in_ok-layout.layout p false refl (sym (lengths_are at.After-are_lengths_right) ∙ c.if-not-are_lengths_right.true))

pub returns-then-not-are_lengths_right-clause-none : goal.returns-then-not-are_lengths_right-clause-none
returns-then-not-are_lengths_right-clause-none c =
    let p = whole c.args.frame.now in
    let at = goal.at.returns-then-not-are_lengths_right-clause-none c in
    sym (some_fated false p c.in_ok-layout.layout c.in_ok-layout.ensures.shape
    (whole_by c.in_ok-layout.layout p false refl (sym (lengths_are at.After-are_lengths_right) ∙ c.if-not-are_lengths_right.true)))

pub fill_sums-requires-clause-laid : goal.fill_sums-requires-clause-laid
fill_sums-requires-clause-laid c =
    let f : List ℕ = c.args.frame.now in
    let n = c.payload_at-n.result in
    let long : length (take n f) ≡ c.in_ok-layout.layout.payload_at
    = length-take-le n f (omega (arith, c.in_ok-layout.ensures.within, c.payload_at-n.ensures.place))
    ∙ c.payload_at-n.ensures.place in
    subst (λ (z : List Header). AreLaid 0 z (length (take n f))) (sym c.headers-2.ensures.headers)
    (subst (AreLaid 0 c.in_ok-layout.layout.headers) (sym long) (laid f c.in_ok-layout.layout (sym c.in_ok-layout.ensures.shape)).0)

-- the payload's sum, and the frame that headers and payload are
module _ (c : After-fill_sums) where
  abbrev f : List ℕ
  f = c.args.frame.now

  abbrev n : ℕ
  n = c.payload_at-n.result

  stands : StandsFor c.add.new.self (drop n f)
  stands =
      subst (StandsFor c.add.new.self) (take_all (length f - n) (drop n f) (omega (arith, length-drop n f)))
      (c.add.ensures.sum [] c.new-payload.ensures.sum)

  filled : c.fill_sums.new.head ++ drop n f ≡ fill_sums false no_header c.in_ok-layout.layout.headers f
  filled =
      c.fill_sums.ensures.filled (drop n f) stands
      ∙ ap (λ (hs : List Header). fill_sums false no_header hs (take n f ++ drop n f)) c.headers-2.ensures.headers
      ∙ ap (fill_sums false no_header c.in_ok-layout.layout.headers) (take-append-drop n f)

  long : length (c.fill_sums.new.head ++ drop n f) ≡ length f
  long =
      length-append c.fill_sums.new.head (drop n f)
      ∙ ap (λ (z : ℕ). z + length (drop n f)) c.fill_sums.auto.head
      ∙ sym (length-append (take n f) (drop n f))
      ∙ ap length (take-append-drop n f)

pub returns-clause-filled : goal.returns-clause-filled
returns-clause-filled c =
    let at = goal.at.returns-clause-filled c in
    let p = whole c.args.frame.now in
    let q = at.After-fill_sums in
    ap (λ (z : ℕ). packet 0 0 0 z (c.fill_sums.new.head ++ drop (n q) (f q))) (long q)
    ∙ ap (with_bytes p) (filled q)
    ∙ some_filled true p c.in_ok-layout.layout c.in_ok-layout.ensures.shape
    (whole_by c.in_ok-layout.layout p true refl (sym (lengths_are at.After-are_lengths_right) ∙ c.if-not-are_lengths_right.false))

pub returns-clause-fates : goal.returns-clause-fates
returns-clause-fates c =
    let at = goal.at.returns-clause-fates c in
    let p = whole c.args.frame.now in
    let q = at.After-fill_sums in
    subst (λ z. IsFated z c.fill_sums.result)
    (ap (λ (hs : List Header). fates_of false no_header hs (take (n q) (f q) ++ drop (n q) (f q))) c.headers-2.ensures.headers
    ∙ ap (fates_of false no_header c.in_ok-layout.layout.headers) (take-append-drop (n q) (f q))
    ∙ some_fated true p c.in_ok-layout.layout c.in_ok-layout.ensures.shape
    (whole_by c.in_ok-layout.layout p true refl (sym (lengths_are at.After-are_lengths_right) ∙ c.if-not-are_lengths_right.false)))
    (c.fill_sums.ensures.fates (drop (n q) (f q)) (stands q))
