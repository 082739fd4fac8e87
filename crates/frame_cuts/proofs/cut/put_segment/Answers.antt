use Rattle.std.proofs.Common.{◌≡◌, ℕ, ◌+◌, ◌-◌, ◌*◌, ◌++◌, [], List, length, take, drop, ap, sym, ◌∙◌, subst, arith}
use Rattle.std.proofs.lemmas.List.{take-append-le, take_all}
use Rattle.inet_sum.specs.Stands.{StandsFor}
use Rattle.segment_rule.specs.Segmentations.{segment_at, IsSegmentationOf}
use Rattle.segment_rule.proofs.Segments.{places}
use Rattle.frame_cuts.proofs.Places.{head_long, laid, ranges, segment_is}
use Rattle.frame_cuts.proofs.cut.put_segment.Goals.{After-copy_from_slice}
use Rattle.frame_cuts.proofs.cut.put_segment.Goals as goal

pub slice_bounds-headers-end : goal.slice_bounds-headers-end
slice_bounds-headers-end c =
    omega (
      arith,
      c.payload_at-at.ensures.place,
      (places c.args.cut.now c.in_bytes-frame.result.now c.in_bytes-frame.ensures.in_bytes
          (subst (IsSegmentationOf c.args.cut.now) (sym c.in_bytes-frame.ensures.same) c.requires.of)).low,
    )

module _ (c : After-copy_from_slice) where
  abbrev g : List ℕ
  g = c.in_bytes-frame.result.now

  is : IsSegmentationOf c.args.cut.now g
  is = subst (IsSegmentationOf c.args.cut.now) (sym c.in_bytes-frame.ensures.same) c.requires.of

  abbrev from : ℕ
  from = c.payload_at-at.result + c.args.i * c.args.cut.now.m

  from_is : from ≡ c.args.cut.now.layout.payload_at + c.args.i * c.args.cut.now.m
  from_is = ap (λ (z : ℕ). z + c.args.i * c.args.cut.now.m) c.payload_at-at.ensures.place

  headers : c.copy_from_slice.new.self ≡ take c.args.cut.now.layout.payload_at g
  headers = c.copy_from_slice.ensures.after ∙ ap (λ (z : ℕ). take z g) c.payload_at-at.ensures.place

  stands : StandsFor c.add.new.self (take c.min-len.result (drop from g))
  stands =
      let n : from + c.min-len.result - from ≡ c.min-len.result = omega arith in
      subst (λ (z : ℕ). StandsFor c.add.new.self (take z (drop from g))) n
      (c.add.ensures.sum [] c.new-sum.ensures.sum)

pub put_headers-requires-clause-laid : goal.put_headers-requires-clause-laid
put_headers-requires-clause-laid c =
    let p = (goal.at.put_headers-requires-clause-laid c).After-copy_from_slice in
    laid c.args.cut.now (g p) c.args.i c.in_bytes-frame.ensures.in_bytes (is p) c.requires.there (from p) c.min-len.result
    (from_is p) c.min-len.ensures c.copy_from_slice.new.self (headers p)

pub put_headers-requires-clause-ranges : goal.put_headers-requires-clause-ranges
put_headers-requires-clause-ranges c =
    let p = (goal.at.put_headers-requires-clause-ranges c).After-copy_from_slice in
    ranges c.args.cut.now (g p) c.args.i c.in_bytes-frame.ensures.in_bytes (is p) c.requires.there (from p) c.min-len.result
    (from_is p) c.min-len.ensures c.copy_from_slice.new.self (headers p) c.add.new.self (stands p)

pub returns : goal.returns
returns c =
    let p = (goal.at.returns c).After-copy_from_slice in
    let new = c.put_headers.new.head in
    let n = c.payload_at-at.result in
    let len = c.min-len.result in
    let long : length new ≡ n
    = c.put_headers.auto.head
    ∙ head_long c.args.cut.now (g p) c.args.i c.in_bytes-frame.ensures.in_bytes (is p) c.requires.there (from p) len
    (from_is p) c.min-len.ensures c.copy_from_slice.new.self (headers p)
    ∙ sym c.payload_at-at.ensures.place in
    record {
      segment = ap (λ (z : List ℕ). z ++ take len (drop (from p) c.args.frame.now))
          (take-append-le n new _ (omega (arith, long)) ∙ take_all n new (omega (arith, long)))
          ∙ subst (λ (z : List ℕ). new ++ take len (drop (from p) z) ≡ segment_at c.args.cut.now z c.args.i)
          c.in_bytes-frame.ensures.same
          (segment_is c.args.cut.now (g p) c.args.i c.in_bytes-frame.ensures.in_bytes (is p) c.requires.there (from p) len
          (from_is p) c.min-len.ensures c.copy_from_slice.new.self (headers p) new
          (c.put_headers.ensures.segment (take len (drop (from p) (g p))) (stands p)));
    }
