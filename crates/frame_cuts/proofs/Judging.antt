-- How a whole frame is cut.
use Rattle.std.proofs.Common.{◌≡◌, ℕ, ◌+◌, ◌-◌, ◌/◌, ◌<◌, ◌≤◌, List, [], ◌++◌, length, Option, None, Some}
use Rattle.std.proofs.Common.{sym, ap, refl, subst, arith}
use Rattle.std.specs.Prelude.{IfNone, IfSome}
use Rattle.std.proofs.lemmas.List.{append-nil}
use Rattle.net_bytes.specs.Bytes.{byte}
use Rattle.inet_sum.specs.Stands.{FoldAndLength, StandsFor}
use Rattle.frame_layout.specs.Front.{IsFrameOf}
use Rattle.frame_layout.specs.Headers.{AtHeaders, size}
use Rattle.frame_layout.specs.Segment.{IsSegOf}
use Rattle.frame_layout.specs.Shape.{Layout, shape_of}
use Rattle.frame_layout.specs.declared.segment.Seg.{Seg}
use Rattle.frame_layout.proofs.Lemmas.{headers_map, inside_all, laid}
use Rattle.pcap_io.specs.Capture.{packet}
use Rattle.pcap_io.specs.declared.off_head.OffHead2.{OffHead2}
use Rattle.offload_model.specs.Segments.{IsLawfulSuper}
use Rattle.segment_rule.specs.declared.segmentation.Segmentation.{Segmentation}
use Rattle.segment_rule.specs.Segmentations.{HasNumbersOf, IsJudged, IsSegmentationOf}
use Rattle.segment_rule.proofs.Judged.{same_layout}
use Rattle.frame_cuts.specs.Cuts.{cut_head, whole}
use Rattle.frame_cuts.proofs.Counting.{pieces}

-- all of a frame is known
pub all_known : (f : List ℕ) (none : FoldAndLength) → StandsFor none [] → ((k : ℕ) → byte f k < 256) → IsFrameOf f none f
all_known f none stands bytes = record { tail = []; joined = sym (append-nil f); sum = stands; in_bytes = bytes }

-- headers stand in the bytes that have their shape
pub headers_in : (f : List ℕ) (l : Layout) → shape_of f ≡ Some l
    → AtHeaders (λ layer at. at + size layer ≤ length f) l.headers
headers_in f l e =
    let k = laid f l e in
    headers_map (λ layer at h. omega (arith, h, k.1)) l.headers (inside_all 0 l.payload_at l.headers k.0)

pub judged_whole : (head : OffHead2) (f : List ℕ) (s : Seg) (r : Option Segmentation) → IsSegOf f (length f) (Some s)
    → ((original : ℕ) (rest : List ℕ) → IsSegOf (f ++ rest) original (Some s)
    → IsJudged head (packet 0 0 0 original (f ++ rest)) r) → IsJudged head (whole f) r
judged_whole head f s r seg j =
    subst (λ (z : List ℕ). IsJudged head (packet 0 0 0 (length f) z) r) (append-nil f)
    (j (length f) [] (subst (λ (z : List ℕ). IsSegOf z (length f) (Some s)) (sym (append-nil f)) seg))

module _ (f : List ℕ) (s : Seg) (m modes : ℕ) (seg : IsSegOf f (length f) (Some s)) where
  abbrev n₀ : ℕ
  n₀ = (s.payload_len + (m - 1)) / m

  -- no other number of segments is lawful
  number : (n : ℕ) → IsLawfulSuper (cut_head n m modes) (whole f) → n ≡ n₀
  number n l =
      let c = l.cuttable in
      let same : l.layout.payload_at ≡ s.layout.payload_at
      = ap (λ (z : Layout). z.payload_at) (same_layout f s l.layout seg.1 c.shape_is) in
      sym (pieces n m s.payload_len c.full (omega (arith, c.several)) (omega (arith, c.above, same, seg.1.payload_len))
      (omega (arith, c.within, same, seg.1.payload_len)))

  pub refused_all : (r : Option Segmentation) → IsJudged (cut_head n₀ m modes) (whole f) r
      → IfNone r ((n : ℕ) → IsLawfulSuper (cut_head n m modes) (whole f) → ⊥)
  refused_all None j = λ n l. j (subst (λ (z : ℕ). IsLawfulSuper (cut_head z m modes) (whole f)) (number n l) l)
  refused_all (Some cut) j = tt

  pub lawful_all : (r : Option Segmentation) → IsJudged (cut_head n₀ m modes) (whole f) r
      → IfSome r (λ cut. IsLawfulSuper (cut_head cut.n m modes) (whole f))
  lawful_all None j = tt
  lawful_all (Some cut) j = subst (λ (z : ℕ). IsLawfulSuper (cut_head z m modes) (whole f)) (sym j.2.n) j.0

  pub of_all : (r : Option Segmentation) → IsJudged (cut_head n₀ m modes) (whole f) r
      → IfSome r (λ cut. IsSegmentationOf cut f)
  of_all None j = tt
  of_all (Some cut) j = j.1

  pub numbers_all : (r : Option Segmentation) → IsJudged (cut_head n₀ m modes) (whole f) r
      → IfSome r (λ cut. HasNumbersOf (cut_head cut.n m modes) cut)
  numbers_all None j = tt
  numbers_all (Some cut) j = record { n = refl; m = j.2.m; modes = j.2.modes }
