-- What is said of all segments.
use Rattle.std.proofs.Common.{zero, suc, ◌≡◌, ℕ, ◌+◌, ◌<◌, ◌≤◌, List, [], ◌∷◌, length, map, take, get_or, set}
use Rattle.std.proofs.Common.{inl, inr, sym, ap, ◌∙◌, refl, subst, arith}
use Rattle.std.specs.List.{range_with_len}
use Rattle.std.proofs.lemmas.Bool.{cases_lt}
use Rattle.std.proofs.lemmas.List.{get_or-set_other, get_or-set_same, length-take-le}
use Rattle.std.proofs.lemmas.Simd.{map-map}
use Rattle.pcap_io.specs.Capture.{Packet}
use Rattle.offload_model.specs.Segments.{segments_by, with_frame, IsLawfulSuper}
use Rattle.segment_rule.specs.declared.segmentation.Segmentation.{Segmentation}
use Rattle.segment_rule.specs.Segmentations.{segment_at, HasNumbersOf, IsSegmentationOf}
use Rattle.segment_rule.proofs.Judged.{segments_are}
use Rattle.frame_cuts.specs.declared.cut.CutSegment.{CutSegment}
use Rattle.frame_cuts.specs.Cuts.{bytes_of, cut_head, whole, Cuts}

-- the first n are these
abbrev pub Told : (ℕ → List ℕ) → List ℕ → List CutSegment → ℕ → Type 0
Told G f segs n = (k : ℕ) (o : CutSegment) → k < n → bytes_of f (get_or segs k o) ≡ G k

pub told_more : (G : ℕ → List ℕ) (f : List ℕ) (segs : List CutSegment) (i : ℕ) (x : CutSegment) → i < length segs
    → Told G f segs i → bytes_of f x ≡ G i → Told G f (set segs i x) (i + 1)
told_more G f segs i x inside before own k o h = elim (cases_lt k i) [
  | inl l ↦ ap (bytes_of f) (get_or-set_other segs i k x o (omega (arith, l))) ∙ before k o l
  | inr r ↦
      let e : i ≡ k = omega (arith, h, r) in
      subst (λ (z : ℕ). bytes_of f (get_or (set segs i x) z o) ≡ G z) e
      (ap (bytes_of f) (get_or-set_same segs i x o inside) ∙ own)
]

all_told : (G : ℕ → List ℕ) (f : List ℕ) (segs : List CutSegment) (from n : ℕ) → n ≤ length segs
    → ((k : ℕ) (o : CutSegment) → k < n → bytes_of f (get_or segs k o) ≡ G (from + k))
    → map (bytes_of f) (take n segs) ≡ map G (range_with_len from n)
all_told G f segs from zero room told = refl
all_told G f [] from (suc n) room told = absurd (omega (arith, room))
all_told G f (x ∷ segs) from (suc n) room told =
    let here : from + 0 ≡ from = omega arith in
    ap (λ (z : List ℕ). z ∷ map (bytes_of f) (take n segs)) (told 0 x (omega arith) ∙ ap G here)
    ∙ ap (λ (z : List (List ℕ)). G from ∷ z)
    (all_told G f segs (from + 1) n (omega (arith, room)) (λ k o h.
    let e : from + suc k ≡ from + 1 + k = omega arith in
    told (suc k) o (omega (arith, h)) ∙ ap G e))

pub cuts : (m modes : ℕ) (f : List ℕ) (cut : Segmentation) (segs : List CutSegment) (n : ℕ) → n ≡ cut.n
    → n ≤ length segs → IsLawfulSuper (cut_head cut.n m modes) (whole f) → IsSegmentationOf cut f
    → HasNumbersOf (cut_head cut.n m modes) cut → Told (segment_at cut f) f segs n → Cuts m modes f (take n segs)
cuts m modes f cut segs n same room lawful is numbers told =
    let long : length (take n segs) ≡ cut.n = length-take-le n segs room ∙ same in
    let head = cut_head cut.n m modes in
    let frames : map (λ (p : Packet). p.frame) (segments_by head (whole f)) ≡ map (segment_at cut f) (range_with_len 0 cut.n)
    = ap (map (λ (p : Packet). p.frame)) (segments_are head (whole f) cut refl numbers is.shape_is)
    ∙ map-map (λ (p : Packet). p.frame) (λ i. with_frame (whole f) (segment_at cut f i)) (range_with_len 0 cut.n) in
    record {
      lawful = subst (λ (z : ℕ). IsLawfulSuper (cut_head z m modes) (whole f)) (sym long) lawful;
      segments = all_told (segment_at cut f) f segs 0 n room
          (λ k o h. told k o h ∙ ap (segment_at cut f) (let e : k ≡ 0 + k = omega arith in e))
          ∙ ap (λ (z : ℕ). map (segment_at cut f) (range_with_len 0 z)) same
          ∙ sym frames
          ∙ ap (λ (z : ℕ). map (λ (p : Packet). p.frame) (segments_by (cut_head z m modes) (whole f))) (sym long);
    }
