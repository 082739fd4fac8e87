-- A segment of a merged frame, as it is compared.
use Rattle.std.proofs.Common.{◌≡◌, ◌≢◌, ℕ, suc, ◌+◌, ◌-◌, ◌*◌, ◌^◌, ◌<◌, ◌≤◌, inl, inr, Bool, false, List, [], ◌∷◌, ◌++◌, length, min, take, drop, sym, ap, ◌∙◌, subst, arith, length-take, length-drop}
use Rattle.std.proofs.Common.{length-append, length-take-le}
use Rattle.std.specs.Prelude.{Decides}
use Rattle.std.proofs.lemmas.List.{take_min, drop-drop, drop_all}
use Rattle.std.proofs.Math.Seq.{take-append_seam, drop-append_seam}
use Rattle.std.proofs.lemmas.Bool.{cases_lt}
use Rattle.frame_layout.specs.Headers.{AtHeaders, AreLaid}
use Rattle.frame_layout.proofs.Lemmas.{IsPlaced}
use Rattle.offload_model.specs.Mergeable.{IsLengthInRange}
use Rattle.segment_rule.specs.declared.segmentation.Segmentation.{Segmentation}
use Rattle.segment_rule.specs.Segmentations.{IsSegmentationOf, segment_at, segment_from, payload_at}
use Rattle.segment_rule.proofs.Segments.{places, near, segment_ranges}
use Rattle.skb.specs.Checksum.{AreBytes}
use Rattle.pcap_io.specs.Capture.{Packet}
use Rattle.offload_model.specs.Segments.{with_frame}
use Rattle.comparing.specs.Segments.{IsCutTo, segments_from}

drop_min : (n : ℕ) (xs : List ℕ) → drop (min n (length xs)) xs ≡ drop n xs
drop_min n xs = elim (cases_lt n (length xs)) [
  | inl l ↦ ap (λ (k : ℕ). drop k xs) (omega arith)
  | inr l ↦ drop_all (min n (length xs)) xs (omega arith) ∙ sym (drop_all n xs l)
]

pub least_inside : (m n : ℕ) (payload own : List ℕ) → n ≡ min m (length payload) → own ≡ payload → n ≤ length own
least_inside m n payload own least e = omega (arith, least, ap length e)

module _ (cut : Segmentation) (f headers payload : List ℕ) (i : ℕ) (is : IsCutTo cut f headers i payload) where
  placed : IsPlaced f cut.layout
  placed = places cut f is.in_bytes is.of

  -- where the segment's payload begins
  pub near_at : i < cut.n → i * cut.m < 2 ^ 32
  near_at less = near cut f i is.of is.short less

  pub size : length headers ≡ cut.layout.payload_at
  size = ap length is.front ∙ length-take-le cut.layout.payload_at f placed.within

  pub laid_at : (h : List ℕ) → h ≡ headers → AreLaid 0 cut.layout.headers (length h)
  laid_at h e = subst (AreLaid 0 cut.layout.headers) (sym (ap length e ∙ size)) placed.laid

  own : take cut.m payload ≡ payload_at cut f i
  own = ap (take cut.m) is.rest

  module _ (n : ℕ) (least : n ≡ min cut.m (length payload)) where
    own_n : take n payload ≡ payload_at cut f i
    own_n = ap (λ (k : ℕ). take k payload) least ∙ take_min cut.m payload ∙ own

    long : length (payload_at cut f i) ≡ n
    long = sym (ap length own) ∙ omega (arith, least, length-take cut.m payload)

    pub ranges_at : (h : List ℕ) (sum : ℕ) → h ≡ headers → sum ≡ n → AtHeaders (IsLengthInRange (length h + sum)) cut.layout.headers
    ranges_at h sum e s =
        subst (λ (k : ℕ). AtHeaders (IsLengthInRange k) cut.layout.headers) (omega (arith, ap length e, size, long, s)) (segment_ranges cut f i is.in_bytes is.of)

    pub few_bytes : (h : List ℕ) (sum : ℕ) → length headers ≤ 200 → h ≡ headers → sum ≡ n → length h + sum < 2 ^ 31
    few_bytes h sum low e s = omega (
      arith,
      low,
      ap length e,
      s,
      least,
      ap length is.rest,
      length-drop (i * cut.m) (drop cut.layout.payload_at f),
      length-drop cut.layout.payload_at f,
      is.short,
    )

    -- the segment's header, made from the frame's, and its own payload are the segment
    pub segment_is : (h header : List ℕ) → h ≡ headers → header ++ take n payload ≡ segment_from cut i (h ++ take n payload) → header ++ take n payload ≡ segment_at cut f i
    segment_is h header e made =
        made ∙ ap (λ (z : List ℕ). segment_from cut i (z ++ take n payload)) (e ∙ is.front)
        ∙ ap (λ (z : List ℕ). segment_from cut i (take cut.layout.payload_at f ++ z)) own_n

    pub next_is : (new : List ℕ) → new ≡ drop n payload → IsCutTo cut f headers (i + 1) new
    next_is new e = record {
      in_bytes = is.in_bytes;
      short = is.short;
      of = is.of;
      front = is.front;
      rest = e ∙ ap (λ (k : ℕ). drop k payload) least ∙ drop_min cut.m payload ∙ ap (drop cut.m) is.rest
          ∙ drop-drop cut.m (i * cut.m) (drop cut.layout.payload_at f)
          ∙ ap (λ (k : ℕ). drop k (drop cut.layout.payload_at f)) (omega arith);
    }

    total : (header seg : List ℕ) → header ++ take n payload ≡ seg → length seg ≡ length header + n
    total header seg e = sym (ap length e) ∙ omega (arith, length-append header (take n payload), ap length own_n, long)

    -- a packet of another length isn't the segment
    pub other_length : (header bytes : List ℕ) (original : ℕ) (seg : List ℕ) → header ++ take n payload ≡ seg → original ≢ length header + n
        → Decides false ((original ≡ length seg) × (bytes ≡ seg))
    other_length header bytes original seg e other = (λ t. absurd cc, λ h. absurd (other (h.0 ∙ total header seg e)))

    pub same_length : (b : Bool) (header bytes : List ℕ) (original : ℕ) (seg : List ℕ) → header ++ take n payload ≡ seg → original ≡ length header + n
        → Decides b (bytes ≡ header ++ take n payload) → Decides b ((original ≡ length seg) × (bytes ≡ seg))
    same_length b header bytes original seg e o d = (λ t. (o ∙ sym (total header seg e), d.0 t ∙ e), λ h. d.1 (h.1 ∙ sym e))

-- no segment's payload was passed
pub started : (cut : Segmentation) (f headers payload : List ℕ) → AreBytes f → length f ≤ 262144 → IsSegmentationOf cut f → headers ++ payload ≡ f → length headers ≡ cut.layout.payload_at
    → IsCutTo cut f headers 0 payload
started cut f headers payload b short of e l = record {
  in_bytes = b;
  short = short;
  of = of;
  front = sym (take-append_seam headers payload) ∙ ap (λ (k : ℕ). take k (headers ++ payload)) l ∙ ap (take cut.layout.payload_at) e;
  rest = sym (drop-append_seam headers payload) ∙ ap (λ (k : ℕ). drop k (headers ++ payload)) l ∙ ap (drop cut.layout.payload_at) e
      ∙ ap (λ (k : ℕ). drop k (drop cut.layout.payload_at f)) (let z : 0 ≡ 0 * cut.m = omega arith in z);
}

-- one segment is the next of those that are left
pub one_more : (cut : Segmentation) (p : Packet) (i n : ℕ) → i < n → segments_from cut p i (n - i) ≡ with_frame p (segment_at cut p.frame i) ∷ segments_from cut p (i + 1) (n - (i + 1))
one_more cut p i n l = ap (segments_from cut p i) (let k : n - i ≡ suc (n - (i + 1)) = omega arith in k)

pub none_more : (cut : Segmentation) (p : Packet) (i n : ℕ) → n ≤ i → segments_from cut p i (n - i) ≡ []
none_more cut p i n l = ap (segments_from cut p i) (let k : n - i ≡ 0 = omega arith in k)
