-- How long what segmenting writes is at most.
use Rattle.std.proofs.Common.{◌≡◌, ℕ, zero, suc, ◌+◌, ◌-◌, ◌*◌, ◌≤◌, inl, inr, Bool, true, false, Option, None, Some, List, [], ◌∷◌, length, map, take, drop, refl, ap, ◌∙◌, arith, length-append}
use Rattle.std.proofs.Common.{length-drop, length-take}
use Rattle.std.specs.Prelude.{◌==◌, if◌then◌else◌}
use Rattle.std.specs.List.{flat_map, range_with_len, AllByRecursion}
use Rattle.std.specs.Option.{unwrap_or}
use Rattle.std.proofs.lemmas.List.{length-map}
use Rattle.std.proofs.lemmas.List.FromFn.{length-range_with_len}
use Rattle.net_bytes.specs.declared.order.Order.{Order}
use Rattle.frame_layout.specs.Shape.{Layout, shape_of}
use Rattle.frame_layout.proofs.Lemmas.{bounds}
use Rattle.pcap_io.specs.declared.faults.CapFault.{CapFault}
use Rattle.pcap_io.specs.declared.faults.CapKind.{CapKind}
use Rattle.pcap_io.specs.declared.faults.CapKind.TheVariants.{BadOffload}
use Rattle.pcap_io.specs.declared.heads.FileHead.{FileHead}
use Rattle.pcap_io.specs.declared.heads.Link.{Link}
use Rattle.pcap_io.specs.declared.heads.Link.TheVariants.{Ethernet, Offload}
use Rattle.pcap_io.specs.declared.off_head.OffHead2.{OffHead2}
use Rattle.pcap_io.specs.Capture.{Packet, Found, packet_at, judged, found_after, reads, records_from, one_more, ended}
use Rattle.pcap_io.specs.Headers.{first_that_holds, file_refusals, record_refusals, file_head, captured_length, any_head, head_size, fields_in}
use Rattle.pcap_io.specs.Places.{first_place}
use Rattle.pcap_io.specs.Written.{file_bytes}
use Rattle.pcap_io.proofs.Fronts.{file_whole}
use Rattle.offload_model.specs.Frames.{segment_frame}
use Rattle.offload_model.specs.Laws.{InBytes}
use Rattle.offload_model.specs.Merged.{layout_of, is_fixed}
use Rattle.offload_model.specs.Need.{exceeded_record_at, found_before}
use Rattle.offload_model.specs.Passing.{behind_head, segmenting}
use Rattle.offload_model.specs.Segments.{packet_in, merged_in, frames_of, with_frame, segments_by, segments_of, IsLawfulBy}
use Rattle.offload_model.specs.Tested.{tested_from}
use Rattle.offload_model.specs.Tests.{is_lawful_record}
use Rattle.offload_model.specs.Written.{record_bytes}
use Rattle.offload_model.proofs.Captured.{take_small, drop_small}
use Rattle.offload_model.proofs.Decides.{decides_record}
use Rattle.offload_model.proofs.Lists.{all_taken}
use Rattle.offload_c.specs.Bounds.{segment_bound, packets_cut, SegmentedFits}
use Rattle.offload_c.proofs.Totals.{total, total_append}
use Rattle.offload_c.proofs.Sizes.{size, file_long, records_long, read_size, segment_long}

-- ---- one record

layout_low : (f : List ℕ) (shape : Option Layout) → shape_of f ≡ shape → InBytes f → (unwrap_or shape (record { headers = []; payload_at = 0 })).payload_at ≤ 200
layout_low f None is bytes = omega arith
layout_low f (Some layout) is bytes = (bounds f bytes layout is).0

-- frames with their records' headers
abbrev with_header : List ℕ → ℕ
with_header f = 16 + length f

module _ (layout : Layout) (low : layout.payload_at ≤ 200) (fixed : ℕ → Bool) (m n : ℕ) (f : List ℕ) where
  abbrev frame : ℕ → List ℕ
  frame i = segment_frame layout fixed m (i + 1 == n) f i

  -- from a segment on: headers for each, and the payload from there on
  frames_fit : (i count : ℕ) → total with_header (map frame (range_with_len i count)) ≤ count * 216 + length (drop (i * m) (drop layout.payload_at f))
  frames_fit i zero = omega arith
  frames_fit i (suc count) =
      omega (
        arith,
        segment_long layout fixed m (i + 1 == n) f i,
        length-take layout.payload_at f,
        low,
        length-take m (drop (i * m) (drop layout.payload_at f)),
        length-drop (i * m) (drop layout.payload_at f),
        length-drop ((i + 1) * m) (drop layout.payload_at f),
        frames_fit (i + 1) count,
      )

frames_size : (p : Packet) (fs : List (List ℕ)) → total size (map (with_frame p) fs) ≡ total with_header fs
frames_size p [] = refl
frames_size p (f ∷ fs) = ap (λ k. (16 + length f) + k) (frames_size p fs)

super_fits : (head : OffHead2) (p : Packet) → InBytes p.frame → total size (map (with_frame p) (frames_of (merged_in head p))) ≤ head.n * 216 + length p.frame
super_fits head p bytes =
    let layout : Layout = layout_of p.frame in
    omega (
      arith,
      frames_size p (frames_of (merged_in head p)),
      frames_fit layout (layout_low p.frame (shape_of p.frame) refl bytes) (is_fixed head.modes layout.headers) head.m head.n p.frame 0 head.n,
      length-drop (0 * head.m) (drop layout.payload_at p.frame),
      length-drop layout.payload_at p.frame,
    )

frames_count : (head : OffHead2) (p : Packet) → length (map (with_frame p) (frames_of (merged_in head p))) ≡ head.n
frames_count head p =
    length-map (frames_of (merged_in head p)) (with_frame p) ∙ length-map (range_with_len 0 head.n) _ ∙ length-range_with_len 0 head.n

abbrev segments_if : Bool → Bool → OffHead2 → Packet → List Packet
segments_if single super head p = if single then p ∷ [] else (if super then map (with_frame p) (frames_of (merged_in head p)) else [])

by_fits : (single super : Bool) (head : OffHead2) (p : Packet) (len : ℕ) → InBytes p.frame → length p.frame ≤ len
    → total size (segments_if single super head p) ≤ (16 + len) + 216 * length (segments_if single super head p)
by_fits true super head p len bytes le = omega (arith, le)
by_fits false true head p len bytes le = omega (arith, le, super_fits head p bytes, frames_count head p)
by_fits false false head p len bytes le = omega arith

segments_fit : (r : Packet) → InBytes r.frame → total size (segments_of r) ≤ size r + 216 * length (segments_of r)
segments_fit r bytes =
    let head : OffHead2 = fields_in (any_head r.frame) in
    let behind : ℕ = head_size (any_head r.frame) in
    by_fits (head.kind == 0) (head.kind == 1) head (packet_in r) (length r.frame) (drop_small behind r.frame bytes) (omega (arith, length-drop behind r.frame))

-- ---- how many segments a lawful record has

few_by : (head : OffHead2) (p : Packet) (len : ℕ) → length p.frame ≤ len → IsLawfulBy head p → length (segments_by head p) ≤ 16 + len
few_by head p len le (inl single) = omega (arith, ap (λ k. length (segments_if (k == 0) (k == 1) head p)) single.kind)
few_by head p len le (inr (inl super)) =
    let c = super.cuttable in
    let full : head.n - 1 ≤ (head.n - 1) * head.m = omega (arith, mul-le-mul_right_one (head.n - 1) head.m c.full) in
    omega (arith, ap (λ k. length (segments_if (k == 0) (k == 1) head p)) super.kind, frames_count head p, c.above, full, le)
  where
    mul-le-mul_right_one : (a b : ℕ) → 1 ≤ b → a ≤ a * b
    mul-le-mul_right_one a zero h = absurd (omega arith)
    mul-le-mul_right_one a (suc b) h = omega arith
few_by head p len le (inr (inr window)) = omega (arith, ap (λ k. length (segments_if (k == 0) (k == 1) head p)) window.kind)

few_segments : (r : Packet) → is_lawful_record r ≡ true → length (segments_of r) ≤ size r
few_segments r test =
    few_by (fields_in (any_head r.frame)) (packet_in r) (length r.frame) (omega (arith, length-drop (head_size (any_head r.frame)) r.frame)) ((decides_record r).0 test).1

-- ---- the records that are read

read_bytes : (order : Order) (link : Link) (n offset skip : ℕ) (bytes : List ℕ) → InBytes bytes → AllByRecursion (λ p. InBytes p.frame) (records_from order link n offset skip bytes).packets
unfolding records_from
read_bytes order link n offset zero [] small = tt
read_bytes order link n offset (suc skip) [] small = tt
read_bytes order link n offset (suc skip) (b ∷ bytes) small = read_bytes order link n offset skip bytes (λ k. small (suc k))
read_bytes order link n offset zero (b ∷ bytes) small =
    let captured = captured_length order (take 16 (b ∷ bytes)) in
    by (first_that_holds (record_refusals order link n (b ∷ bytes))) (packet_at order n (b ∷ bytes)) (records_from order link (n + 1) (offset + 16 + captured) (15 + captured) bytes)
    (take_small captured (drop 16 (b ∷ bytes)) (drop_small 16 (b ∷ bytes) small))
    (read_bytes order link (n + 1) (offset + 16 + captured) (15 + captured) bytes (λ k. small (suc k)))
  where
    by : (refused : Option CapKind) (p : Packet) (rest : Found) → InBytes p.frame → AllByRecursion (λ p. InBytes p.frame) rest.packets → AllByRecursion (λ p. InBytes p.frame)
        (judged refused n offset p rest).packets
    by None p rest first are = (first, are)
    by (Some kind) p rest first are = tt

-- a record behind its test
abbrev tested_by : Bool → ℕ → Packet → Found → List Packet
tested_by v offset r rest = (if v then one_more r rest else ended (Some (record { kind = BadOffload; offset = offset; number = r.number }))).packets

-- of the first records that are read, those before one that isn't lawful
abbrev tested : ℕ → List Packet → Option CapFault → List Packet
tested offset rs fault = (tested_from offset rs fault).packets

front_less : (w : Packet → ℕ) (k offset : ℕ) (rs : List Packet) (a b : Option CapFault) → total w (tested offset (take k rs) a) ≤ total w (tested offset rs b)
front_less w zero offset rs a b = omega arith
front_less w (suc k) offset [] a b = omega arith
front_less w (suc k) offset (r ∷ rs) a b = by (is_lawful_record r) (front_less w k (offset + 16 + length r.frame) rs a b)
  where
    by : (v : Bool) → total w (tested (offset + 16 + length r.frame) (take k rs) a) ≤ total w (tested (offset + 16 + length r.frame) rs b)
        → total w (tested_by v offset r (tested_from (offset + 16 + length r.frame) (take k rs) a))
        ≤ total w (tested_by v offset r (tested_from (offset + 16 + length r.frame) rs b))
    by true le = omega (arith, le)
    by false le = omega arith

before_less : (w : Packet → ℕ) (offset : ℕ) (exceeded : Option (ℕ × ℕ)) (found : Found)
    → total w (tested offset (found_before 1 exceeded found).packets (found_before 1 exceeded found).fault) ≤ total w (tested offset found.packets found.fault)
before_less w offset None found = omega arith
before_less w offset (Some at) found = front_less w (at.0 * 1) offset found.packets None found.fault

before_bytes : (exceeded : Option (ℕ × ℕ)) (found : Found) → AllByRecursion (λ p. InBytes p.frame) found.packets → AllByRecursion (λ p. InBytes p.frame) (found_before 1 exceeded found).packets
before_bytes None found are = are
before_bytes (Some at) found are = all_taken (λ p. InBytes p.frame) (at.0 * 1) found.packets are

tested_less : (offset : ℕ) (rs : List Packet) (fault : Option CapFault) → total size (tested offset rs fault) ≤ total size rs
tested_less offset [] fault = omega arith
tested_less offset (r ∷ rs) fault = by (is_lawful_record r) (tested_less (offset + 16 + length r.frame) rs fault)
  where
    by : (v : Bool) → total size (tested (offset + 16 + length r.frame) rs fault) ≤ total size rs
        → total size (tested_by v offset r (tested_from (offset + 16 + length r.frame) rs fault)) ≤ total size (r ∷ rs)
    by true le = omega (arith, le)
    by false le = omega arith

-- what all their segments have together
segments_total : (offset : ℕ) (rs : List Packet) (fault : Option CapFault) → AllByRecursion (λ p. InBytes p.frame) rs
    → total size (flat_map segments_of (tested offset rs fault)) ≤ total size (tested offset rs fault) + 216 * length (flat_map segments_of (tested offset rs fault))
segments_total offset [] fault are = omega arith
segments_total offset (r ∷ rs) fault are = by (is_lawful_record r) (segments_total (offset + 16 + length r.frame) rs fault are.1)
  where
    here : List Packet
    here = tested (offset + 16 + length r.frame) rs fault

    by : (v : Bool) → total size (flat_map segments_of here) ≤ total size here + 216 * length (flat_map segments_of here)
        → total size (flat_map segments_of (tested_by v offset r (tested_from (offset + 16 + length r.frame) rs fault)))
        ≤ total size (tested_by v offset r (tested_from (offset + 16 + length r.frame) rs fault))
        + 216 * length (flat_map segments_of (tested_by v offset r (tested_from (offset + 16 + length r.frame) rs fault)))
    by true le = omega (arith, le, segments_fit r are.0, total_append size (segments_of r) (flat_map segments_of here), length-append (segments_of r) (flat_map segments_of here))
    by false le = omega arith

segments_count : (offset : ℕ) (rs : List Packet) (fault : Option CapFault) → total (λ r. length (segments_of r)) (tested offset rs fault) ≤ total size (tested offset rs fault)
segments_count offset [] fault = omega arith
segments_count offset (r ∷ rs) fault = by (is_lawful_record r) refl (segments_count (offset + 16 + length r.frame) rs fault)
  where
    by : (v : Bool) → is_lawful_record r ≡ v
        → total (λ r. length (segments_of r)) (tested (offset + 16 + length r.frame) rs fault) ≤ total size (tested (offset + 16 + length r.frame) rs fault)
        → total (λ r. length (segments_of r)) (tested_by v offset r (tested_from (offset + 16 + length r.frame) rs fault))
        ≤ total size (tested_by v offset r (tested_from (offset + 16 + length r.frame) rs fault))
    by true e le = omega (arith, le, few_segments r e)
    by false e le = omega arith

counted : (rs : List Packet) → length (flat_map segments_of rs) ≡ total (λ r. length (segments_of r)) rs
counted [] = refl
counted (r ∷ rs) = length-append (segments_of r) (flat_map segments_of rs) ∙ ap (λ n. length (segments_of r) + n) (counted rs)

-- ---- a whole capture

segmented_fits_by : (refused : Option CapKind) (blocks : ℕ) (given : List ℕ) (packets : ℕ) → first_that_holds (file_refusals Offload (take 24 given)) ≡ refused → InBytes given
    → length (packets_cut given) ≤ packets
    → length (behind_head refused (file_bytes (file_head (take 24 given)) Ethernet) (segmenting blocks (first_place (file_head (take 24 given)) Offload 0) (drop 24 given))).output
    ≤ segment_bound (length given) packets
segmented_fits_by (Some kind) blocks given packets is bytes few = omega arith
segmented_fits_by None blocks given packets is bytes few =
    let head : FileHead = file_head (take 24 given) in
    let found : Found = records_from head.order Offload 0 24 0 (drop 24 given) in
    let read : reads Offload given ≡ found = ap (λ (r : Option CapKind). found_after r found) is in
    let exceeded : Option (ℕ × ℕ) = exceeded_record_at blocks (first_place head Offload 0) (drop 24 given) in
    let before : Found = found_before 1 exceeded found in
    let qs : List Packet = tested 24 before.packets before.fault in
    let all : List Packet = tested 24 found.packets found.fault in
    let cut : packets_cut given ≡ flat_map segments_of all = ap (λ (f : Found). flat_map segments_of (tested 24 f.packets f.fault)) read in
    let long : 24 ≤ length (take 24 given) = file_whole Offload (take 24 given) is in
    let out : total size (flat_map segments_of qs) ≤ total size qs + 216 * length (flat_map segments_of qs)
    = segments_total 24 before.packets before.fault (before_bytes exceeded found (read_bytes head.order Offload 0 24 0 (drop 24 given) (drop_small 24 given bytes))) in
    let within : total size all ≤ length (drop 24 given)
    = omega (arith, tested_less 24 found.packets found.fault, read_size head.order Offload 0 24 0 (drop 24 given)) in
    let count : total (λ r. length (segments_of r)) qs ≤ total (λ r. length (segments_of r)) all = before_less (λ r. length (segments_of r)) 24 exceeded found in
    omega (
      arith,
      length-append (file_bytes head Ethernet) (flat_map (record_bytes head.order) (flat_map segments_of qs)),
      file_long head.order head.nanos head.zone head.sigfigs Ethernet,
      records_long head.order (flat_map segments_of qs),
      out,
      before_less size 24 exceeded found,
      within,
      count,
      counted qs,
      counted all,
      segments_count 24 found.packets found.fault,
      few,
      ap length cut,
      long,
      length-take 24 given,
      length-drop 24 given,
    )

pub segmented_fits : SegmentedFits
segmented_fits blocks given packets bytes few =
    segmented_fits_by (first_that_holds (file_refusals Offload (take 24 given))) blocks given packets refl bytes few
