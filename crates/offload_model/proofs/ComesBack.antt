-- Segmenting what merging wrote.
use Rattle.std.proofs.Common.{◌≡◌, ℕ, suc, ◌+◌, ◌^◌, ◌<◌, ◌≤◌, ◌⊎◌, inl, inr, Bool, true, false, cond, Option, None, List, [], ◌∷◌, ◌++◌, length, get_or, take, map, refl, sym, ap, ◌∙◌, subst, arith}
use Rattle.std.proofs.Common.{length-append}
use Rattle.std.specs.Prelude.{◌==◌, if◌then◌else◌, is_some}
use Rattle.std.specs.List.{flat_map, filter, AllByRecursion, range_with_len}
use Rattle.std.proofs.lemmas.List.{take_at, length-map}
use Rattle.std.proofs.lemmas.List.Elements.{filter-append}
use Rattle.std.proofs.lemmas.Bool.{le-ltb}
use Rattle.std.proofs.lemmas.Simd.{map-map}
use Rattle.net_bytes.specs.declared.order.Order.{Order}
use Rattle.frame_layout.specs.Key.{key_eq, key_of}
use Rattle.frame_layout.proofs.Lemmas.{same_key}
use Rattle.maximal_runs.proofs.Pass.{all_append}
use Rattle.pcap_io.specs.declared.faults.CapKind.{CapKind}
use Rattle.pcap_io.specs.declared.heads.FileHead.{FileHead}
use Rattle.pcap_io.specs.declared.heads.Link.TheVariants.{Ethernet, Offload}
use Rattle.pcap_io.specs.declared.off_head.OffHead2.{OffHead2}
use Rattle.pcap_io.specs.Capture.{Packet, Found, reads}
use Rattle.pcap_io.specs.Headers.{first_that_holds, file_refusals, file_head, any_head, fields_in}
use Rattle.pcap_io.specs.Written.{file_bytes}
use Rattle.pcap_io.specs.Split.{spelled_all, AreLawful}
use Rattle.pcap_io.proofs.HeadLaws.{file_head_law}
use Rattle.pcap_io.proofs.SplitLaws.{written_law}
use Rattle.offload_model.specs.Mergeable.{IsMergeable, IsMergeableAs}
use Rattle.offload_model.specs.Segments.{packet_in, merged_in, with_frame, frames_of, segments_of}
use Rattle.offload_model.specs.Rounds.{is_of, is_queued, items_of, rounds_of}
use Rattle.offload_model.proofs.Shown.{all_shown}
use Rattle.offload_model.specs.Written.{Options, record_of, shown_of, window_of, window_record, windows_by, windows_of, round_records, records_of, record_bytes, written, segmented}
use Rattle.offload_model.specs.Captured.{IsCaptured, AreCaptured, AreOptions, content}
use Rattle.offload_model.specs.Tested.{numbered, reads_tested, segmented_of}
use Rattle.offload_model.proofs.Flows.{IsItem, all_items, rounds_captured, back, flows_come_back}
use Rattle.offload_model.proofs.Items.{items_are}
use Rattle.offload_model.proofs.Lists.{all_filtered, all_of, all_mapped, all_joined, all_range}
use Rattle.offload_model.proofs.RunRecords.{runs_come_back, record_key, segments_are}
use Rattle.offload_model.proofs.ReadBack.{length-file_bytes}
use Rattle.offload_model.proofs.WrittenBack.{IsWritten, all_written, reads_back, head_reads_back, written_comes_back}
use Rattle.offload_model.specs.CaptureLaws.{BringsBack, CapturesComeBack, RecordsAreFew}
use Rattle.offload_model.proofs.FlowLists.{same_number, few}

-- ---- the packets of a run are of one flow

each_all : (P : Packet → Type 0) (qs : List Packet) → ((i : ℕ) (d : Packet) → i < length qs → P (get_or qs i d)) → AllByRecursion P qs
each_all P [] f = tt
each_all P (q ∷ qs) f = (f 0 q (omega arith), each_all P qs (λ i d l. f (suc i) d (omega arith)))

one_flow : (p : Packet) (ps : List Packet) → (length (p ∷ ps) ≡ 1) ⊎ IsMergeable (p ∷ ps) → AllByRecursion (λ x. key_of x.frame ≡ key_of p.frame) (p ∷ ps)
one_flow p [] is = (refl, tt)
one_flow p (x ∷ ps) (inl one) = absurd (omega arith)
one_flow p (x ∷ ps) (inr m) =
    let l : IsMergeableAs m.0 p.frame (p ∷ x ∷ ps) = m.1 in
    each_all (λ x. key_of x.frame ≡ key_of p.frame) (p ∷ x ∷ ps) (λ i d less.
    same_key (get_or (p ∷ x ∷ ps) i d).frame p.frame m.0 (l.shapes.at i d less) (l.shapes.at 0 d (omega arith)) (l.headers.at i d less))

-- ---- what holds of a record's segments

abbrev Content : Type 0
Content = ℕ × List ℕ

to_content : (P : Content → Type 0) (ps : List Packet) → AllByRecursion (λ p. P (content p)) ps → AllByRecursion P (map content ps)
to_content P [] a = tt
to_content P (p ∷ ps) a = (a.0, to_content P ps a.1)

from_content : (P : Content → Type 0) (ps : List Packet) → AllByRecursion P (map content ps) → AllByRecursion (λ p. P (content p)) ps
from_content P [] a = tt
from_content P (p ∷ ps) a = (a.0, from_content P ps a.1)

-- packets with the same bytes and original lengths are alike
alike : (P : Content → Type 0) (xs ys : List Packet) → map content xs ≡ map content ys → AllByRecursion (λ p. P (content p)) ys → AllByRecursion (λ p. P (content p)) xs
alike P xs ys e a = from_content P xs (subst (AllByRecursion P) (sym e) (to_content P ys a))

-- bytes and original length as a capture of link type 1 may hold them
abbrev Fits : Content → Type 0
Fits c = (c.0 < 2147483648) × (length c.1 ≤ 262144)

-- of this flow
abbrev IsOf : Option (List ℕ) → Content → Type 0
IsOf k c = key_of c.1 ≡ k

-- what comes of a record may be written, and is of the record's flow
record IsSound (r : Packet) : Type 0 where
  fits : AllByRecursion (λ p. Fits (content p)) (segments_of r)
  flow : AllByRecursion (λ p. IsOf (key_of (packet_in r).frame) (content p)) (segments_of r)

run_sound : (q : ℕ) (run : List Packet) → IsItem run → IsSound (record_of q run)
run_sound q [] i = absurd (omega (arith, i.full))
run_sound q (p ∷ ps) i =
    let r : Packet = record_of q (p ∷ ps) in
    let back_is : map content (segments_of r) ≡ map content (p ∷ ps) = runs_come_back q (p ∷ ps) i.captured i.allowed in
    let key : key_of (packet_in r).frame ≡ key_of p.frame = record_key q p ps i.captured i.allowed in
    record {
      fits = alike Fits (segments_of r) (p ∷ ps) back_is (all_of IsCaptured (λ p. Fits (content p)) (p ∷ ps) (λ p c. (c.original, c.short)) i.captured);
      flow = alike (IsOf (key_of (packet_in r).frame)) (segments_of r) (p ∷ ps) back_is
          (subst (λ k. AllByRecursion (λ x. key_of x.frame ≡ k) (p ∷ ps)) (sym key) (one_flow p ps i.allowed));
    }

window_sound : (t : ℕ) (p : Packet) (window : List ℕ) → IsCaptured p → IsSound (window_record t p window)
window_sound t p window c =
    let head : OffHead2 = record { version = 2; kind = 2; modes = 0; lane = t; n = 0; m = 0; number = p.number } in
    let none : segments_of (window_record t p window) ≡ [] = segments_are head (with_frame p window) (record { version = refl; n = omega arith; m = omega arith; number = c.number }) in
    record {
      fits = subst (AllByRecursion (λ p. Fits (content p))) (sym none) tt;
      flow = subst (AllByRecursion (λ x. IsOf (key_of (packet_in (window_record t p window)).frame) (content x))) (sym none) tt;
    }

windows_sound : (t : ℕ) (p : Packet) (window : List ℕ) → IsCaptured p → AllByRecursion IsSound (windows_by t p window)
windows_sound t p [] c = tt
windows_sound t p (b ∷ bytes) c = (window_sound t p (b ∷ bytes) c, tt)

round_sound : (o : Options) (ps : List Packet) → AreCaptured ps → AllByRecursion IsSound (round_records o ps)
round_sound o ps c =
    all_append IsSound (flat_map (λ q. map (record_of q) (items_of o.segs o.spread q ps)) (range_with_len 0 o.queues)) (flat_map (λ t. windows_of o.snap t (map (shown_of o.filter) ps))
    (range_with_len 0 o.taps))
    (all_joined IsSound (λ q. map (record_of q) (items_of o.segs o.spread q ps)) (range_with_len 0 o.queues)
    (all_range (λ q. AllByRecursion IsSound (map (record_of q) (items_of o.segs o.spread q ps))) o.queues (λ q l.
    all_mapped IsItem IsSound (record_of q) (items_of o.segs o.spread q ps) (λ run i. run_sound q run i)
    (all_items (filter (is_queued o.spread q) ps) (items_of o.segs o.spread q ps) (all_filtered IsCaptured (is_queued o.spread q) ps c.each) (items_are o.segs o.spread q ps c.rising)))))
    (all_joined IsSound (λ t. windows_of o.snap t (map (shown_of o.filter) ps)) (range_with_len 0 o.taps)
    (all_range (λ t. AllByRecursion IsSound (windows_of o.snap t (map (shown_of o.filter) ps))) o.taps (λ t l.
    all_joined IsSound (λ p. windows_by t p (window_of o.snap t p.frame)) (map (shown_of o.filter) ps)
    (all_of IsCaptured (λ p. AllByRecursion IsSound (windows_by t p (window_of o.snap t p.frame))) (map (shown_of o.filter) ps) (λ p k. windows_sound t p (window_of o.snap t p.frame) k)
    (all_shown o.filter ps c.each)))))

all_sound : (o : Options) (ps : List Packet) → AreCaptured ps → AllByRecursion IsSound (records_of o ps)
all_sound o ps c =
    all_joined IsSound (round_records o) (rounds_of o.budget ps)
    (all_of AreCaptured (λ round. AllByRecursion IsSound (round_records o round)) (rounds_of o.budget ps) (λ round k. round_sound o round k) (rounds_captured o.budget ps c))

-- ---- the times of a record's segments

abbrev HasTime : ℕ → ℕ → Packet → Type 0
HasTime sec frac p = (p.sec ≡ sec) × (p.frac ≡ frac)

times : (r : Packet) → AllByRecursion (HasTime r.sec r.frac) (segments_of r)
times r = by_kind (fields_in (any_head r.frame)).kind (frames_of (merged_in (fields_in (any_head r.frame)) (packet_in r)))
  where
    each : (fs : List (List ℕ)) → AllByRecursion (HasTime r.sec r.frac) (map (with_frame (packet_in r)) fs)
    each [] = tt
    each (f ∷ fs) = ((refl, refl), each fs)

    by_kind : (k : ℕ) (fs : List (List ℕ)) → AllByRecursion (HasTime r.sec r.frac) (if k == 0 then packet_in r ∷ [] else (if k == 1 then map (with_frame (packet_in r)) fs else []))
    by_kind k fs = elim (k == 0) as (λ v. AllByRecursion (HasTime r.sec r.frac) (if v then packet_in r ∷ [] else (if k == 1 then map (with_frame (packet_in r)) fs else []))) [
      | true ↦ ((refl, refl), tt)
      | false ↦ elim (k == 1) as (λ v. AllByRecursion (HasTime r.sec r.frac) (if v then map (with_frame (packet_in r)) fs else [])) [
        | true ↦ each fs
        | false ↦ tt
      ]
    ]

-- ---- the number of a record makes no difference

abbrev renumbered : ℕ → Packet → Packet
renumbered n r = record { number = n; sec = r.sec; frac = r.frac; original = r.original; frame = r.frame }

renumbered_segments : (n : ℕ) (r : Packet) → segments_of (renumbered n r) ≡ map (renumbered n) (segments_of r)
renumbered_segments n r = by_kind (fields_in (any_head r.frame)).kind (frames_of (merged_in (fields_in (any_head r.frame)) (packet_in r)))
  where
    by_kind : (k : ℕ) (fs : List (List ℕ))
        → (if k == 0 then packet_in (renumbered n r) ∷ [] else (if k == 1 then map (with_frame (packet_in (renumbered n r))) fs else []))
        ≡ map (renumbered n) (if k == 0 then packet_in r ∷ [] else (if k == 1 then map (with_frame (packet_in r)) fs else []))
    by_kind k fs = elim (k == 0) as (λ v. (if v then packet_in (renumbered n r) ∷ [] else (if k == 1 then map (with_frame (packet_in (renumbered n r))) fs else []))
        ≡ map (renumbered n) (if v then packet_in r ∷ [] else (if k == 1 then map (with_frame (packet_in r)) fs else []))) [
          | true ↦ refl
          | false ↦ elim (k == 1) as (λ v. (if v then map (with_frame (packet_in (renumbered n r))) fs else []) ≡ map (renumbered n) (if v then map (with_frame (packet_in r)) fs else [])) [
            | true ↦ sym (map-map (renumbered n) (with_frame (packet_in r)) fs)
            | false ↦ refl
          ]
        ]

-- ---- all of them

-- a packet that a capture of link type 1 may hold, whatever its number
record IsHeld (p : Packet) : Type 0 where
  sec : p.sec < 4294967296
  frac : p.frac < 4294967296
  fits : Fits (content p)

zip2 : (P Q R : Packet → Type 0) (ps : List Packet) → ((p : Packet) → P p → Q p → R p) → AllByRecursion P ps → AllByRecursion Q ps → AllByRecursion R ps
zip2 P Q R [] f a b = tt
zip2 P Q R (p ∷ ps) f a b = (f p a.0 b.0, zip2 P Q R ps f a.1 b.1)

held : (n : ℕ) (r : Packet) → IsWritten r → IsSound r → AllByRecursion IsHeld (segments_of (renumbered n r))
held n r w s =
    subst (AllByRecursion IsHeld) (sym (renumbered_segments n r))
    (all_mapped IsHeld IsHeld (renumbered n) (segments_of r) (λ p h. record { sec = h.sec; frac = h.frac; fits = h.fits })
    (zip2 (HasTime r.sec r.frac) (λ p. Fits (content p)) IsHeld (segments_of r)
    (λ p t f. record { sec = omega (arith, t.0, w.fits.sec); frac = omega (arith, t.1, w.fits.frac); fits = f }) (times r) s.fits))

all_held : (n : ℕ) (rs : List Packet) → AllByRecursion IsWritten rs → AllByRecursion IsSound rs → AllByRecursion IsHeld (flat_map segments_of (numbered n rs))
all_held n [] w s = tt
all_held n (r ∷ rs) w s = all_append IsHeld (segments_of (renumbered n r)) (flat_map segments_of (numbered (n + 1) rs)) (held n r w.0 s.0) (all_held (n + 1) rs w.1 s.1)

none_of : (v : Bool) → filter (λ (p : Packet). true) [] ≡ (if v then [] else [])
none_of true = refl
none_of false = refl

-- a flow's packets among a record's are all or none
one_record : (key k : Option (List ℕ)) (ps : List Packet) → AllByRecursion (λ p. IsOf k (content p)) ps → filter (is_of key) ps ≡ (if key_eq key k then ps else [])
one_record key k [] a = none_of (key_eq key k)
one_record key k (p ∷ ps) a = by (key_eq key k) refl (one_record key k ps a.1)
  where
    by : (v : Bool) → key_eq key k ≡ v → filter (is_of key) ps ≡ (if key_eq key k then ps else []) → cond (is_of key p) (p ∷ filter (is_of key) ps) (filter (is_of key) ps) ≡ (if v then p ∷ ps else [])
    by true s i =
        let own : is_of key p ≡ true = ap (key_eq key) a.0 ∙ s in
        ap (λ v. cond v (p ∷ filter (is_of key) ps) (filter (is_of key) ps)) own ∙ ap (λ z. p ∷ z) (i ∙ ap (λ v. if v then ps else []) s)
    by false s i =
        let own : is_of key p ≡ false = ap (key_eq key) a.0 ∙ s in
        ap (λ v. cond v (p ∷ filter (is_of key) ps) (filter (is_of key) ps)) own ∙ i ∙ ap (λ v. if v then ps else []) s

abbrev IsOneFlow : Packet → Type 0
IsOneFlow r = AllByRecursion (λ p. IsOf (key_of (packet_in r).frame) (content p)) (segments_of r)

renumbered_flow : (n : ℕ) (r : Packet) → IsSound r → IsOneFlow (renumbered n r)
renumbered_flow n r s =
    subst (AllByRecursion (λ p. IsOf (key_of (packet_in r).frame) (content p))) (sym (renumbered_segments n r))
    (all_mapped (λ p. IsOf (key_of (packet_in r).frame) (content p)) (λ p. IsOf (key_of (packet_in r).frame) (content p)) (renumbered n) (segments_of r) (λ p h. h) s.flow)

all_flows : (n : ℕ) (rs : List Packet) → AllByRecursion IsSound rs → AllByRecursion IsOneFlow (numbered n rs)
all_flows n [] s = tt
all_flows n (r ∷ rs) s = (renumbered_flow n r s.0, all_flows (n + 1) rs s.1)

-- the packets of a flow come of the records of that flow
flow_by_flow : (key : Option (List ℕ)) (rs : List Packet) → AllByRecursion IsOneFlow rs → filter (is_of key) (flat_map segments_of rs) ≡ flat_map segments_of (filter (λ r. is_of key (packet_in r)) rs)
flow_by_flow key [] a = refl
flow_by_flow key (r ∷ rs) a =
    filter-append (is_of key) (segments_of r) (flat_map segments_of rs)
    ∙ ap (λ z. z ++ filter (is_of key) (flat_map segments_of rs)) (one_record key (key_of (packet_in r).frame) (segments_of r) a.0)
    ∙ ap (λ z. (if is_of key (packet_in r) then segments_of r else []) ++ z) (flow_by_flow key rs a.1)
    ∙ by (is_of key (packet_in r))
  where
    by : (v : Bool) → (if v then segments_of r else []) ++ flat_map segments_of (filter (λ r. is_of key (packet_in r)) rs)
        ≡ flat_map segments_of (cond v (r ∷ filter (λ r. is_of key (packet_in r)) rs) (filter (λ r. is_of key (packet_in r)) rs))
    by true = refl
    by false = refl

-- ---- the bytes

spelled_is : (order : Order) (n : ℕ) (ps : List Packet) → flat_map (record_bytes order) ps ≡ spelled_all order (numbered n ps)
spelled_is order n [] = refl
spelled_is order n (p ∷ ps) = ap (λ z. record_bytes order p ++ z) (spelled_is order (n + 1) ps)

lawful_from : (n : ℕ) (ps : List Packet) → n + length ps ≤ 4294967296 → AllByRecursion IsHeld ps → AreLawful Ethernet n (numbered n ps)
lawful_from n [] few h = tt
lawful_from n (p ∷ ps) few h = (
  record {
    number = refl;
    few = omega arith;
    sec = h.0.sec;
    frac = h.0.frac;
    original = omega (arith, h.0.fits.0);
    captured_in_range = h.0.fits.1;
    original_in_range = le-ltb 2147483647 p.original (omega (arith, h.0.fits.0));
    has_off_head = refl;
  },
  lawful_from (n + 1) ps (omega arith) h.1,
)

numbered_flow : (key : Option (List ℕ)) (n : ℕ) (ps : List Packet) → map content (filter (is_of key) (numbered n ps)) ≡ map content (filter (is_of key) ps)
numbered_flow key n [] = refl
numbered_flow key n (p ∷ ps) = by (is_of key p) (numbered_flow key (n + 1) ps)
  where
    by : (v : Bool) → map content (filter (is_of key) (numbered (n + 1) ps)) ≡ map content (filter (is_of key) ps) → map content (cond v (renumbered n p ∷ filter (is_of key) (numbered (n + 1) ps))
        (filter (is_of key) (numbered (n + 1) ps)))
        ≡ map content (cond v (p ∷ filter (is_of key) ps) (filter (is_of key) ps))
    by true i = ap (λ z. content p ∷ z) i
    by false i = i

-- what is written of a merged capture
output_is : (head : FileHead) (o : Options) (ps : List Packet) → head.zone < 2 ^ 32 → head.sigfigs < 2 ^ 32 → AreOptions o → AreCaptured ps → length (records_of o ps) ≤ 2 ^ 32
    → segmented_of (written head o ps) ≡ segmented head (numbered 0 (records_of o ps))
output_is head o ps zone sigfigs lawful c few =
    let bytes : List ℕ = written head o ps in
    let front : take 24 bytes ≡ file_bytes head Offload = take_at (file_bytes head Offload) (flat_map (record_bytes head.order) (records_of o ps)) 24
    (length-file_bytes head.order head.nanos head.zone head.sigfigs) in
    let taken : first_that_holds (file_refusals Offload (take 24 bytes)) ≡ None = ap (λ xs. first_that_holds (file_refusals Offload xs)) front ∙ (file_head_law head Offload zone sigfigs).0 in
    ap (λ (r : Option CapKind). if is_some r then [] else segmented (file_head (take 24 bytes)) (reads_tested bytes).packets) taken
    ∙ ap (λ h. segmented h (reads_tested bytes).packets) (head_reads_back head o ps zone sigfigs)
    ∙ ap (λ (f : Found). segmented head f.packets) (reads_back head o ps lawful c few).1

pub captures_come_back : CapturesComeBack
captures_come_back head o ps zone sigfigs lawful c few_records =
    let rs : List Packet = numbered 0 (records_of o ps) in
    let qs : List Packet = flat_map segments_of rs in
    let sound : AllByRecursion IsSound (records_of o ps) = all_sound o ps c in
    let flows : (key : Option (List ℕ)) → map content (filter (is_of key) qs) ≡ map content (filter (is_of key) ps)
    = λ key. ap (map content) (flow_by_flow key rs (all_flows 0 (records_of o ps) sound))
    ∙ sym (ap (λ (f : Found). back key f.packets) (reads_back head o ps lawful c few_records).1) ∙ written_comes_back head o ps lawful c few_records key in
    let count : length qs ≤ 4294967296 = omega (arith, same_number qs ps flows, few ps c.each c.rising) in
    let lawful_qs : AreLawful Ethernet 0 (numbered 0 qs) = lawful_from 0 qs (omega arith) (all_held 0 (records_of o ps) (all_written o ps lawful c) sound) in
    let read : reads Ethernet (segmented_of (written head o ps)) ≡ record { packets = numbered 0 qs; fault = None }
    = ap (reads Ethernet) (output_is head o ps zone sigfigs lawful c few_records ∙ ap (λ z. file_bytes head Ethernet ++ z) (spelled_is head.order 0 qs))
    ∙ written_law 0 head Ethernet (numbered 0 qs) zone sigfigs lawful_qs in
    subst (BringsBack ps) (sym read) (record { whole = refl; flows = λ key. numbered_flow key 0 qs ∙ flows key })

-- ---- how many records there are without taps

abbrev IsSome : Packet → Type 0
IsSome r = 1 ≤ length (segments_of r)

run_some : (q : ℕ) (run : List Packet) → IsItem run → IsSome (record_of q run)
run_some q run i =
    omega (arith, ap length (runs_come_back q run i.captured i.allowed), length-map (segments_of (record_of q run)) content, length-map run content, i.full)

round_some : (o : Options) (ps : List Packet) → o.taps ≡ 0 → AreCaptured ps → AllByRecursion IsSome (round_records o ps)
round_some o ps taps c =
    all_append IsSome (flat_map (λ q. map (record_of q) (items_of o.segs o.spread q ps)) (range_with_len 0 o.queues)) (flat_map (λ t. windows_of o.snap t (map (shown_of o.filter) ps))
    (range_with_len 0 o.taps))
    (all_joined IsSome (λ q. map (record_of q) (items_of o.segs o.spread q ps)) (range_with_len 0 o.queues)
    (all_range (λ q. AllByRecursion IsSome (map (record_of q) (items_of o.segs o.spread q ps))) o.queues (λ q l.
    all_mapped IsItem IsSome (record_of q) (items_of o.segs o.spread q ps) (λ run i. run_some q run i)
    (all_items (filter (is_queued o.spread q) ps) (items_of o.segs o.spread q ps) (all_filtered IsCaptured (is_queued o.spread q) ps c.each) (items_are o.segs o.spread q ps c.rising)))))
    (subst (λ n. AllByRecursion IsSome (flat_map (λ t. windows_of o.snap t (map (shown_of o.filter) ps)) (range_with_len 0 n))) (sym taps) tt)

no_more : (rs : List Packet) → AllByRecursion IsSome rs → length rs ≤ length (flat_map segments_of rs)
no_more [] a = omega arith
no_more (r ∷ rs) a = omega (arith, a.0, no_more rs a.1, length-append (segments_of r) (flat_map segments_of rs))

pub records_are_few : RecordsAreFew
records_are_few o ps lawful c taps =
    let rs : List Packet = records_of o ps in
    let some : AllByRecursion IsSome rs
    = all_joined IsSome (round_records o) (rounds_of o.budget ps)
    (all_of AreCaptured (λ round. AllByRecursion IsSome (round_records o round)) (rounds_of o.budget ps) (λ round k. round_some o round taps k) (rounds_captured o.budget ps c)) in
    let flows : (key : Option (List ℕ)) → map content (filter (is_of key) (flat_map segments_of rs)) ≡ map content (filter (is_of key) ps)
    = λ key. ap (map content) (flow_by_flow key rs (all_of IsSound IsOneFlow rs (λ r s. s.flow) (all_sound o ps c))) ∙ flows_come_back o ps lawful c key in
    omega (arith, no_more rs some, same_number (flat_map segments_of rs) ps flows, few ps c.each c.rising)
