-- How many bytes records have: those that are read, the record of a run, the windows of taps, the segments of a record.
use Rattle.std.proofs.Common.{◌≡◌, ℕ, zero, suc, ◌+◌, ◌-◌, ◌*◌, ◌<◌, ◌≤◌, Bool, true, false, Option, None, Some, List, [], ◌∷◌, ◌++◌, length, map, take, drop, refl, ap, ◌∙◌, arith, length-append}
use Rattle.std.proofs.Common.{length-drop, length-take}
use Rattle.std.specs.Prelude.{if◌then◌else◌, unwrap_or}
use Rattle.std.specs.List.{flat_map, range_with_len}
use Rattle.std.proofs.lemmas.List.{length-set}
use Rattle.net_bytes.specs.Bytes.{put16, put32}
use Rattle.net_bytes.specs.declared.order.Order.{Order}
use Rattle.net_bytes.specs.declared.order.Order.TheVariants.{Big, Little}
use Rattle.tap_filter.specs.declared.instr.Instr.{Instr}
use Rattle.tap_filter.specs.Meaning.{value_of}
use Rattle.frame_layout.specs.Shape.{Layout}
use Rattle.frame_layout.specs.declared.layout.Header.{Header}
use Rattle.frame_layout.specs.declared.layout.Layer.{Layer}
use Rattle.frame_layout.specs.declared.layout.Layer.TheVariants.{Ip4, Tcp}
use Rattle.pcap_io.specs.declared.faults.CapKind.{CapKind}
use Rattle.pcap_io.specs.declared.heads.Link.{Link}
use Rattle.pcap_io.specs.declared.heads.Link.TheVariants as links
use Rattle.pcap_io.specs.Written.{file_bytes}
use Rattle.pcap_io.specs.Capture.{Packet, Found, packet_at, judged, records_from}
use Rattle.pcap_io.specs.Headers.{first_that_holds, record_refusals, captured_length}
use Rattle.pcap_io.proofs.SplitLaws.{unrefused}
use Rattle.offload_model.specs.Edits.{with_edits, put_flags, put_flags_of, put_place}
use Rattle.offload_model.specs.Frames.{merged_frame, segment_frame}
use Rattle.offload_model.specs.Merged.{merged_of, frame_at, layout_of}
use Rattle.offload_model.specs.Mergeable.{payloads_of}
use Rattle.offload_model.specs.Written.{record_of, record_bytes, head_of, shown_bytes, shown_of, window_head, window_of, windows_by, windows_of}
use Rattle.offload_model.proofs.Made.{with_lengths_and_sums-long}
use Rattle.offload_model.proofs.Opened.{length-off_bytes2}
use Rattle.offload_c.specs.Bounds.{both_heads}
use Rattle.offload_c.proofs.Totals.{total, total_append}

-- a record: its header and its body
abbrev pub size : Packet → ℕ
size r = 16 + length r.frame

abbrev pub frame_size : Packet → ℕ
frame_size p = length p.frame

pub file_long : (order : Order) (nanos : Bool) (zone sigfigs : ℕ) (link : Link) → length (file_bytes (record { order = order; nanos = nanos; zone = zone; sigfigs = sigfigs }) link) ≡ 24
file_long Big true zone sigfigs links.Ethernet = refl
file_long Big true zone sigfigs links.Offload = refl
file_long Big false zone sigfigs links.Ethernet = refl
file_long Big false zone sigfigs links.Offload = refl
file_long Little true zone sigfigs links.Ethernet = refl
file_long Little true zone sigfigs links.Offload = refl
file_long Little false zone sigfigs links.Ethernet = refl
file_long Little false zone sigfigs links.Offload = refl

pub record_long : (order : Order) (r : Packet) → length (record_bytes order r) ≡ size r
record_long Big r = omega arith
record_long Little r = omega arith

pub records_long : (order : Order) (rs : List Packet) → length (flat_map (record_bytes order) rs) ≡ total size rs
records_long order [] = refl
records_long order (r ∷ rs) = length-append (record_bytes order r) (flat_map (record_bytes order) rs) ∙ omega (arith, record_long order r, records_long order rs)

-- ---- that are read

read_one : (refused : Option CapKind) (n offset at : ℕ) (p : Packet) (rest : Found) (len skip : ℕ)
    → (refused ≡ None → (16 + length p.frame ≤ skip + 1) × (skip + 1 ≤ len)) → total size rest.packets ≤ len - 1 - skip → total size (judged refused n at p rest).packets ≤ len
read_one None n offset at p rest len skip whole le = omega (arith, (whole refl).0, (whole refl).1, le)
read_one (Some kind) n offset at p rest len skip whole le = omega arith

pub read_size : (order : Order) (link : Link) (n offset skip : ℕ) (bytes : List ℕ) → total size (records_from order link n offset skip bytes).packets ≤ length bytes - skip
unfolding records_from
read_size order link n offset zero [] = omega arith
read_size order link n offset (suc skip) [] = omega arith
read_size order link n offset (suc skip) (b ∷ bytes) = omega (arith, read_size order link n offset skip bytes)
read_size order link n offset zero (b ∷ bytes) =
    let captured = captured_length order (take 16 (b ∷ bytes)) in
    let rest = records_from order link (n + 1) (offset + 16 + captured) (15 + captured) bytes in
    omega (
      arith,
      read_one (first_that_holds (record_refusals order link n (b ∷ bytes))) n offset offset (packet_at order n (b ∷ bytes)) rest (length (b ∷ bytes)) (15 + captured)
          (λ e.
          let u = unrefused order link n (b ∷ bytes) e in
          (omega (arith, length-take captured (drop 16 (b ∷ bytes)), u.body), omega (arith, u.body, length-drop 16 (b ∷ bytes), u.head)))
          (omega (arith, read_size order link (n + 1) (offset + 16 + captured) (15 + captured) bytes)),
    )

-- ---- the record of a run

abbrev KeepsLength : (Layer → ℕ → List ℕ → List ℕ) → Type 0
KeepsLength edit = (l : Layer) (at : ℕ) (f : List ℕ) → length (edit l at f) ≡ length f

edits_long : (edit : Layer → ℕ → List ℕ → List ℕ) → KeepsLength edit → (hs : List Header) (f : List ℕ) → length (with_edits edit hs f) ≡ length f
edits_long edit keeps [] f = refl
edits_long edit keeps (h ∷ hs) f = keeps h.layer h.at (with_edits edit hs f) ∙ edits_long edit keeps hs f

length-put16 : (f : List ℕ) (at n : ℕ) → length (put16 f at n) ≡ length f
length-put16 f at n = simp length-set

length-put32 : (f : List ℕ) (at n : ℕ) → length (put32 f at n) ≡ length f
length-put32 f at n = simp length-set

flags_of_long : (g : List ℕ) → KeepsLength (put_flags_of g)
flags_of_long g Tcp at f = length-set f (at + 13) _
flags_of_long g _ at f = refl

flags_long : (n : ℕ) → KeepsLength (put_flags n)
flags_long n Tcp at f = length-set f (at + 13) n
flags_long n _ at f = refl

place_long : (fixed : ℕ → Bool) (i n : ℕ) → KeepsLength (put_place fixed i n)
place_long fixed i n Ip4 at f = elim (fixed at) as (λ v. length (if v then f else put_place (λ k. false) i n Ip4 at f) ≡ length f) [
  | true ↦ refl
  | false ↦ length-put16 f (at + 4) _
]
place_long fixed i n Tcp at f = length-put32 f (at + 4) _
place_long fixed i n _ at f = refl

merged_long : (layout : Layout) (first last payload : List ℕ) → length (merged_frame layout first last payload) ≡ length (take layout.payload_at first) + length payload
merged_long layout first last payload =
    with_lengths_and_sums-long layout.headers (with_edits (put_flags_of last) layout.headers (take layout.payload_at first ++ payload))
    ∙ edits_long (put_flags_of last) (flags_of_long last) layout.headers (take layout.payload_at first ++ payload)
    ∙ length-append (take layout.payload_at first) payload

payloads_fit : (layout : Layout) (ps : List Packet) → length (payloads_of layout ps) ≤ total frame_size ps
payloads_fit layout [] = omega arith
payloads_fit layout (p ∷ ps) =
    omega (arith, length-append (drop layout.payload_at p.frame) (payloads_of layout ps), length-drop layout.payload_at p.frame, payloads_fit layout ps)

-- behind the header of a record, with the offload header between the two
abbrev pub run_size : Packet → ℕ
run_size p = both_heads + length p.frame

frames_less : (ps : List Packet) → total frame_size ps ≤ total run_size ps
frames_less [] = omega arith
frames_less (p ∷ ps) = omega (arith, frames_less ps)

pub run_fits : (q : ℕ) (run : List Packet) → 0 < length run → size (record_of q run) ≤ total run_size run
run_fits q [] some = absurd (omega arith)
run_fits q (p ∷ []) some = omega (arith, length-off_bytes2 (head_of q (merged_of (p ∷ []))) p.frame)
run_fits q (p ∷ x ∷ ps) some =
    let run : List Packet = p ∷ x ∷ ps in
    let layout : Layout = layout_of p.frame in
    omega (
      arith,
      length-off_bytes2 (head_of q (merged_of run)) (merged_of run).packet.frame,
      merged_long layout p.frame (frame_at run (length run - 1)) (payloads_of layout run),
      length-append (drop layout.payload_at p.frame) (payloads_of layout (x ∷ ps)),
      length-take layout.payload_at p.frame,
      length-drop layout.payload_at p.frame,
      payloads_fit layout (x ∷ ps),
      frames_less (x ∷ ps),
    )

-- ---- a segment

pub segment_long : (layout : Layout) (fixed : ℕ → Bool) (m : ℕ) (is_last : Bool) (f : List ℕ) (i : ℕ)
    → length (segment_frame layout fixed m is_last f i) ≡ length (take layout.payload_at f) + length (take m (drop (i * m) (drop layout.payload_at f)))
segment_long layout fixed m is_last f i =
    let cut : List ℕ = take layout.payload_at f ++ take m (drop (i * m) (drop layout.payload_at f)) in
    let placed : List ℕ = with_edits (put_place fixed i (i * m)) layout.headers cut in
    with_lengths_and_sums-long layout.headers (if is_last then placed else with_edits (put_flags 0x10) layout.headers placed)
    ∙ by is_last placed
    ∙ edits_long (put_place fixed i (i * m)) (place_long fixed i (i * m)) layout.headers cut
    ∙ length-append (take layout.payload_at f) (take m (drop (i * m) (drop layout.payload_at f)))
  where
    by : (v : Bool) (placed : List ℕ) → length (if v then placed else with_edits (put_flags 0x10) layout.headers placed) ≡ length placed
    by true placed = refl
    by false placed = edits_long (put_flags 0x10) (flags_long 0x10) layout.headers placed

-- ---- windows

window_fits : (t : ℕ) (p : Packet) (window : List ℕ) → total size (windows_by t p window) ≤ both_heads + length window
window_fits t p [] = omega arith
window_fits t p (b ∷ bytes) = omega (arith, length-off_bytes2 (window_head t p.number) (b ∷ bytes))

-- what stands behind a place of the frames
abbrev behind : ℕ → List Packet → ℕ
behind at ps = total (λ p. length (drop at p.frame)) ps

window_long : (snap at next : ℕ) (f : List ℕ) → next ≡ at + snap → length (take snap (drop at f)) + length (drop next f) ≡ length (drop at f)
window_long snap at next f e = omega (arith, e, length-take snap (drop at f), length-drop at f, length-drop next f)

one_tap : (snap t next : ℕ) (ps : List Packet) → next ≡ t * snap + snap → total size (windows_of snap t ps) + behind next ps ≤ both_heads * length ps + behind (t * snap) ps
one_tap snap t next [] e = omega arith
one_tap snap t next (p ∷ ps) e =
    omega (
      arith,
      total_append size (windows_by t p (window_of snap t p.frame)) (windows_of snap t ps),
      window_fits t p (window_of snap t p.frame),
      window_long snap (t * snap) next p.frame e,
      one_tap snap t next ps e,
    )

short_tap : (snap t : ℕ) (ps : List Packet) → total size (windows_of snap t ps) ≤ length ps * (both_heads + snap)
short_tap snap t [] = omega arith
short_tap snap t (p ∷ ps) =
    omega (
      arith,
      total_append size (windows_by t p (window_of snap t p.frame)) (windows_of snap t ps),
      window_fits t p (window_of snap t p.frame),
      length-take snap (drop (t * snap) p.frame),
      short_tap snap t ps,
    )

abbrev pub from_tap : ℕ → List Packet → ℕ → ℕ → List Packet
from_tap snap ps t taps = flat_map (λ t. windows_of snap t ps) (range_with_len t taps)

taps_behind : (snap t taps : ℕ) (ps : List Packet) → total size (from_tap snap ps t taps) ≤ length ps * (both_heads * taps) + behind (t * snap) ps
taps_behind snap t zero ps = omega arith
taps_behind snap t (suc taps) ps =
    omega (
      arith,
      total_append size (windows_of snap t ps) (from_tap snap ps (t + 1) taps),
      one_tap snap t ((t + 1) * snap) ps (omega arith),
      taps_behind snap (t + 1) taps ps,
    )

behind_all : (ps : List Packet) → behind 0 ps ≡ total frame_size ps
behind_all [] = refl
behind_all (p ∷ ps) = ap (λ n. length p.frame + n) (behind_all ps)

-- all bytes of the frames at most, behind both headers for each tap and frame
pub taps_in_frames : (snap taps : ℕ) (ps : List Packet) → total size (from_tap snap ps 0 taps) ≤ length ps * (both_heads * taps) + total frame_size ps
taps_in_frames snap taps ps = let none : 0 * snap ≡ 0 = omega arith in omega (arith, taps_behind snap 0 taps ps, ap (λ at. behind at ps) none, behind_all ps)

-- and at most `snap` bytes for each
pub taps_in_snaps : (snap t taps : ℕ) (ps : List Packet) → total size (from_tap snap ps t taps) ≤ length ps * (both_heads * taps) + length ps * (taps * snap)
taps_in_snaps snap t zero ps = omega arith
taps_in_snaps snap t (suc taps) ps =
    omega (arith, total_append size (windows_of snap t ps) (from_tap snap ps (t + 1) taps), short_tap snap t ps, taps_in_snaps snap (t + 1) taps ps)

-- ---- what taps are shown

shown_less : (filter : Option (List Instr)) (f : List ℕ) → length (shown_bytes filter f) ≤ length f
shown_less None f = omega arith
shown_less (Some code) f = omega (arith, length-take (unwrap_or (value_of code f) 0) f)

pub shown_frames : (filter : Option (List Instr)) (ps : List Packet) → total frame_size (map (shown_of filter) ps) ≤ total frame_size ps
shown_frames filter [] = omega arith
shown_frames filter (p ∷ ps) = omega (arith, shown_less filter p.frame, shown_frames filter ps)
