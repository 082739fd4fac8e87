-- Limits are those of the merged frame.
use Rattle.std.proofs.Common.{◌≡◌, ℕ, ◌+◌, ◌-◌, ◌≤◌, Option, Some, List, [], ◌∷◌, ◌++◌, length, take, sym, ap, ◌∙◌, arith, length-append}
use Rattle.std.proofs.lemmas.List.{length-take-le}
use Rattle.pcap_io.specs.Capture.{Packet}
use Rattle.frame_layout.specs.Shape.{Layout, shape_of}
use Rattle.frame_layout.proofs.Lemmas.{laid}
use Rattle.offload_model.specs.Edits.{with_edits, put_flags_of}
use Rattle.offload_model.specs.Frames.{merged_frame}
use Rattle.offload_model.specs.Laws.{LimitsBoundFrames}
use Rattle.offload_model.specs.Mergeable.{IsMergeable, len_by, merged_len, payloads_of}
use Rattle.offload_model.specs.Merged.{frame_at, frame_of_run, layout_of, merged_of}
use Rattle.offload_model.proofs.Edits.{with_edits-long}
use Rattle.offload_model.proofs.Functions.{copying_flags}
use Rattle.offload_model.proofs.Made.{with_lengths_and_sums-long}

-- the merged frame has the first frame's headers and all payloads
pub merged_long : (layout : Layout) (first last payload : List ℕ) → length (merged_frame layout first last payload) ≡ length (take layout.payload_at first) + length payload
merged_long layout first last payload =
    let joined : List ℕ = take layout.payload_at first ++ payload in
    with_lengths_and_sums-long layout.headers (with_edits (put_flags_of last) layout.headers joined)
    ∙ with_edits-long _ (put_flags_of last) (copying_flags last) layout.headers joined
    ∙ length-append (take layout.payload_at first) payload

-- the packets' layout is that of the first frame
pub len_is : (layout : Layout) (p : Packet) (ps : List Packet) → shape_of p.frame ≡ Some layout
    → len_by (shape_of p.frame) ps ≡ layout.payload_at + length (payloads_of layout ps)
len_is layout p ps s = ap (λ z. len_by z ps) s

run_long : (layout : Layout) (p q : Packet) (ps : List Packet) → shape_of p.frame ≡ Some layout
    → length (frame_of_run (layout_of p.frame) (p ∷ q ∷ ps)) ≡ layout.payload_at + length (payloads_of layout (p ∷ q ∷ ps))
run_long layout p q ps s =
    let run : List Packet = p ∷ q ∷ ps in
    ap (λ (z : Option Layout). length (frame_of_run (Rattle.std.specs.Option.unwrap_or z (record { headers = []; payload_at = 0 })) run)) s
    ∙ merged_long layout p.frame (frame_at run (length run - 1)) (payloads_of layout run)
    ∙ ap (λ z. z + length (payloads_of layout run)) (length-take-le layout.payload_at p.frame (laid p.frame layout s).1)

lengths : (ps : List Packet) → IsMergeable ps → merged_len ps ≡ length (merged_of ps).packet.frame
lengths [] m = absurd m
lengths (p ∷ []) m = absurd (omega (arith, m.1.several))
lengths (p ∷ q ∷ ps) m =
    let s : shape_of p.frame ≡ Some m.0 = m.1.line.shapes.at 0 p (omega arith) in
    len_is m.0 p (p ∷ q ∷ ps) s ∙ sym (run_long m.0 p q ps s)

pub short : (ps : List Packet) → IsMergeable ps → merged_len ps ≤ 262144
short [] m = absurd m
short (p ∷ ps) m = omega (arith, len_is m.0 p (p ∷ ps) (m.1.line.shapes.at 0 p (omega arith)), m.1.line.short)

pub limits_are_bounds : LimitsBoundFrames
limits_are_bounds = record {
  packets = λ segs ps. (λ m. (m.0, m.1.0), λ m. (m.0, (m.1, short ps m.0)));
  bytes = lengths;
}
