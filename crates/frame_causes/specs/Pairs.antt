-- Why the second of two frames doesn't continue the first.
use Rattle.std.specs.Prelude.{Bool, true, false, ◌-◌, ◌&&◌, not, nat_le}
use Rattle.std.specs.Prelude.{if◌then◌else◌, Option, None, Some, [], ◌∷◌, length}
use Rattle.frame_layout.specs.Headers.{all_headers, are_alike_below}
use Rattle.frame_layout.specs.Key.{key_eq, key_of}
use Rattle.frame_layout.specs.Shape.{Layout, shape_of}
use Rattle.pcap_io.specs.Capture.{Packet}
use Rattle.pcap_io.specs.Limits.{most_frame}
use Rattle.offload_model.specs.Tests.{are_ids_in_step, are_udp_sums_alike, is_ack_alone, is_length_in_range}
use Rattle.offload_model.specs.Tests.{is_sequence_behind}
use Rattle.frame_causes.specs.Asks.{total_of}
use Rattle.frame_causes.specs.Causes.{cause_of}
use Rattle.frame_causes.specs.declared.cause.Cause.{Cause}
use Rattle.frame_causes.specs.declared.cause.Cause.TheVariants as cause
use Rattle.frame_causes.specs.declared.pair.PairCause.{PairCause}
use Rattle.frame_causes.specs.declared.pair.PairCause.TheVariants.{Mergeable, First, Second, Flow, Headers, UdpSum}
use Rattle.frame_causes.specs.declared.pair.PairCause.TheVariants.{Longer, Flags, Sequence, Identification, TooLong}

-- the frame may be merged
abbrev pub is_none : Cause → Bool
is_none cause.Mergeable = true
is_none _ = false

-- the headers of `q` are like those of `p`
abbrev pub are_alike : Layout → Packet → Packet → Bool
are_alike layout p q = nat_le layout.payload_at (length q.frame)
    && are_alike_below layout.headers q.frame p.frame layout.payload_at

-- what both come to has room
abbrev pub fits : Layout → Packet → Packet → Bool
fits layout p q = all_headers (is_length_in_range (total_of layout p q)) layout.headers
    && nat_le (total_of layout p q) most_frame

-- of two whose headers are alike, the model's conditions of a run in their order
abbrev pub line_cause : Layout → Packet → Packet → PairCause
line_cause layout p q =
    if not (all_headers (are_udp_sums_alike q.frame p.frame) layout.headers) then UdpSum
    else (if not (nat_le (length q.frame) (length p.frame)) then Longer
    else (if not (all_headers (is_ack_alone p.frame) layout.headers) then Flags
    else (if not (all_headers (is_sequence_behind p.frame q.frame (length p.frame - layout.payload_at))
    layout.headers) then Sequence
    else (if not (all_headers (are_ids_in_step p.frame (p ∷ q ∷ [])) layout.headers) then Identification
    else (if not (fits layout p q) then TooLong else Mergeable)))))

-- of two that may be merged, by the first one's layout
abbrev pub pair_by : Option Layout → Packet → Packet → PairCause
pair_by None p q = First
pair_by (Some layout) p q =
    if not (key_eq (key_of q.frame) (key_of p.frame)) then Flow
    else (if not (are_alike layout p q) then Headers else line_cause layout p q)

-- why `q` doesn't continue `p`; `Mergeable` where it does
abbrev pub pair_cause : Packet → Packet → PairCause
pair_cause p q =
    if not (is_none (cause_of p.frame p.original)) then First
    else (if not (is_none (cause_of q.frame q.original)) then Second else pair_by (shape_of p.frame) p q)
