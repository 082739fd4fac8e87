-- What a packet that a host captured is on the wire: its sums filled in, and cut into segments where its card would cut
-- it.
use Rattle.std.specs.Prelude.{ℕ, ◌+◌, ◌-◌, ◌/◌, Bool, false, true, ◌&&◌, nat_lt, if◌then◌else◌, Option, None, Some}
use Rattle.std.specs.Prelude.{List, [], ◌∷◌, length}
use Rattle.frame_layout.specs.Segment.{last_header}
use Rattle.frame_layout.specs.declared.layout.Header.{Header}
use Rattle.frame_layout.specs.declared.layout.Layer.{Layer}
use Rattle.frame_layout.specs.declared.layout.Layer.TheVariants.{Tcp}
use Rattle.pcap_io.specs.Capture.{Packet}
use Rattle.pcap_io.specs.declared.off_head.OffHead2.{OffHead2}
use Rattle.offload_model.specs.Merged.{layout_of}
use Rattle.offload_model.specs.Segments.{segments_by}
use Rattle.offload_model.specs.Tests.{is_lawful_super}
use Rattle.wire_model.specs.declared.wiring.Wiring.{Wiring}
use Rattle.wire_model.specs.Filling.{filled_of}

abbrev pub is_tcp : Layer → Bool
is_tcp Tcp = true
is_tcp _ = false

abbrev pub is_tcp_by : Option Header → Bool
is_tcp_by None = false
is_tcp_by (Some h) = is_tcp h.layer

-- the last header is TCP's
abbrev pub carries_tcp : List ℕ → Bool
carries_tcp f = is_tcp_by (last_header (layout_of f).headers)

abbrev pub payload_length : List ℕ → ℕ
payload_length f = length f - (layout_of f).payload_at

-- the offload header by which a frame would be cut: into the least number of segments of at most `mss` bytes each, and
-- with no identification that stays
abbrev pub cut_head : ℕ → List ℕ → OffHead2
cut_head mss f = record {
  version = 2;
  kind = 1;
  modes = 0;
  lane = 0;
  n = (payload_length f + (mss - 1)) / mss;
  m = mss;
  number = 0;
}

-- a TCP frame with more than `mss` bytes of payload, which passes the test of a merged record
abbrev pub is_cut : ℕ → Packet → Bool
is_cut mss p = carries_tcp p.frame
    && (nat_lt mss (payload_length p.frame) && is_lawful_super (cut_head mss p.frame) p)

-- its segments, each with the packet's time; or the packet
abbrev pub cut_of : ℕ → Packet → List Packet
cut_of mss p = if is_cut mss p then segments_by (cut_head mss p.frame) p else p ∷ []

-- what stands on the wire of a packet
abbrev pub wire_of : Wiring → Packet → List Packet
wire_of o p = cut_of o.mss (filled_of o.fills_all p)
