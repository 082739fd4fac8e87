-- What a plan says of its record, and of the buffer that is to be cut.
use Rattle.std.specs.Prelude.{◌≡◌, ◌≤◌, ◌+◌, ◌-◌, ◌&&◌, true, ℕ, List, [], ◌∷◌, length, drop}
use Rattle.pcap_io.specs.Limits.{most_frame}
use Rattle.pcap_io.specs.Capture.{Packet, packet}
use Rattle.pcap_io.specs.Headers.{head_size as size_of, fields_in}
use Rattle.pcap_io.specs.declared.off_head.AnyHead.{AnyHead}
use Rattle.offload_model.specs.Tests.{is_opened_by, is_lawful_by}
use Rattle.segment_rule.specs.declared.segmentation.Segmentation.{Segmentation}
use Rattle.segment_rule.specs.Segmentations.{IsSegmentationOf, segments_at}
use Rattle.skb.specs.SkbState.{SkbState, buffer_bytes, head_size}
use Rattle.gso.specs.Sums.{AreSumsOf}
use Rattle.skb.specs.Checksum.{AreBytes}
use Rattle.gso.specs.declared.sums.Sums.{Sums}
use Rattle.gso.specs.declared.judging.Plan.{Plan}
use Rattle.gso.specs.declared.judging.Plan.TheVariants.{Nothing, Single, Segments}

-- the packets that a record stands for by its plan, p being the packet behind its offload header
abbrev pub packets_by : Plan → Packet → List Packet
packets_by Nothing p = []
packets_by Single p = p ∷ []
packets_by (Segments cut sums) p = segments_at cut p

-- a merged frame's headers lie in the head, and its sums are the payload's
pub record IsSegmentsReady (s : SkbState) (cut : Segmentation) (sums : Sums) : Type 0 where
  pub of : IsSegmentationOf cut (buffer_bytes s)
  pub in_bytes : AreBytes (buffer_bytes s)
  pub short : length (buffer_bytes s) ≤ most_frame
  pub front : cut.layout.payload_at ≤ head_size s
  pub known : AreSumsOf cut.m sums (drop cut.layout.payload_at (buffer_bytes s))

-- the plan is this buffer's
abbrev pub IsPlanOf : SkbState → Plan → Type 0
IsPlanOf s (Segments cut sums) = IsSegmentsReady s cut sums
IsPlanOf s _ = Unit {0}

-- a record is lawful that has this header, this original length, and the frame behind the header
abbrev pub IsLawfulBehind : AnyHead → ℕ → List ℕ → Type 0
IsLawfulBehind head original f =
    (is_opened_by head (size_of head + length f) original
    && is_lawful_by (fields_in head) (packet 0 0 0 (original - size_of head) f)) ≡ true
