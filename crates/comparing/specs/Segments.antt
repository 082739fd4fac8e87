-- The segments of a merged frame that are compared, one by one.
use Rattle.std.specs.Prelude.{ℕ, ◌≡◌, ◌*◌, ◌≤◌, List, length, map, take, drop}
use Rattle.std.specs.List.{range_with_len}
use Rattle.pcap_io.specs.Limits.{most_frame}
use Rattle.pcap_io.specs.Capture.{Packet}
use Rattle.offload_model.specs.Merged.{Merged}
use Rattle.offload_model.specs.Segments.{with_frame}
use Rattle.skb.specs.Checksum.{AreBytes}
use Rattle.segment_rule.specs.declared.segmentation.Segmentation.{Segmentation}
use Rattle.segment_rule.specs.Segmentations.{IsSegmentationOf, segment_at, segments_at}
use Rattle.check_totals.specs.Returned.{packets_in}

-- of the frame f the payload of i segments was passed: its headers, and the payload that is left
pub record IsCutTo (cut : Segmentation) (f headers : List ℕ) (i : ℕ) (payload : List ℕ) : Type 0 where
  pub in_bytes : AreBytes f
  pub short : length f ≤ most_frame
  pub of : IsSegmentationOf cut f
  pub front : headers ≡ take cut.layout.payload_at f
  pub rest : payload ≡ drop (i * cut.m) (drop cut.layout.payload_at f)

-- what a run comes to is a merged frame that is cut so
pub record IsCutOf (cut : Segmentation) (r : Merged) : Type 0 where
  pub in_bytes : AreBytes r.packet.frame
  pub short : length r.packet.frame ≤ most_frame
  pub of : IsSegmentationOf cut r.packet.frame
  pub packets : packets_in r ≡ segments_at cut r.packet

-- k segments from segment i on, as packets
abbrev pub segments_from : Segmentation → Packet → ℕ → ℕ → List Packet
segments_from cut p i k = map (λ j. with_frame p (segment_at cut p.frame j)) (range_with_len i k)
