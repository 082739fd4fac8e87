-- How the frame of a merged record is cut into segments, and which records are.
use Rattle.std.specs.Prelude.{◌≡◌, ℕ, ◌+◌, ◌-◌, ◌*◌, ◌==◌, ◌&&◌, nat_lt, nat_le, if◌then◌else◌, Bool, Option, Some}
use Rattle.std.specs.Prelude.{None, List, length, map, take, drop}
use Rattle.std.specs.List.{range_with_len}
use Rattle.pcap_io.specs.Capture.{Packet}
use Rattle.pcap_io.specs.declared.off_head.OffHead2.{OffHead2}
use Rattle.offload_model.specs.Edits.{with_edits, with_lengths_and_sums, put_flags, put_place}
use Rattle.offload_model.specs.Frames.{segment_frame}
use Rattle.offload_model.specs.Merged.{Merged, is_fixed}
use Rattle.offload_model.specs.Segments.{with_frame, IsCuttable, IsLawfulSuper}
use Rattle.segment_rule.specs.declared.segmentation.Segmentation.{Segmentation}

-- the cut has the numbers of the offload header
pub record HasNumbersOf (head : OffHead2) (cut : Segmentation) : Type 0 where
  pub n : cut.n ≡ head.n
  pub m : cut.m ≡ head.m
  pub modes : cut.modes ≡ head.modes

-- the frame as a merged one, with the numbers of a cut
abbrev pub merged_by : Segmentation → List ℕ → Merged
merged_by cut f = record {
  packet = record { number = 0; sec = 0; frac = 0; original = length f; frame = f };
  n = cut.n;
  m = cut.m;
  modes = cut.modes;
}

-- the frame may be cut so: it is a candidate of this layout, n segments of m bytes hold its payload and fewer don't,
-- and the modes have no bit but of IPv4 headers with "don't fragment"
abbrev pub IsSegmentationOf : Segmentation → List ℕ → Type 0
IsSegmentationOf cut f = IsCuttable cut.layout (merged_by cut f)

-- segment i, from 0, and its payload: m bytes, or what is left at the last one
abbrev pub segment_at : Segmentation → List ℕ → ℕ → List ℕ
segment_at cut f i = segment_frame cut.layout (is_fixed cut.modes cut.layout.headers) cut.m (i + 1 == cut.n) f i

abbrev pub payload_at : Segmentation → List ℕ → ℕ → List ℕ
payload_at cut f i = take cut.m (drop (i * cut.m) (drop cut.layout.payload_at f))

-- segment i from the frame's headers and its own payload: identifications, sequence number and control bits by its
-- place, and then lengths and sums
abbrev pub segment_from : Segmentation → ℕ → List ℕ → List ℕ
segment_from cut i f =
    let headers = cut.layout.headers in
    let placed = with_edits (put_place (is_fixed cut.modes headers) i (i * cut.m)) headers f in
    with_lengths_and_sums headers (if i + 1 == cut.n then placed else with_edits (put_flags 0x10) headers placed)

abbrev pub segments_at : Segmentation → Packet → List Packet
segments_at cut p = map (λ i. with_frame p (segment_at cut p.frame i)) (range_with_len 0 cut.n)

-- ---- the test of a record

-- a merged frame's header, as far as it says so itself
abbrev pub is_merged_head : OffHead2 → Bool
is_merged_head head = head.kind == 1 && nat_le head.lane 63

-- n segments of m bytes each but the last hold the payload, and fewer don't
abbrev pub is_filled : ℕ → ℕ → ℕ → Bool
is_filled n m payload = nat_le 2 n && (nat_le 1 m && (nat_lt ((n - 1) * m) payload && nat_le payload (n * m)))

-- how the record of a merged frame is segmented, where it is a lawful one
abbrev pub IsJudged : OffHead2 → Packet → Option Segmentation → Type 0
IsJudged head p None = IsLawfulSuper head p → ⊥
IsJudged head p (Some cut) = IsLawfulSuper head p × IsSegmentationOf cut p.frame × HasNumbersOf head cut
