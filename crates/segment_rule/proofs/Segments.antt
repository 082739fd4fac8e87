-- A frame that may be cut, and its segments.
use Rattle.std.proofs.Common.{◌≡◌, ℕ, zero, suc, ◌+◌, ◌-◌, ◌*◌, ◌^◌, ◌<◌, ◌≤◌, List, length, drop, sym, arith}
use Rattle.std.proofs.lemmas.List.{length-take, length-drop}
use Rattle.frame_layout.specs.Headers.{AtHeaders}
use Rattle.frame_layout.specs.Candidate.{IsLengthRight}
use Rattle.frame_layout.specs.declared.layout.Layer.{Layer}
use Rattle.frame_layout.specs.declared.layout.Layer.TheVariants.{Ip4, Udp}
use Rattle.frame_layout.proofs.Lemmas.{IsPlaced, placed, headers_map}
use Rattle.offload_model.specs.Mergeable.{IsLengthInRange}
use Rattle.offload_model.proofs.Filled.{Small}
use Rattle.offload_model.proofs.Fronts.{range_less}
use Rattle.segment_rule.specs.declared.segmentation.Segmentation.{Segmentation}
use Rattle.segment_rule.specs.Segmentations.{IsSegmentationOf, payload_at}

-- a right length is in range
ranged : (f : List ℕ) → Small f → (l : Layer) (at : ℕ) → IsLengthRight f l at → IsLengthInRange (length f) l at
ranged f small Ip4 at e = omega (arith, e, small (at + 2), small (at + 2 + 1))
ranged f small Udp at e = omega (arith, e, small (at + 4), small (at + 4 + 1))
ranged f small _ at e = tt

times_le : (i n m : ℕ) → i ≤ n → i * m ≤ n * m
times_le zero n m le = omega arith
times_le (suc i) zero m le = absurd (omega arith)
times_le (suc i) (suc n) m le =
    let a : suc i * m ≡ m + i * m = omega arith in
    let b : suc n * m ≡ m + n * m = omega arith in
    omega (arith, times_le i n m (omega arith))

-- what a cut of a frame says of its headers' places
pub places : (cut : Segmentation) (f : List ℕ) → Small f → IsSegmentationOf cut f → IsPlaced f cut.layout
places cut f small is = placed f small cut.layout (sym is.shape_is)

pub ranges : (cut : Segmentation) (f : List ℕ) → Small f → IsSegmentationOf cut f → AtHeaders (IsLengthInRange (length f)) cut.layout.headers
ranges cut f small is = headers_map (ranged f small) cut.layout.headers is.candidate.lengths

-- a segment begins no further behind than the payload is long, so its place in the stream is counted in 32 bits
pub near : (cut : Segmentation) (f : List ℕ) (i : ℕ) → IsSegmentationOf cut f → length f ≤ 262144 → i < cut.n → i * cut.m < 2 ^ 32
near cut f i is short less = omega (arith, is.above, short, times_le i (cut.n - 1) cut.m (omega (arith, less)))

-- a segment isn't longer than the frame
pub payload_short : (cut : Segmentation) (f : List ℕ) (i : ℕ) → length (payload_at cut f i) ≤ length f - cut.layout.payload_at
payload_short cut f i =
    omega (arith, length-take cut.m (drop (i * cut.m) (drop cut.layout.payload_at f)), length-drop (i * cut.m) (drop cut.layout.payload_at f), length-drop cut.layout.payload_at f)

pub segment_ranges : (cut : Segmentation) (f : List ℕ) (i : ℕ) → Small f → IsSegmentationOf cut f
    → AtHeaders (IsLengthInRange (cut.layout.payload_at + length (payload_at cut f i))) cut.layout.headers
segment_ranges cut f i small is =
    headers_map (range_less (cut.layout.payload_at + length (payload_at cut f i)) (length f) (omega (arith, payload_short cut f i, (places cut f small is).within)))
    cut.layout.headers (ranges cut f small is)
