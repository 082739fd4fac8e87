-- A merged frame of which some segments were given.
use Rattle.std.specs.Prelude.{ℕ, ◌≡◌, ◌≢◌, ◌+◌, ◌*◌, ◌<◌, ◌≤◌, List, [], ◌++◌, length, take, drop, Ok, Err}
use Rattle.std.specs.declared.result.Result.{Result}
use Rattle.std.specs.declared.alloc.AllocError.{AllocError}
use Rattle.pcap_io.specs.Limits.{most_frame}
use Rattle.raw_block.specs.Views.{SoleState}
use Rattle.frags.specs.PieceList.{bytes_of}
use Rattle.frags.specs.declared.pieces.Piece.{Piece}
use Rattle.frags.specs.declared.holder.Holder.TheVariants.{Sole}
use Rattle.skb.specs.SkbState.{SkbState, buffer_bytes, buffer_size, buffer_least, head_size}
use Rattle.segment_rule.specs.declared.segmentation.Segmentation.{Segmentation}
use Rattle.segment_rule.specs.Segmentations.{IsSegmentationOf, segment_at}
use Rattle.gso.specs.Sums.{AreSumsOf}
use Rattle.skb.specs.Checksum.{AreBytes}
use Rattle.gso_cutter.specs.Opening.{Enough}
use Rattle.gso.specs.declared.sums.Sums.{Sums}
use Rattle.gso_cutter.specs.declared.cutter.Cut.{Cut}
use Rattle.gso_cutter.specs.declared.cutter.Cut.TheVariants.{Segment, Done}

-- a buffer, of which the payload is gone once the first segment was cut off; the pieces of the payload that is left;
-- how the frame is cut, with the sums of its segments; and how many segments were given
pub record MergedState : Type 0 where
  pub skb : SkbState
  pub pieces : List Piece
  pub cut : Segmentation
  pub sums : Sums
  pub i : ℕ

-- i segments of the frame f were given: its headers and the rest of its payload are here
pub record IsAt (f : List ℕ) (c : MergedState) : Type 0 where
  pub in_bytes : AreBytes f
  pub short : length f ≤ most_frame
  pub of : IsSegmentationOf c.cut f
  pub bytes : buffer_bytes c.skb ++ bytes_of c.pieces ≡ take c.cut.layout.payload_at f
      ++ drop (c.i * c.cut.m) (drop c.cut.layout.payload_at f)

-- what holds of it at all times: no piece is lighter than its bytes, so no cut finds a part worn
pub record IsCutting (c : MergedState) : Type 0 where
  pub frame : List ℕ
  pub at : IsAt frame c
  pub front : c.cut.layout.payload_at ≤ head_size c.skb
  pub closed : buffer_size c.skb ≢ c.cut.layout.payload_at → (c.pieces ≡ []) × (2048 ≤ buffer_least c.skb)
  pub enough : Enough c.pieces
  pub within : c.i ≤ c.cut.n
  pub sums : AreSumsOf c.cut.m c.sums (drop c.cut.layout.payload_at frame)

-- a segment's head is the spare's block, with the headers behind the headroom
pub record IsHeadOf (spare : SoleState) (n : ℕ) (s : SkbState) : Type 0 where
  pub own : SoleState
  pub head : s.head ≡ Sole own
  pub block : own.block ≡ spare.block
  pub mark : own.mark ≡ spare.mark
  pub from : s.from ≡ 64
  pub to : s.to ≡ 64 + n

-- segment i of the frame f was given
pub record GivesSegment (f : List ℕ) (a : MergedState) (spare : SoleState) (b : MergedState)
    (s : SkbState) : Type 0 where
  pub there : a.i < a.cut.n
  pub bytes : buffer_bytes s ≡ segment_at a.cut f a.i
  pub head : IsHeadOf spare a.cut.layout.payload_at s
  pub at : IsAt f b
  pub cut : b.cut ≡ a.cut
  pub i : b.i ≡ a.i + 1

-- what `next` answers where i segments of the frame f were given
abbrev pub IsGiven : List ℕ → MergedState → SoleState → MergedState → Result Cut (SoleState × AllocError) → Type 0
IsGiven f a spare b (Ok (Segment s)) = GivesSegment f a spare b s
IsGiven f a spare b (Ok (Done u)) = (a.i ≡ a.cut.n) × (u ≡ spare) × (b ≡ a)
IsGiven f a spare b (Err e) = (a.i < a.cut.n) × (e.0 ≡ spare) × IsAt f b × (b.cut ≡ a.cut) × (b.i ≡ a.i)
