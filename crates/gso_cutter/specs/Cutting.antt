-- How the packets of a record are given, one by one.
use Rattle.std.specs.Prelude.{ℕ, ◌≡◌, ◌≢◌, ◌+◌, ◌-◌, ◌≤◌, List, [], ◌∷◌, cond, length, map, Ok, Err}
use Rattle.std.specs.List.{range_with_len}
use Rattle.std.specs.declared.result.Result.{Result}
use Rattle.std.specs.declared.alloc.AllocError.{AllocError}
use Rattle.raw_block.specs.Views.{SoleState}
use Rattle.frags.specs.Account.{Account, Keeps, both, of_sole}
use Rattle.frags.specs.PieceList.{of_pieces}
use Rattle.frags.specs.declared.holder.Holder.{Holder}
use Rattle.skb.specs.SkbState.{SkbState, buffer_bytes, of_buffer}
use Rattle.skb.specs.Moving.{HandedOn}
use Rattle.segment_rule.specs.declared.segmentation.Segmentation.{Segmentation}
use Rattle.segment_rule.specs.Segmentations.{segment_at}
use Rattle.gso_cutter.specs.Opening.{with_head}
use Rattle.gso_cutter.specs.Merged.{MergedState, IsAt, IsHeadOf}
use Rattle.gso_cutter.specs.declared.cutter.Cut.{Cut}
use Rattle.gso_cutter.specs.declared.cutter.Cut.TheVariants.{Segment, Done}
use Rattle.gso_cutter.specs.declared.cutter.Work.{Work}
use Rattle.gso_cutter.specs.declared.cutter.Work.TheVariants.{Whole, Merged}

-- ---- the frames that are still to be given

-- k segments of a frame, from segment i on
abbrev pub segments_from : Segmentation → List ℕ → ℕ → ℕ → List (List ℕ)
segments_from cut f i k = map (segment_at cut f) (range_with_len i k)

-- these are the frames that are still to be given, in turn
abbrev pub IsLeft : List (List ℕ) → Work → Type 0
IsLeft frames (Whole w) = frames ≡ cond w.is_left (buffer_bytes w.skb ∷ []) []
IsLeft frames (Merged c) = (f : List ℕ) × IsAt f c × (frames ≡ segments_from c.cut f c.i (c.cut.n - c.i))

-- how many bytes of a segment's headers are written into the spare: all, or none of a frame that is given as it is
abbrev pub headers_of : Work → ℕ
headers_of (Whole w) = 0
headers_of (Merged c) = c.cut.layout.payload_at

-- the first of the frames was given, in the spare's block
pub record Gives (frames : List (List ℕ)) (a : Work) (spare : SoleState) (b : Work) (s : SkbState) : Type 0 where
  pub left : List (List ℕ)
  pub first : frames ≡ buffer_bytes s ∷ left
  pub still : IsLeft left b
  pub head : IsHeadOf spare (headers_of a) s

-- what `next` answers where these frames were still to be given
abbrev pub IsNext : List (List ℕ) → Work → SoleState → Work → Result Cut (SoleState × AllocError) → Type 0
IsNext frames a spare b (Ok (Segment s)) = Gives frames a spare b s
IsNext frames a spare b (Ok (Done u)) = (frames ≡ []) × (u ≡ spare) × (b ≡ a)
IsNext frames a spare b (Err e) = (frames ≢ []) × (e.0 ≡ spare) × IsLeft frames b

-- ---- what is held

abbrev pub count_of : Work → ℕ
count_of (Whole w) = length w.skb.rest + 1
count_of (Merged c) = (length c.skb.rest + 1) + length c.pieces

abbrev pub NextCount : Work → Work → Result Cut (SoleState × AllocError) → Type 0
NextCount a b (Ok (Segment s)) = count_of b + (length s.rest + 1) ≤ count_of a + 3
NextCount a b (Ok (Done u)) = count_of b ≡ count_of a
NextCount a b (Err e) = count_of b ≤ count_of a + 1

abbrev pub of_merged : MergedState → Account
of_merged c = both (of_buffer c.skb) (of_pieces c.pieces)

abbrev pub of_work : Work → Account
of_work (Whole w) = of_buffer w.skb
of_work (Merged c) = of_merged c

abbrev pub of_next : Result Cut (SoleState × AllocError) → Account
of_next (Ok (Segment s)) = of_buffer s
of_next (Ok (Done u)) = of_sole u
of_next (Err e) = of_sole e.0

-- the holder of the record's head
abbrev pub head_of : Work → Holder
head_of (Whole w) = w.skb.head
head_of (Merged c) = c.skb.head

abbrev pub with_merged_head : MergedState → Holder → MergedState
with_merged_head c h = record { skb = with_head c.skb h; pieces = c.pieces; cut = c.cut; sums = c.sums; i = c.i }

abbrev pub of_work_with : Work → Holder → Account
of_work_with (Whole w) h = of_buffer (with_head w.skb h)
of_work_with (Merged c) h = of_merged (with_merged_head c h)

-- nothing is lost, and a life begins at most with the head's Sole
abbrev pub NextAccount : Work → SoleState → Work → Result Cut (SoleState × AllocError) → Type 0
NextAccount a spare b r = (h : Holder) × (HandedOn (head_of a) h
    × Keeps (both (of_work_with a h) (of_sole spare)) (both (of_work b) (of_next r)))
