-- What `copy` answers.
use Rattle.std.specs.Prelude.{ℕ, ◌≡◌, ◌+◌, ◌-◌, ◌/◌, ◌<◌, ◌≤◌, List, [], ◌∷◌, ◌++◌, true, length, min, take}
use Rattle.std.specs.Prelude.{slice_range, Ok, Err}
use Rattle.std.specs.declared.result.Result.{Result}
use Rattle.block_weight.specs.WeightRule.{full_weight}
use Rattle.raw_block.specs.Views.{SoleState, PartState}
use Rattle.frags.specs.PieceList.{least_weight}
use Rattle.frags.specs.declared.pieces.Piece.{Piece}
use Rattle.skb.specs.SkbState.{SkbState, buffer_bytes, buffer_size, is_sole}
use Rattle.skb.specs.declared.copy.CopyFault.{CopyFault}
use Rattle.skb.specs.declared.copy.CopyFault.TheVariants.{Empty, NoMemory}

-- the blocks that n bytes fill
abbrev pub blocks_for : ℕ → ℕ
blocks_for n = (n + 2047) / 2048

-- the blocks that a copy takes, its headroom included
abbrev pub copy_need : SkbState → ℕ
copy_need a = blocks_for (buffer_size a + 64)

-- of the buffer, and the spares before and after: the copy's head is a Sole, and each of its other blocks has all its
-- weight in one part
abbrev pub IsCopy : SkbState → List SoleState → List SoleState → Result SkbState CopyFault → Type 0
IsCopy a s t (Ok c) = (copy_need a ≤ length s) × (t ≡ take (length s - copy_need a) s)
    × (buffer_bytes c ≡ buffer_bytes a) × (c.from ≡ 64) × (c.to ≡ 64 + min (buffer_size a) 1984)
    × (is_sole c.head ≡ true) × (least_weight c.rest ≡ full_weight) × (length c.rest + 1 ≡ copy_need a)
IsCopy a s t (Err (Empty h n)) = (length s < copy_need a) × (h ≡ length s) × (n ≡ copy_need a) × (t ≡ s)
IsCopy a s t (Err NoMemory) = (copy_need a ≤ length s) × (t ≡ s)

-- the bytes from `at` on that fit a block, in the last spare
abbrev pub IsNextBlock : SkbState → ℕ → List SoleState → List Piece → List SoleState → List Piece → Type 0
IsNextBlock a at s c t d = let n = min (buffer_size a - at) 2048 in
    (b : SoleState) × ((p : PartState) × ((s ≡ t ++ b ∷ []) × (p.mark ≡ b.mark) × (p.weight ≡ full_weight)
    × (slice_range p.bytes 0 n ≡ slice_range (buffer_bytes a) at (at + n))
    × (d ≡ c ++ (record { part = p; from = 0; to = n }) ∷ []) × (p.life.block ≡ b.block)))
