-- What release and claim answer of a part.
use Rattle.std.specs.Prelude.{◌≡◌, ◌<◌, ◌≤◌}
use Rattle.block_weight.specs.WeightRule.{full_weight}
use Rattle.raw_block.specs.Views.{PartState}
use Rattle.raw_block.specs.declared.part.Released.{Released}
use Rattle.raw_block.specs.declared.part.Released.TheVariants.{Last, Left}
use Rattle.raw_block.specs.declared.part.Claimed.{Claimed}
use Rattle.raw_block.specs.declared.part.Claimed.TheVariants.{Sole, Shared}

-- the last of its life is the block's Sole, with the bytes and the mark of the life; any other leaves a receipt of its
-- weight
abbrev pub IsReleased : PartState → Released → Type 0
IsReleased part (Last sole) = (sole.block ≡ part.life.block) × (sole.bytes ≡ part.bytes) × (sole.mark ≡ part.mark)
IsReleased part (Left receipt) = (receipt.weight ≡ part.weight) × (receipt.weight < full_weight)
    × (receipt.life ≡ part.life) × (receipt.mark ≡ part.mark)

-- where the part is the only holder it is the Sole; else it stays, and the word was seen above its weight
abbrev pub IsClaimed : PartState → Claimed → Type 0
IsClaimed part (Sole sole) = (sole.block ≡ part.life.block) × (sole.bytes ≡ part.bytes) × (sole.mark ≡ part.mark)
IsClaimed part (Shared same sight) = (same ≡ part) × (sight.life ≡ part.life) × (part.weight < sight.total)
    × (sight.total ≤ full_weight)

abbrev pub IsLast : Released → Type 0
IsLast (Last _) = Unit {0}
IsLast (Left _) = ⊥

abbrev pub IsSole : Claimed → Type 0
IsSole (Sole _) = Unit {0}
IsSole (Shared _ _) = ⊥
