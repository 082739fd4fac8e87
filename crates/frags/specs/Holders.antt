-- What a holder of a block reads, and the part that it is or becomes.
use Rattle.std.specs.Prelude.{ℕ, ◌≡◌, List, ◌∷◌, ◌++◌, Ok, Err}
use Rattle.block_weight.specs.WeightRule.{full_weight}
use Rattle.raw_block.specs.Views.{PartState}
use Rattle.frags.specs.declared.pieces.Piece.{Piece}
use Rattle.frags.specs.declared.holder.Holder.{Holder}
use Rattle.frags.specs.declared.holder.Holder.TheVariants.{Sole, Part}
use Rattle.std.specs.declared.result.Result.{Result}
use Rattle.std.specs.declared.alloc.AllocError.{AllocError}

-- the 2048 bytes that a holder reads
abbrev pub block : Holder → List ℕ
block (Sole s) = s.bytes
block (Part p) = p.bytes

-- the name of a holder's block
abbrev pub name_of : Holder → ℕ
name_of (Sole s) = s.block
name_of (Part p) = p.life.block

-- the part that a holder is, or that its Sole becomes
abbrev pub AsPart : Holder → PartState → Type 0
AsPart (Sole s) p = (p.weight ≡ full_weight) × (p.life.block ≡ s.block) × (p.bytes ≡ s.bytes) × (p.mark ≡ s.mark)
AsPart (Part q) p = p ≡ q

-- what `append_all` answers, of the pieces before and after
abbrev pub IsAppend : List Piece → Holder → ℕ → ℕ → List Piece → List Piece
    → Result Unit (Holder × List Piece × AllocError) → Type 0
IsAppend a h from to others b (Ok _) = (p : PartState) × (AsPart h p
    × (b ≡ a ++ (record { part = p; from = from; to = to }) ∷ others))
IsAppend a h from to others b (Err e) = (e.0 ≡ h) × (e.1 ≡ others) × (b ≡ a)
