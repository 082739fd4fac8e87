-- What giving back leaves among the outcomes, and what is freed of what is given up without them.
use Rattle.std.specs.Prelude.{ℕ, ◌≡◌, ◌≤◌, List, [], ◌∷◌}
use Rattle.block_weight.specs.WeightRule.{full_weight}
use Rattle.raw_block.specs.Releases.{IsReleased, IsLast}
use Rattle.raw_block.specs.Views.{SoleState, PartState}
use Rattle.raw_block.specs.declared.part.Released.{Released}
use Rattle.raw_block.specs.declared.part.Released.TheVariants.{Last}
use Rattle.frags.specs.Growth.{Behind}
use Rattle.frags.specs.OutcomesState.{OutcomesState}
use Rattle.frags.specs.declared.holder.Holder.{Holder}
use Rattle.frags.specs.declared.holder.Holder.TheVariants.{Sole, Part}
use Rattle.frags.specs.declared.pieces.Piece.{Piece}

-- the Sole of a part's block, as the part reads it
abbrev pub sole_of : PartState → SoleState
sole_of p = record { block = p.life.block; bytes = p.bytes; mark = p.mark }

-- of the outcomes before and after: what the part's release left stands behind the others, the Sole of a part of all
-- the weight
abbrev pub ReturnsPart : PartState → OutcomesState → OutcomesState → Type 0
ReturnsPart p a b = (r : Released) × (IsReleased p r × ((p.weight ≡ full_weight) → IsLast r) × Behind r a b)

-- a Sole as it is
abbrev pub ReturnsHolder : Holder → OutcomesState → OutcomesState → Type 0
ReturnsHolder (Sole s) a b = Behind (Last s) a b
ReturnsHolder (Part p) a b = ReturnsPart p a b

-- the first piece's part first
abbrev pub ReturnsPieces : List Piece → OutcomesState → OutcomesState → Type 0
ReturnsPieces [] a b = (b.soles ≡ a.soles) × (b.receipts ≡ a.receipts)
ReturnsPieces (p ∷ ps) a b = (mid : OutcomesState) × ReturnsPart p.part a mid × ReturnsPieces ps mid b

-- how many blocks a holder frees: its own, where nobody else holds it
abbrev pub Frees : Holder → ℕ → Type 0
Frees (Sole s) n = n ≡ 1
Frees (Part p) n = (n ≤ 1) × (p.weight ≡ full_weight → n ≡ 1)
