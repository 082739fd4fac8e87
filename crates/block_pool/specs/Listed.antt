-- What the blocks of lists weigh together.
use Rattle.std.specs.Prelude.{ℕ, ◌≡◌, List, [], ◌∷◌, ◌++◌}
use Rattle.std.specs.List.{sum_by}
use Rattle.raw_block.specs.Views.{SoleState}
use Rattle.block_pool.specs.PassState.{PassState, Took}
use Rattle.block_pool.specs.PoolState.{PoolState}

-- the weight of all blocks of all lists
abbrev pub listed : (SoleState → ℕ) → List PoolState → ℕ
listed h lists = sum_by (λ (p : PoolState). sum_by h p.blocks) lists

-- and how many they are
abbrev pub blocks_in : List PoolState → ℕ
blocks_in lists = listed (λ _. 1) lists

-- of a block, the list at hand, the pass and the spent lists, before and after: the block was the last one at hand, and
-- nothing else has changed
abbrev pub FromHand : SoleState → PoolState → PoolState → PassState PoolState → PassState PoolState → List PoolState
    → List PoolState → Type 0
FromHand block a b p q xs ys = (a.blocks ≡ b.blocks ++ block ∷ []) × (b.made ≡ a.made) × (q ≡ p) × (ys ≡ xs)

-- the block was the last one of a list that was taken, which is at hand now, and the emptied one is spent
abbrev pub FromList : SoleState → PoolState → PoolState → PassState PoolState → PassState PoolState → List PoolState
    → List PoolState → Type 0
FromList block a b p q xs ys = (list : PoolState) × Took p list q × (list.blocks ≡ b.blocks ++ block ∷ [])
    × (b.made ≡ list.made) × (ys ≡ xs ++ a ∷ [])
