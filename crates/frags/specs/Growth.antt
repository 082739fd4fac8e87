-- What was given back stays where it is, and more comes behind it: in order of return.
use Rattle.std.specs.Prelude.{ℕ, ◌≡◌, ◌+◌, [], ◌∷◌, ◌++◌, length, take}
use Rattle.raw_block.specs.declared.part.Released.{Released}
use Rattle.raw_block.specs.declared.part.Released.TheVariants.{Last, Left}
use Rattle.frags.specs.OutcomesState.{OutcomesState}

-- n Soles and receipts came behind those that were there
abbrev pub Grows : ℕ → OutcomesState → OutcomesState → Type 0
Grows n a b = (take (length a.soles) b.soles ≡ a.soles) × (take (length a.receipts) b.receipts ≡ a.receipts)
    × (length b.soles + length b.receipts ≡ length a.soles + length a.receipts + n)

-- what a release left came behind those that were there
abbrev pub Behind : Released → OutcomesState → OutcomesState → Type 0
Behind (Last s) a b = (b.soles ≡ a.soles ++ s ∷ []) × (b.receipts ≡ a.receipts)
Behind (Left r) a b = (b.soles ≡ a.soles) × (b.receipts ≡ a.receipts ++ r ∷ [])
