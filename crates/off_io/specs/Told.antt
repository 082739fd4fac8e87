-- Facts on what a source had left before and has left after, claimed only where the source tells.
use Rattle.std.specs.Prelude.{ℕ, List, Option, None, Some, ⊤}

-- where the source tells what it had left, it tells what it has left, and the fact holds of both
abbrev pub Told : Option (List ℕ) → Option (List ℕ) → (List ℕ → List ℕ → Type 0) → Type 0
Told None new P = ⊤
Told (Some old) None P = ⊥
Told (Some old) (Some new) P = P old new
