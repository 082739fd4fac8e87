use Rattle.std.proofs.Common.{◌≡◌, ℕ, [], length}
use Rattle.gro_table.specs.Waiting.{found}
use Rattle.gro_table.proofs.waiting.clear_places.Given as goal

abbrev pub invariant-loop-place : goal.invariant-loop-place
invariant-loop-place l = (k : ℕ) → found l.waiting.items k ≡ []

abbrev pub decreases-loop-place : goal.decreases-loop-place
decreases-loop-place l = length l.waiting.items
