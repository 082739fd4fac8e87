-- Frames, wherever their bytes lie.
use Rattle.std.specs.Prelude.{ℕ, ◌≡◌, ◌<◌, ◌≤◌, List, ◌++◌, length, min, slice_index}

abbrev pub AreBytes : List ℕ → Type 0
AreBytes f = (k : ℕ) → slice_index f k < 256

-- the frame begins with the head, in which the first 200 bytes lie, or all of fewer
pub record IsFrontOf (head f : List ℕ) : Type 0 where
  pub rest : List ℕ
  pub joined : f ≡ head ++ rest
  pub enough : min (length f) 200 ≤ length head
