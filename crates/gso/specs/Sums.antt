-- The sums of the segments that a payload is cut into: m bytes each, and what is left at the last one.
use Rattle.std.specs.Prelude.{ℕ, ◌<◌, ◌≤◌, List, [], ◌∷◌, length, take, drop}
use Rattle.inet_sum.specs.Stands.{FoldAndLength, StandsFor}
use Rattle.gso.specs.declared.sums.Sums.{Sums}

-- each of the sums is that of m bytes, and `rest` that of those behind them
abbrev pub AreSums : ℕ → List FoldAndLength → FoldAndLength → List ℕ → Type 0
AreSums m [] rest f = StandsFor rest f
AreSums m (s ∷ ss) rest f = (m ≤ length f) × StandsFor s (take m f) × AreSums m ss rest (drop m f)

-- these are the sums of the segments of f
abbrev pub AreSumsOf : ℕ → Sums → List ℕ → Type 0
AreSumsOf m sums f = AreSums m sums.parts.items sums.rest f

-- there are at most 64 of them, and less than m bytes behind, unless there are 64
pub record IsRoom (m : ℕ) (sums : Sums) : Type 0 where
  pub some : 1 ≤ m
  pub few : length sums.parts.items ≤ 64
  pub low : length sums.parts.items < 64 → sums.rest.len < m
