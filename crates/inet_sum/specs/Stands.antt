-- What a partial sum says of the bytes that were added to it.
use Rattle.std.specs.Prelude.{◌≡◌, ℕ, List, length}
use Rattle.inet_sum.specs.Sum.{fold_of}

-- how a partial sum is seen: the fold of some bytes, and how many they are
pub record FoldAndLength : Type 0 where
  pub fold : ℕ
  pub len : ℕ

-- the partial sum stands for each list that has its fold and its length
abbrev pub StandsFor : FoldAndLength → List ℕ → Type 0
StandsFor p bytes = (p.fold ≡ fold_of bytes) × (p.len ≡ length bytes)
