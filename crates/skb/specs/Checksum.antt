-- The sum of a buffer's bytes.
use Rattle.std.specs.Prelude.{ℕ, ◌≡◌, ◌<◌, List, ◌++◌, drop, slice_index}
use Rattle.inet_sum.specs.Stands.{FoldAndLength, StandsFor}
use Rattle.frags.specs.PieceList.{bytes_of}
use Rattle.skb.specs.SkbState.{SkbState, buffer_bytes}

abbrev pub AreBytes : List ℕ → Type 0
AreBytes f = (k : ℕ) → slice_index f k < 256

-- the sum stands for some bytes, behind which those from piece i on stand
pub record IsSummed (s : SkbState) (at i : ℕ) (sum : FoldAndLength) : Type 0 where
  pub done : List ℕ
  pub stands : StandsFor sum done
  pub whole : done ++ bytes_of (drop i s.rest) ≡ drop at (buffer_bytes s)
  pub in_bytes : AreBytes done
