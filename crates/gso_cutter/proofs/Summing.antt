-- The sum of pieces.
use Rattle.std.proofs.Common.{◌≡◌, ℕ, ◌+◌, ◌<◌, ◌^◌, List, ◌++◌, length, get_or, drop, sym, ap, ◌∙◌, arith, append_assoc, length-append}
use Rattle.std.proofs.lemmas.List.{drop_more}
use Rattle.inet_sum.specs.Stands.{FoldAndLength, StandsFor}
use Rattle.frags.specs.PieceList.{bytes_of, piece_bytes}
use Rattle.frags.specs.declared.pieces.Piece.{Piece}

-- the sum stands for some bytes, behind which those from piece i on stand
pub record IsSummed (ps : List Piece) (i : ℕ) (sum : FoldAndLength) : Type 0 where
  pub done : List ℕ
  pub stands : StandsFor sum done
  pub whole : done ++ bytes_of (drop i ps) ≡ bytes_of ps

module _ (ps : List Piece) (i : ℕ) (d : Piece) (old : FoldAndLength) (p : List ℕ) (h : i < length ps) (was : IsSummed ps i old) (is : p ≡ piece_bytes (get_or ps i d)) where
  more : bytes_of (drop i ps) ≡ p ++ bytes_of (drop (i + 1) ps)
  more = ap bytes_of (drop_more ps i d h) ∙ ap (λ (z : List ℕ). z ++ bytes_of (drop (i + 1) ps)) (sym is)

  pub summed_more : (new : FoldAndLength) → StandsFor new (was.done ++ p) → IsSummed ps (i + 1) new
  summed_more new st = record {
    done = was.done ++ p;
    stands = st;
    whole = append_assoc was.done p (bytes_of (drop (i + 1) ps)) ∙ ap (λ (z : List ℕ). was.done ++ z) (sym more) ∙ was.whole;
  }

  pub summed_few : length (bytes_of ps) < 2 ^ 32 → old.len + length p < 2 ^ 32
  summed_few k =
      omega (arith, was.stands.1, ap length was.whole, ap length more, length-append was.done (bytes_of (drop i ps)), length-append p (bytes_of (drop (i + 1) ps)), k)
