-- The sum of a buffer's bytes.
use Rattle.std.proofs.Common.{◌≡◌, ℕ, zero, suc, ◌+◌, ◌-◌, ◌≤◌, ◌<◌, ◌^◌, List, [], ◌∷◌, ◌++◌, length, get_or, take}
use Rattle.std.proofs.Common.{drop, sym, ap, ◌∙◌, arith, append_assoc, length-append, length-drop}
use Rattle.std.proofs.lemmas.List.{append-nil, drop_more, drop_all, drop-append-le, take_all}
use Rattle.inet_sum.specs.Stands.{FoldAndLength, StandsFor}
use Rattle.frags.specs.PieceList.{bytes_of, piece_bytes}
use Rattle.frags.specs.declared.pieces.Piece.{Piece}
use Rattle.skb.specs.SkbState.{SkbState, head_bytes, buffer_bytes}
use Rattle.skb.specs.Checksum.{AreBytes, IsSummed}

pub bytes_more : (a b : List ℕ) → AreBytes a → AreBytes b → AreBytes (a ++ b)
bytes_more [] b f g k = g k
bytes_more (x ∷ xs) b f g zero = f zero
bytes_more (x ∷ xs) b f g (suc k) = bytes_more xs b (λ j. f (suc j)) g k

pub all_behind : (f : List ℕ) (n : ℕ) → take (length f - n) (drop n f) ≡ drop n f
all_behind f n = take_all (length f - n) (drop n f) (omega (arith, length-drop n f))

pub summed_front : (s : SkbState) (at : ℕ) (sum : FoldAndLength) → at ≤ length (head_bytes s)
    → StandsFor sum (drop at (head_bytes s)) → AreBytes (drop at (head_bytes s)) → IsSummed s at 0 sum
summed_front s at sum h st b = record {
  done = drop at (head_bytes s);
  stands = st;
  whole = sym (drop-append-le at (head_bytes s) (bytes_of s.rest) h);
  in_bytes = b;
}

-- no piece is left
pub summed_all : (s : SkbState) (at i : ℕ) (sum : FoldAndLength) (is : IsSummed s at i sum) → length s.rest ≤ i
    → is.done ≡ drop at (buffer_bytes s)
summed_all s at i sum is end =
    sym (append-nil is.done) ∙ ap (λ (ps : List Piece). is.done ++ bytes_of ps) (sym (drop_all i s.rest end)) ∙ is.whole

pub summed_len : (f done : List ℕ) (at len h r : ℕ) → done ≡ drop at f → len ≡ length done → at ≤ h → h + r ≡ length f
    → len + at ≡ h + r
summed_len f done at len h r is size inside all = omega (arith, ap length is, size, inside, all, length-drop at f)

pub piece_first : (ps : List Piece) (i : ℕ) (p : List ℕ) → i < length ps
    → ((d : Piece) → p ≡ piece_bytes (get_or ps i d)) → bytes_of (drop i ps) ≡ p ++ bytes_of (drop (i + 1) ps)
piece_first [] i p h is = absurd (omega arith)
piece_first (x ∷ xs) i p h is = ap bytes_of (drop_more (x ∷ xs) i x h)
    ∙ ap (λ (z : List ℕ). z ++ bytes_of (drop (i + 1) (x ∷ xs))) (sym (is x))

module _ (s : SkbState) (at i : ℕ) (old : FoldAndLength) (p : List ℕ) (h : i < length s.rest)
    (was : IsSummed s at i old) (is : (d : Piece) → p ≡ piece_bytes (get_or s.rest i d)) where
  more : bytes_of (drop i s.rest) ≡ p ++ bytes_of (drop (i + 1) s.rest)
  more = piece_first s.rest i p h is

  pub summed_more : (new : FoldAndLength) → StandsFor new (was.done ++ p) → AreBytes p → IsSummed s at (i + 1) new
  summed_more new st b = record {
    done = was.done ++ p;
    stands = st;
    whole = append_assoc was.done p (bytes_of (drop (i + 1) s.rest)) ∙ ap (λ (z : List ℕ). was.done ++ z) (sym more) ∙ was.whole;
    in_bytes = bytes_more was.done p was.in_bytes b;
  }

  pub summed_few : length (buffer_bytes s) < 2 ^ 32 → old.len + length p < 2 ^ 32
  summed_few k =
      omega (
        arith,
        was.stands.1,
        ap length was.whole,
        ap length more,
        length-append was.done (bytes_of (drop i s.rest)),
        length-append p (bytes_of (drop (i + 1) s.rest)),
        length-drop at (buffer_bytes s),
        k,
      )
