-- What lies from a place of a buffer's bytes on, and one slice of it less.
use Rattle.std.proofs.Common.{◌≡◌, ℕ, zero, suc, ◌+◌, ◌-◌, ◌<◌, ◌≤◌, List, [], ◌++◌, length, get_or, take, drop, sym, ap, ◌∙◌, subst, arith, length-append, length-drop, append_assoc, ◌∷◌}
use Rattle.std.proofs.lemmas.List.{drop-append-le, take-append-drop, drop_all, take_all, drop-drop, take_at}
use Rattle.inet_sum.specs.Stands.{FoldAndLength, StandsFor}
use Rattle.frags.specs.PieceList.{bytes_of, piece_bytes}
use Rattle.frags.specs.declared.pieces.Piece.{Piece}
use Rattle.skb.specs.SkbState.{SkbState}
use Rattle.skb.proofs.Summing.{piece_first}
use Rattle.gso.proofs.Least.{elim_lt}
use Rattle.gso.specs.declared.place.Place.{Place}
use Rattle.gso.specs.Places.{IsPlace, bytes_at, slices_from}

behind_head : (s : SkbState) (i : ℕ) → 1 ≤ i → slices_from s i ≡ bytes_of (drop (i - 1) s.rest)
behind_head s zero some = absurd (omega arith)
behind_head s (suc i) some = let e : i ≡ suc i - 1 = omega arith in ap (λ (z : ℕ). bytes_of (drop z s.rest)) e

pub piece_at : (s : SkbState) (i : ℕ) (p : List ℕ) → 1 ≤ i → i - 1 < length s.rest → ((d : Piece) → p ≡ piece_bytes (get_or s.rest (i - 1) d)) → slices_from s i ≡ p ++ bytes_of (drop i s.rest)
piece_at s i p some less is =
    let e : (i - 1) + 1 ≡ i = omega (arith, some) in
    behind_head s i some ∙ piece_first s.rest (i - 1) p less is ∙ ap (λ (z : ℕ). p ++ bytes_of (drop z s.rest)) e

-- what follows a slice
behind : (s : SkbState) (i : ℕ) → slices_from s (i + 1) ≡ bytes_of (drop i s.rest)
behind s i = let e : i + 1 ≡ suc i = omega arith in ap (slices_from s) e

one_less : (ps : List Piece) → length (bytes_of (drop 1 ps)) ≤ length (bytes_of ps)
one_less [] = omega arith
one_less (p ∷ ps) = omega (arith, length-append (piece_bytes p) (bytes_of ps))

shorter : (s : SkbState) (i : ℕ) → length (bytes_of (drop (i + 1) s.rest)) ≤ length (bytes_of (drop i s.rest))
shorter s i = omega (arith, one_less (drop i s.rest), ap (λ (z : List Piece). length (bytes_of z)) (drop-drop 1 i s.rest))

-- the slice b of a place is known, and n bytes of it are read
module _ (s : SkbState) (p : Place) (n : ℕ) (b r : List ℕ) (is : IsPlace s p) (slice : slices_from s p.slice ≡ b ++ bytes_of (drop p.slice s.rest)) where
  pub within : p.at ≤ length b
  within = omega (arith, is.inside, ap length slice, length-append b (bytes_of (drop p.slice s.rest)))

  here : bytes_at s p ≡ drop p.at b ++ bytes_of (drop p.slice s.rest)
  here = ap (drop p.at) slice ∙ drop-append-le p.at b (bytes_of (drop p.slice s.rest)) within

  pub long : p.left ≡ (length b - p.at) + length (bytes_of (drop p.slice s.rest))
  long = omega (arith, is.left, ap length here, length-append (drop p.at b) (bytes_of (drop p.slice s.rest)), length-drop p.at b)

  module _ (read : r ≡ take n (drop p.at b)) (fits : n ≤ length b - p.at) where
    -- all of it
    module _ (all : p.at + n ≡ length b) where
      whole : r ≡ drop p.at b
      whole = read ∙ take_all n (drop p.at b) (omega (arith, all, length-drop p.at b))

      pub place_ended : IsPlace s (record { slice = p.slice + 1; at = 0; left = p.left - n })
      place_ended = record {
        inside = omega (arith, shorter s p.slice, ap length (behind s p.slice));
        left = omega (arith, long, all, ap length (behind s p.slice));
      }

    pub bytes_on : bytes_at s p ≡ r ++ drop (p.at + n) (slices_from s p.slice)
    bytes_on =
        let k : n + p.at ≡ p.at + n = omega arith in
        here ∙ ap (λ (z : List ℕ). z ++ bytes_of (drop p.slice s.rest)) (sym (take-append-drop n (drop p.at b)))
        ∙ append_assoc (take n (drop p.at b)) (drop n (drop p.at b)) (bytes_of (drop p.slice s.rest))
        ∙ ap (λ (z : List ℕ). z ++ (drop n (drop p.at b) ++ bytes_of (drop p.slice s.rest))) (sym read)
        ∙ ap (λ (z : List ℕ). r ++ (z ++ bytes_of (drop p.slice s.rest))) (drop-drop n p.at b)
        ∙ ap (λ (z : List ℕ). r ++ z) (sym (drop-append-le (p.at + n) b (bytes_of (drop p.slice s.rest)) (omega (arith, fits, within))))
        ∙ ap (λ (z : List ℕ). r ++ drop (p.at + n) z) (sym slice)

-- ---- how far it is to the end

-- behind the last slice there is no byte
no_piece : (ps : List Piece) (i : ℕ) → length ps < i → bytes_of (drop (i - 1) ps) ≡ []
no_piece ps i past = ap bytes_of (drop_all (i - 1) ps (omega (arith, past)))

pub there : (s : SkbState) (p : Place) → IsPlace s p → 1 ≤ p.left → p.slice ≤ length s.rest
there s p is some =
    elim_lt (p.slice ≤ length s.rest) (length s.rest) p.slice
    (λ l.
    let none : length (slices_from s p.slice) ≡ 0 = ap length (behind_head s p.slice (omega (arith, l)) ∙ no_piece s.rest p.slice l) in
    absurd (omega (arith, some, is.left, length-drop p.at (slices_from s p.slice), none)))
    (λ l. l)

-- ---- the sum of the bytes that were read

-- of the next n bytes all but `left` are summed, and the others begin at p
pub record IsSummedTo (s : SkbState) (from : Place) (n left : ℕ) (p : Place) (sum : FoldAndLength) : Type 0 where
  pub done : List ℕ
  pub stands : StandsFor sum done
  pub whole : done ++ bytes_at s p ≡ bytes_at s from
  pub count : length done + left ≡ n

pub summed_more : (s : SkbState) (from : Place) (n left : ℕ) (p q : Place) (old new : FoldAndLength) (b : List ℕ) (was : IsSummedTo s from n left p old) → bytes_at s p ≡ b ++ bytes_at s q
    → length b ≤ left → StandsFor new (was.done ++ b) → IsSummedTo s from n (left - length b) q new
summed_more s from n left p q old new b was read few st = record {
  done = was.done ++ b;
  stands = st;
  whole = append_assoc was.done b (bytes_at s q) ∙ ap (λ (z : List ℕ). was.done ++ z) (sym read) ∙ was.whole;
  count = omega (arith, was.count, few, length-append was.done b);
}

pub summed_all : (s : SkbState) (from : Place) (n : ℕ) (p : Place) (sum : FoldAndLength) → IsSummedTo s from n 0 p sum → StandsFor sum (take n (bytes_at s from))
summed_all s from n p sum is =
    subst (StandsFor sum) (sym (take_at is.done (bytes_at s p) n (omega (arith, is.count))) ∙ ap (take n) is.whole) is.stands
