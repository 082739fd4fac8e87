-- The pieces of a buffer, as they are read.
use Rattle.std.proofs.Common.{◌≡◌, ℕ, ◌+◌, ◌<◌, ◌≤◌, inl, inr, List, [], ◌∷◌, ◌++◌, length, get_or, drop, refl, sym, ap, ◌∙◌, arith, ◌-◌, min, take, append_assoc, length-append, length-take-le}
use Rattle.std.proofs.lemmas.List.{drop_more, drop_all, take-append-drop}
use Rattle.std.proofs.lemmas.Bool.{cases_lt}
use Rattle.frags.specs.PieceList.{AllFit, Fits, bytes_of, piece_bytes}
use Rattle.frags.specs.declared.pieces.Piece.{Piece}
use Rattle.frags.proofs.Joining.{AllFit-at}
use Rattle.frags.proofs.PieceBytes.{length-piece}
use Rattle.skb.specs.SkbState.{SkbState}
use Rattle.comparing.specs.Bytes.{bytes_left, IsLeft}

pub none_of : {A : Type 0} (xs : List A) → length xs ≡ 0 → xs ≡ []
none_of [] e = refl
none_of (x ∷ xs) e = absurd (omega arith)

-- where bytes are left, but none of the piece that is read, a piece is behind it
pub piece_there : (piece : List ℕ) (s : SkbState) (next : ℕ) → length piece ≡ 0 → 1 ≤ length (bytes_left piece s next) → next < length s.rest
piece_there piece s next none some = elim (cases_lt next (length s.rest)) [
  | inl l ↦ l
  | inr l ↦
      let left : bytes_left piece s next ≡ []
      = ap (λ (z : List ℕ). z ++ bytes_of (drop next s.rest)) (none_of piece none) ∙ ap bytes_of (drop_all next s.rest l) in
      absurd (omega (arith, some, ap length left))
]

pub piece_next : (piece : List ℕ) (s : SkbState) (next : ℕ) (d : Piece) (new : List ℕ) → length piece ≡ 0 → next < length s.rest → AllFit s.rest → new ≡ piece_bytes (get_or s.rest next d)
    → (bytes_left new s (next + 1) ≡ bytes_left piece s next) × (1 ≤ length new)
piece_next piece s next d new none l fit is =
    let fits : Fits (get_or s.rest next d) = AllFit-at s.rest next d fit l in (
      ap (λ (z : List ℕ). z ++ bytes_of (drop (next + 1) s.rest)) is ∙ sym (ap bytes_of (drop_more s.rest next d l))
          ∙ ap (λ (z : List ℕ). z ++ bytes_of (drop next s.rest)) (sym (none_of piece none)),
      omega (arith, ap length is, length-piece (get_or s.rest next d) fits, fits.0),
    )

-- the front of a piece is read
module _ (piece opened front back : List ℕ) (s : SkbState) (next to left n most : ℕ) (i : IsLeft piece s next left) (same : bytes_left opened s to ≡ bytes_left piece s next)
    (least : n ≡ min (length opened) most) (first : front ≡ take n opened) (second : back ≡ drop n opened) where
  pub split_is : bytes_left piece s next ≡ front ++ bytes_left back s to
  split_is =
      sym same
      ∙ ap (λ (z : List ℕ). z ++ bytes_of (drop to s.rest))
      (sym (take-append-drop n opened) ∙ ap (λ (z : List ℕ). z ++ drop n opened) (sym first) ∙ ap (λ (z : List ℕ). front ++ z) (sym second))
      ∙ append_assoc front back (bytes_of (drop to s.rest))

  left_long : left ≡ n + length (bytes_left back s to)
  left_long = omega (arith, i.long, ap length split_is, length-append front (bytes_left back s to), ap length first, length-take-le n opened (omega (arith, least)))

  pub front_within : n ≤ left
  front_within = omega (arith, left_long)

  pub back_left : to ≤ length s.rest → IsLeft back s to (left - n)
  back_left within = record {
    long = omega (arith, left_long);
    small = omega (arith, i.small);
    within = within;
    fit = i.fit;
  }
