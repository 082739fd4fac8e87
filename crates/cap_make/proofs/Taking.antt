-- A front is taken from a buffer, before bytes that no buffer holds yet.
use Rattle.std.proofs.Common.{◌≡◌, ◌<◌, ℕ, List, [], ◌++◌, length, take, drop, min, sym, ap, ◌∙◌, append_assoc, arith, take-append-drop}
use Rattle.std.proofs.lemmas.List.{nil_from_length, length-append, length-drop}

pub taken : (buffer behind into left : List ℕ) (n : ℕ) → take n into ≡ take n buffer → left ≡ drop n buffer ++ behind → buffer ++ behind ≡ take n into ++ left
taken buffer behind into left n e f =
    ap (λ z. z ++ behind) (sym (take-append-drop n buffer))
    ∙ append_assoc (take n buffer) (drop n buffer) behind
    ∙ ap (λ z. take n buffer ++ z) (sym f)
    ∙ ap (λ z. z ++ left) (sym e)

pub nothing_left : (buffer behind into left : List ℕ) (n : ℕ) → n ≡ min (length buffer) (length into) → (buffer ≡ [] → behind ≡ []) → left ≡ drop n buffer ++ behind
    → n ≡ 0 → 0 < length into → left ≡ []
nothing_left buffer behind into left n count last e none some =
    let empty : buffer ≡ [] = nil_from_length buffer (omega arith) in
    nil_from_length left (omega (arith, ap length e, length-append (drop n buffer) behind, length-drop n buffer, ap length (last empty)))
