-- How many bytes pieces have, and which are left when the first ones are cut off.
use Rattle.std.proofs.Common.{◌≡◌, ℕ, ◌+◌, ◌-◌, ◌<◌, ◌≤◌, List, [], ◌∷◌, ◌++◌, refl, ap, sym, ◌∙◌, length, take, drop}
use Rattle.std.proofs.Common.{arith, length-append, length-drop}
use Rattle.std.proofs.lemmas.List.{length-take, drop-append-le, drop-take, drop-drop}
use Rattle.std.proofs.lemmas.Bool.{cond_both}
use Rattle.std.proofs.Math.Seq.{drop-nil, drop-append-add}
use borrow.Author.Tests.{ltb-true, ltb-false}
use lib.Dec.{ltb}
use Rattle.frags.specs.PieceList.{bytes_of, piece_bytes, size_of, Fits, AllFit, cut_front}
use Rattle.frags.specs.declared.pieces.Piece.{Piece}

pub size_of-append : (a b : List Piece) → size_of (a ++ b) ≡ size_of a + size_of b
size_of-append [] b = omega arith
size_of-append (x ∷ xs) b = omega (arith, size_of-append xs b)

pub AllFit-append : (a b : List Piece) → AllFit a → AllFit b → AllFit (a ++ b)
AllFit-append [] b h k = k
AllFit-append (x ∷ xs) b h k = (h.0, AllFit-append xs b h.1 k)

pub length-piece : (p : Piece) → Fits p → length (piece_bytes p) ≡ p.to - p.from
length-piece p h = let e = h.2 in omega (arith, length-take (p.to - p.from) (drop p.from p.part.bytes), length-drop p.from p.part.bytes)

pub length-bytes_of : (ps : List Piece) → AllFit ps → length (bytes_of ps) ≡ size_of ps
length-bytes_of [] h = refl
length-bytes_of (p ∷ ps) h = omega (arith, length-append (piece_bytes p) (bytes_of ps), length-piece p h.0, length-bytes_of ps h.1)

-- a piece, and pieces, without their first n bytes
pub cut_piece : (p : Piece) (n : ℕ) → n ≤ p.to - p.from → drop n (piece_bytes p) ≡ piece_bytes (record p { from = p.from + n })
cut_piece p n h =
    let m : ℕ = p.to - (p.from + n) in
    let e : p.to - p.from ≡ n + m = omega arith in
    let a : drop n (take (p.to - p.from) (drop p.from p.part.bytes))
    ≡ drop n (take (n + m) (drop p.from p.part.bytes)) =
    ap (λ (k : ℕ). drop n (take k (drop p.from p.part.bytes))) e in
    a ∙ drop-take n m (drop p.from p.part.bytes) ∙ ap (λ (z : List ℕ). take m z) (drop-drop n p.from p.part.bytes)

pub cut_bytes : (n : ℕ) (ps : List Piece) → AllFit ps → bytes_of (cut_front n ps) ≡ drop n (bytes_of ps)
cut_bytes n [] h = sym (drop-nil n)
cut_bytes n (p ∷ ps) h =
    let l = length-piece p h.0 in
    cond_both (ltb n (p.to - p.from)) (record p { from = p.from + n } ∷ ps) (cut_front (n - (p.to - p.from)) ps)
    (λ (z : List Piece). bytes_of z ≡ drop n (piece_bytes p ++ bytes_of ps))
    (λ e. let lt : n < p.to - p.from = ltb-true n (p.to - p.from) e in let k : n ≤ p.to - p.from = omega arith in
    let j : n ≤ length (piece_bytes p) = omega arith in
    ap (λ (z : List ℕ). z ++ bytes_of ps) (sym (cut_piece p n k)) ∙ sym (drop-append-le n (piece_bytes p) (bytes_of ps) j))
    (λ e. let le : p.to - p.from ≤ n = ltb-false n (p.to - p.from) e in
    let k : n ≡ length (piece_bytes p) + (n - (p.to - p.from)) = omega arith in
    cut_bytes (n - (p.to - p.from)) ps h.1 ∙ sym (drop-append-add (piece_bytes p) (bytes_of ps) (n - (p.to - p.from)))
    ∙ ap (λ (z : ℕ). drop z (piece_bytes p ++ bytes_of ps)) (sym k))

-- a piece has a byte
pub count_within : (ps : List Piece) → AllFit ps → length ps ≤ size_of ps
count_within [] h = omega arith
count_within (p ∷ ps) h = let a = h.0.0 in let i = count_within ps h.1 in omega arith
