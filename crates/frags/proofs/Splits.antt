-- The two lists of pieces that a cut makes.
use Rattle.std.proofs.Common.{◌≡◌, ◌≢◌, ℕ, ◌+◌, ◌-◌, ◌<◌, ◌≤◌, List, [], ◌∷◌, ◌++◌, Bool, true, false, length, take}
use Rattle.std.proofs.Common.{drop, refl, ap, sym, ◌∙◌, append_assoc, append-nil, cond, arith}
use Rattle.std.proofs.lemmas.Bool.{cond_both}
use Rattle.std.proofs.lemmas.List.{drop-drop}
use Rattle.std.proofs.Math.Seq.{take-add}
use borrow.Author.Tests.{ltb-true, ltb-false, eqb-true, eqb-false}
use lib.Dec.{ltb, eqb}
use Rattle.frags.specs.declared.pieces.Piece.{Piece}
use Rattle.frags.specs.Account.{Tests}
use Rattle.frags.specs.Gifts.{kept, given, gift, front, back, cut_worn}
use Rattle.frags.specs.PieceList.{bytes_of, piece_bytes, size_of, AllFit, pieces_held}
use Rattle.frags.proofs.Shares.{gift-weighs, kept_given}

by_test : (P : Bool → Type 0) (b : Bool) → (b ≡ true → P true) → (b ≡ false → P false) → P b
by_test P true f g = f refl
by_test P false f g = g refl

module _ (Q : List Piece → Type 0) (p : Piece) (n : ℕ) (x y z : List Piece) where
  -- the three cases of a cut
  pub by_cut : (n < p.to - p.from → n ≡ 0 → Q x) → (n < p.to - p.from → n ≢ 0 → Q y) → (p.to - p.from ≤ n → Q z)
      → Q (cond (ltb n (p.to - p.from)) (cond (eqb n 0) x y) z)
  by_cut f g h =
      cond_both (ltb n (p.to - p.from)) (cond (eqb n 0) x y) z Q
      (λ e. let lt = ltb-true n (p.to - p.from) e in cond_both (eqb n 0) x y Q (λ d. f lt (eqb-true n 0 d)) (λ d. g lt (eqb-false n 0 d)))
      (λ e. h (ltb-false n (p.to - p.from) e))

pub size_of-front : (n : ℕ) (ps : List Piece) → n ≤ size_of ps → size_of (front n ps) ≡ n
size_of-front n [] h = omega arith
size_of-front n (p ∷ ps) h =
    by_cut (λ (w : List Piece). size_of w ≡ n) p n [] (record (given p) { to = p.from + n } ∷ []) (p ∷ front (n - (p.to - p.from)) ps)
    (λ lt e. sym e) (λ lt e. omega arith) (λ le. let i = size_of-front (n - (p.to - p.from)) ps (omega arith) in omega arith)

pub size_of-back : (n : ℕ) (ps : List Piece) → n ≤ size_of ps → size_of (back n ps) + n ≡ size_of ps
size_of-back n [] h = omega arith
size_of-back n (p ∷ ps) h =
    by_cut (λ (w : List Piece). size_of w + n ≡ size_of (p ∷ ps)) p n (p ∷ ps)
    (record (kept p) { from = p.from + n } ∷ ps) (back (n - (p.to - p.from)) ps)
    (λ lt e. omega arith) (λ lt e. omega arith) (λ le. let i = size_of-back (n - (p.to - p.from)) ps (omega arith) in omega arith)

-- the first piece of a list, where it isn't worn by a cut
pub not_cut_worn : (n : ℕ) (p : Piece) (ps : List Piece) → cut_worn n (p ∷ ps) ≡ false
    → (n < p.to - p.from → n ≢ 0 → p.part.weight ≢ 1) × (p.to - p.from ≤ n → cut_worn (n - (p.to - p.from)) ps ≡ false)
not_cut_worn n p ps h = ((λ lt k e. grind (arith, h)), (λ le. grind (arith, h)))

pub AllFit-front : (n : ℕ) (ps : List Piece) → AllFit ps → cut_worn n ps ≡ false → AllFit (front n ps)
AllFit-front n [] h w = tt
AllFit-front n (p ∷ ps) h w =
    let a = h.0.0 in let b = h.0.1 in
    let k = not_cut_worn n p ps w in
    by_cut AllFit p n [] (record (given p) { to = p.from + n } ∷ []) (p ∷ front (n - (p.to - p.from)) ps)
    (λ lt e. tt) (λ lt e. ((omega arith, omega arith, h.0.2, (gift-weighs p.part.weight h.0.3 (k.0 lt e)).1), tt))
    (λ le. (h.0, AllFit-front (n - (p.to - p.from)) ps h.1 (k.1 le)))

pub AllFit-back : (n : ℕ) (ps : List Piece) → AllFit ps → cut_worn n ps ≡ false → AllFit (back n ps)
AllFit-back n [] h w = tt
AllFit-back n (p ∷ ps) h w =
    let a = h.0.0 in let b = h.0.1 in
    let k = not_cut_worn n p ps w in
    by_cut AllFit p n (p ∷ ps) (record (kept p) { from = p.from + n } ∷ ps) (back (n - (p.to - p.from)) ps)
    (λ lt e. h) (λ lt e. ((omega arith, b, h.0.2, (gift-weighs p.part.weight h.0.3 (k.0 lt e)).0), h.1))
    (λ le. AllFit-back (n - (p.to - p.from)) ps h.1 (k.1 le))

-- a piece cut in two has its bytes
pub halves : (p : Piece) (n : ℕ) → n < p.to - p.from → piece_bytes p
    ≡ piece_bytes (record p { to = p.from + n }) ++ piece_bytes (record p { from = p.from + n })
halves p n lt =
    let m : ℕ = p.to - (p.from + n) in
    let x : List ℕ = p.part.bytes in
    let u : p.to - p.from ≡ n + m = omega arith in
    let v : (p.from + n) - p.from ≡ n = omega arith in
    let a : take n (drop p.from x) ≡ take ((p.from + n) - p.from) (drop p.from x) = ap (λ (k : ℕ). take k (drop p.from x)) (sym v) in
    let b : take m (drop n (drop p.from x)) ≡ take m (drop (p.from + n) x) = ap (λ (z : List ℕ). take m z) (drop-drop n p.from x) in
    ap (λ (k : ℕ). take k (drop p.from x)) u ∙ take-add n m (drop p.from x)
    ∙ ap (λ (z : List ℕ). z ++ take m (drop n (drop p.from x))) a
    ∙ ap (λ (z : List ℕ). take ((p.from + n) - p.from) (drop p.from x) ++ z) b

-- both lists of a cut by the same test
pub split_bytes : (n : ℕ) (ps : List Piece) → bytes_of ps ≡ bytes_of (front n ps) ++ bytes_of (back n ps)
split_bytes n [] = refl
split_bytes n (p ∷ ps) =
    let k : ℕ = n - (p.to - p.from) in
    let P : Bool → Type 0 = λ b. bytes_of (p ∷ ps) ≡ bytes_of (cond b (cond (eqb n 0) []
    (record (given p) { to = p.from + n } ∷ [])) (p ∷ front k ps))
    ++ bytes_of (cond b (cond (eqb n 0) (p ∷ ps) (record (kept p) { from = p.from + n } ∷ ps)) (back k ps)) in
    let Q : Bool → Type 0 = λ b. bytes_of (p ∷ ps) ≡ bytes_of (cond b [] (record (given p) { to = p.from + n } ∷ []))
    ++ bytes_of (cond b (p ∷ ps) (record (kept p) { from = p.from + n } ∷ ps)) in
    by_test P (ltb n (p.to - p.from))
    (λ e. let lt = ltb-true n (p.to - p.from) e in by_test Q (eqb n 0) (λ d. refl)
    (λ d. ap (λ (z : List ℕ). z ++ bytes_of ps) (halves p n lt)
    ∙ append_assoc (piece_bytes (record p { to = p.from + n })) (piece_bytes (record p { from = p.from + n }))
    (bytes_of ps)
    ∙ ap (λ (z : List ℕ). z ++ (piece_bytes (record p { from = p.from + n }) ++ bytes_of ps))
    (sym (append-nil (piece_bytes (record p { to = p.from + n }))))))
    (λ e. ap (λ (z : List ℕ). piece_bytes p ++ z) (split_bytes k ps)
    ∙ sym (append_assoc (piece_bytes p) (bytes_of (front k ps)) (bytes_of (back k ps))))

-- the weights of both lists of a cut are what they were
pub split_sums : (t : Tests) (m : ℕ) (n : ℕ) (ps : List Piece) → AllFit ps → cut_worn n ps ≡ false
    → pieces_held t m (front n ps) + pieces_held t m (back n ps) ≡ pieces_held t m ps
split_sums t m n [] h w = refl
split_sums t m n (p ∷ ps) h w =
    let k : ℕ = n - (p.to - p.from) in
    let nw = not_cut_worn n p ps w in
    let P : Bool → Type 0 = λ b. pieces_held t m (cond b (cond (eqb n 0) [] (record (given p) { to = p.from + n } ∷ []))
    (p ∷ front k ps)) + pieces_held t m (cond b (cond (eqb n 0) (p ∷ ps)
    (record (kept p) { from = p.from + n } ∷ ps)) (back k ps)) ≡ pieces_held t m (p ∷ ps) in
    let Q : Bool → Type 0 = λ b. pieces_held t m (cond b [] (record (given p) { to = p.from + n }
    ∷ [])) + pieces_held t m (cond b (p ∷ ps) (record (kept p) { from = p.from + n } ∷ ps))
    ≡ pieces_held t m (p ∷ ps) in
    by_test P (ltb n (p.to - p.from))
    (λ e. let lt = ltb-true n (p.to - p.from) e in by_test Q (eqb n 0) (λ d. omega arith)
    (λ d. let g = (gift-weighs p.part.weight h.0.3 (nw.0 lt (eqb-false n 0 d))).0.0 in
    let l : gift p.part.weight ≤ p.part.weight = omega arith in let s = kept_given t m p l in omega arith))
    (λ e. let i = split_sums t m k ps h.1 (nw.1 (ltb-false n (p.to - p.from) e)) in omega arith)

-- a cut makes at most one piece more
pub split_count : (n : ℕ) (ps : List Piece) → length (front n ps) + length (back n ps) ≤ length ps + 1
split_count n [] = omega arith
split_count n (p ∷ ps) =
    let k : ℕ = n - (p.to - p.from) in
    let P : Bool → Type 0 = λ b. length (cond b (cond (eqb n 0) [] (record (given p) { to = p.from + n } ∷ []))
    (p ∷ front k ps)) + length (cond b (cond (eqb n 0) (p ∷ ps) (record (kept p) { from = p.from + n } ∷ ps))
    (back k ps)) ≤ length (p ∷ ps) + 1 in
    let Q : Bool → Type 0 = λ b. length (cond b [] (record (given p) { to = p.from + n } ∷ [])) + length (cond b (p
    ∷ ps) (record (kept p) { from = p.from + n } ∷ ps)) ≤ length (p ∷ ps) + 1 in
    by_test P (ltb n (p.to - p.from))
    (λ e. by_test Q (eqb n 0) (λ d. omega arith) (λ d. omega arith))
    (λ e. let i = split_count k ps in omega arith)
