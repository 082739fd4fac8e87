-- The pieces of the first bytes, and the byte at a place.
use Rattle.std.proofs.Common.{◌≡◌, ◌≢◌, ℕ, ◌+◌, ◌-◌, ◌<◌, ◌≤◌, List, [], ◌∷◌, ◌++◌, length, take, drop, get_or, refl}
use Rattle.std.proofs.Common.{ap, sym, subst, ◌∙◌, zero, suc, cond, append-nil, arith}
use Rattle.std.proofs.lemmas.Bool.{cond_both}
use Rattle.std.proofs.lemmas.List.{take-append-le, get_or_append_left, get_or-append_right, get_or-take, get_or-drop}
use Rattle.std.proofs.lemmas.List.{get_or_default, length-append}
use Rattle.std.proofs.Math.Seq.{take-append-add, take-length}
use borrow.Author.Tests.{ltb-true, ltb-false, eqb-true, eqb-false}
use lib.Dec.{ltb, eqb}
use Rattle.frags.specs.declared.pieces.Piece.{Piece}
use Rattle.frags.specs.Account.{Tests}
use Rattle.frags.specs.PieceList.{bytes_of, piece_bytes, size_of, Fits, AllFit, pieces_held, keep_front, byte_in, least_weight}
use Rattle.block_weight.specs.WeightRule.{full_weight}
use Rattle.frags.proofs.Accounts.{pieces_held-append}
use Rattle.frags.proofs.PieceBytes.{length-piece, size_of-append, AllFit-append}
use Rattle.frags.proofs.Splits.{halves}

module _ {X : Type 0} (Q : X → Type 0) (p : Piece) (n : ℕ) (x y z : X) where
  -- nothing, some of the first piece, or all of it
  pub by_keep : (n ≡ 0 → Q x) → (n ≢ 0 → n < p.to - p.from → Q y) → (n ≢ 0 → p.to - p.from ≤ n → Q z)
      → Q (cond (eqb n 0) x (cond (ltb n (p.to - p.from)) y z))
  by_keep f g h =
      cond_both (eqb n 0) x (cond (ltb n (p.to - p.from)) y z) Q
      (λ d. f (eqb-true n 0 d))
      (λ d. cond_both (ltb n (p.to - p.from)) y z Q (λ e. g (eqb-false n 0 d) (ltb-true n (p.to - p.from) e))
      (λ e. h (eqb-false n 0 d) (ltb-false n (p.to - p.from) e)))

pub keep_front-none : (ps : List Piece) → keep_front 0 ps ≡ []
keep_front-none [] = refl
keep_front-none (p ∷ ps) = refl

-- pieces behind the first n bytes don't matter
pub keep_front-less : (n : ℕ) (xs ys : List Piece) → n ≤ size_of xs → keep_front n (xs ++ ys) ≡ keep_front n xs
keep_front-less n [] ys h = let z : n ≡ 0 = omega arith in ap (λ (k : ℕ). keep_front k ys) z ∙ keep_front-none ys
keep_front-less n (p ∷ ps) ys h =
    let k : ℕ = n - (p.to - p.from) in
    let l : k ≤ size_of ps = omega arith in
    ap (λ (z : List Piece). cond (eqb n 0) [] (cond (ltb n (p.to - p.from)) (record p { to = p.from + n } ∷ [])
    (p ∷ z))) (keep_front-less k ps ys l)

-- the last piece is cut
pub keep_front-last : (n : ℕ) (xs : List Piece) (x : Piece) → Fits x → size_of xs < n → n ≤ size_of xs + (x.to - x.from)
    → keep_front n (xs ++ x ∷ []) ≡ xs ++ (record x { to = x.from + (n - size_of xs) }) ∷ []
keep_front-last n [] x f h k =
    let a = f.0 in
    let w : n - 0 ≡ n = omega arith in
    let g : record x { to = x.from + n } ∷ [] ≡ record x { to = x.from + (n - 0) } ∷ [] =
    ap (λ (i : ℕ). record x { to = x.from + i } ∷ []) (sym w) in
    by_keep (λ (z : List Piece). z ≡ record x { to = x.from + (n - 0) } ∷ []) x n [] (record x { to = x.from + n } ∷ [])
    (x ∷ keep_front (n - (x.to - x.from)) [])
    (λ e. absurd (omega arith)) (λ e lt. g) (λ e le. let u : x.to ≡ x.from + n = omega arith in
    ap (λ (i : ℕ). record x { to = i } ∷ []) u ∙ g)
keep_front-last n (p ∷ ps) x f h k =
    let s : ℕ = p.to - p.from in
    let w : n - (s + size_of ps) ≡ (n - s) - size_of ps = omega arith in
    let i = keep_front-last (n - s) ps x f (omega arith) (omega arith) in
    by_keep (λ (z : List Piece). z ≡ p ∷ (ps ++ (record x { to = x.from + (n - (s + size_of ps)) }) ∷ [])) p n []
    (record p { to = p.from + n } ∷ []) (p ∷ keep_front (n - s) (ps ++ x ∷ []))
    (λ e. absurd (omega arith)) (λ e lt. absurd (omega arith))
    (λ e le. ap (λ (z : List Piece). p ∷ z) i ∙ ap (λ (j : ℕ). p ∷ (ps ++ (record x { to = x.from + j }) ∷ [])) (sym w))

-- some of the first piece
pub keep_piece : (n : ℕ) (p : Piece) (ps : List Piece) → Fits p → 0 < n → n < p.to - p.from
    → piece_bytes (record p { to = p.from + n }) ++ [] ≡ take n (piece_bytes p ++ bytes_of ps)
keep_piece n p ps f pos lt =
    let q : Piece = record p { to = p.from + n } in
    let r : List ℕ = piece_bytes (record p { from = p.from + n }) in
    let u = f.1 in
    let fq : Fits q = (omega arith, omega arith, f.2, f.3) in
    let lp = length-piece p f in
    let lq : length (piece_bytes q) ≡ (p.from + n) - p.from = length-piece q fq in
    let ln : length (piece_bytes q) ≡ n = omega arith in
    let a : take n (piece_bytes p) ≡ take n (piece_bytes q ++ r) = ap (λ (z : List ℕ). take n z) (halves p n lt) in
    let b : take n (piece_bytes q ++ r) ≡ take n (piece_bytes q) = take-append-le n (piece_bytes q) r (omega arith) in
    let c : take n (piece_bytes q) ≡ take (length (piece_bytes q)) (piece_bytes q) = ap (λ (k : ℕ). take k (piece_bytes q)) (sym ln) in
    append-nil (piece_bytes q) ∙ sym (take-length (piece_bytes q)) ∙ sym c ∙ sym b ∙ sym a
    ∙ sym (take-append-le n (piece_bytes p) (bytes_of ps) (omega arith))

pub keep_front-bytes : (n : ℕ) (ps : List Piece) → AllFit ps → bytes_of (keep_front n ps) ≡ take n (bytes_of ps)
keep_front-bytes zero ps h = ap bytes_of (keep_front-none ps)
keep_front-bytes (suc j) [] h = refl
keep_front-bytes (suc j) (p ∷ ps) h =
    let n : ℕ = suc j in
    let l = length-piece p h.0 in
    by_keep (λ (z : List Piece). bytes_of z ≡ take n (piece_bytes p ++ bytes_of ps)) p n []
    (record p { to = p.from + n } ∷ []) (p ∷ keep_front (n - (p.to - p.from)) ps)
    (λ e. absurd (omega arith))
    (λ e lt. keep_piece n p ps h.0 (omega arith) lt)
    (λ e le. let k : n ≡ length (piece_bytes p) + (n - (p.to - p.from)) = omega arith in
    ap (λ (z : List ℕ). piece_bytes p ++ z) (keep_front-bytes (n - (p.to - p.from)) ps h.1)
    ∙ sym (take-append-add (piece_bytes p) (bytes_of ps) (n - (p.to - p.from)))
    ∙ ap (λ (z : ℕ). take z (piece_bytes p ++ bytes_of ps)) (sym k))

pub AllFit-front_of : (a b : List Piece) → AllFit (a ++ b) → AllFit a
AllFit-front_of [] b h = tt
AllFit-front_of (p ∷ ps) b h = (h.0, AllFit-front_of ps b h.1)

pub AllFit-last : (a : List Piece) (x : Piece) → AllFit (a ++ x ∷ []) → Fits x
AllFit-last [] x h = h.0
AllFit-last (p ∷ ps) x h = AllFit-last ps x h.1

pub byte_in-is : (n : ℕ) (ps : List Piece) → AllFit ps → n < size_of ps → (d : ℕ) → byte_in n ps ≡ get_or (bytes_of ps) n d
byte_in-is n [] h k d = absurd (omega arith)
byte_in-is n (p ∷ ps) h k d =
    let l = length-piece p h.0 in
    let s : ℕ = p.to - p.from in
    let x : List ℕ = p.part.bytes in
    cond_both (ltb n s) (get_or x (p.from + n) 0) (byte_in (n - s) ps) (λ (z : ℕ). z ≡ get_or (piece_bytes p ++ bytes_of ps) n d)
    (λ e. let lt : n < s = ltb-true n s e in let m = h.0.1 in let b = h.0.2 in let w : p.from + n < length x = omega arith in
    get_or_default x (p.from + n) 0 d w ∙ sym (get_or-drop p.from x n d) ∙ sym (get_or-take s (drop p.from x) n d lt)
    ∙ sym (get_or_append_left (piece_bytes p) (bytes_of ps) d n (omega arith)))
    (λ e. let le : s ≤ n = ltb-false n s e in byte_in-is (n - s) ps h.1 (omega arith) d
    ∙ sym (get_or-append_right (piece_bytes p) (bytes_of ps) s n d l le))

abbrev pub IsLast : List Piece → List Piece → Piece → Type 0
IsLast xs ys x = Fits x × AllFit ys × (size_of xs ≡ size_of ys + (x.to - x.from)) × (length xs ≡ length ys + 1)

pub last_piece : (xs ys : List Piece) (x : Piece) → xs ≡ ys ++ x ∷ [] → AllFit xs → IsLast xs ys x
last_piece xs ys x e h =
    let k : AllFit (ys ++ x ∷ []) = subst AllFit e h in
    let s = ap size_of e ∙ size_of-append ys (x ∷ []) in
    let l = ap length e ∙ length-append ys (x ∷ []) in
    (AllFit-last ys x k, AllFit-front_of ys (x ∷ []) k, omega arith, omega arith)

-- the pieces of the first `keep` bytes, where the last piece is cut
abbrev pub IsCutLast : ℕ → List Piece → List Piece → Type 0
IsCutLast keep xs zs = (zs ≡ keep_front keep xs) × (size_of zs ≡ keep) × AllFit zs × ((t : Tests) (m : ℕ) → pieces_held t m zs ≡ pieces_held t m xs)

pub last_cut : (keep start : ℕ) (xs ys zs : List Piece) (x : Piece) → xs ≡ ys ++ x ∷ [] → zs
    ≡ ys ++ (record x { to = x.from + (keep - start) }) ∷ [] → start ≡ size_of ys → start < keep → keep ≤ size_of xs
    → AllFit xs → IsCutLast keep xs zs
last_cut keep start xs ys zs x e f a lt le h =
    let y : Piece = record x { to = x.from + (keep - start) } in
    let g = last_piece xs ys x e h in
    let fx = g.0 in
    let fa = fx.0 in
    let fb = fx.1 in
    let sz = g.2 in
    let ll : size_of ys < keep = omega arith in
    let lk : keep ≤ size_of ys + (x.to - x.from) = omega arith in
    let b : zs ≡ ys ++ (record x { to = x.from + (keep - size_of ys) }) ∷ [] = f
    ∙ ap (λ (j : ℕ). ys ++ (record x { to = x.from + (keep - j) }) ∷ []) a in
    let s = ap size_of f ∙ size_of-append ys (y ∷ []) in
    let fy : Fits y = (omega arith, omega arith, fx.2, fx.3) in (
      b ∙ sym (keep_front-last keep ys x fx ll lk) ∙ ap (λ (z : List Piece). keep_front keep z) (sym e),
      omega arith,
      subst AllFit (sym f) (AllFit-append ys (y ∷ []) g.1 (fy, tt)),
      (λ t m. let c = ap (pieces_held t m) f ∙ pieces_held-append t m ys (y ∷ []) in
          let d = ap (pieces_held t m) e ∙ pieces_held-append t m ys (x ∷ []) in omega arith),
    )

pub least_weight-bound : (ps : List Piece) → least_weight ps ≤ full_weight
least_weight-bound [] = omega arith
least_weight-bound (p ∷ ps) = let i = least_weight-bound ps in omega arith

pub size_of-keep_front : (n : ℕ) (ps : List Piece) → n ≤ size_of ps → size_of (keep_front n ps) ≡ n
size_of-keep_front n [] h = omega arith
size_of-keep_front n (p ∷ ps) h =
    by_keep (λ (z : List Piece). size_of z ≡ n) p n [] (record p { to = p.from + n } ∷ []) (p ∷ keep_front (n - (p.to - p.from)) ps)
    (λ e. sym e) (λ e lt. omega arith) (λ e le. let i = size_of-keep_front (n - (p.to - p.from)) ps (omega arith) in omega arith)
