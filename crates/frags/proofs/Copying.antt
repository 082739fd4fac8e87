-- Bytes that are copied piece by piece.
use Rattle.std.proofs.Common.{◌≡◌, ℕ, ◌+◌, ◌-◌, ◌≤◌, List, [], ◌∷◌, ◌++◌, zero, suc, ap, sym, ◌∙◌, length, take, drop}
use Rattle.std.proofs.Common.{min, append_assoc, arith}
use Rattle.std.proofs.lemmas.List.{take_min}
use Rattle.std.proofs.Math.Seq.{drop-nil}

pub take_both : (m : ℕ) (xs ys : List ℕ) → take m (xs ++ ys) ≡ take m xs ++ take (m - length xs) ys
take_both zero xs ys = let e : 0 - length xs ≡ 0 = omega arith in sym (ap (λ (k : ℕ). take k ys) e)
take_both (suc m) [] ys = let e : suc m ≡ suc m - 0 = omega arith in ap (λ (k : ℕ). take k ys) e
take_both (suc m) (x ∷ xs) ys =
    let e : suc m - length (x ∷ xs) ≡ m - length xs = omega arith in
    ap (λ (z : List ℕ). x ∷ z) (take_both m xs ys) ∙ sym (ap (λ (k : ℕ). (x ∷ take m xs) ++ take k ys) e)

pub drop_both : (m : ℕ) (xs ys : List ℕ) → drop m (xs ++ ys) ≡ drop (min m (length xs)) xs ++ drop (m - min m (length xs)) ys
drop_both m [] ys =
    let e : m ≡ m - min m 0 = omega arith in
    let n : drop (min m 0) [] ≡ [] = drop-nil (min m 0) in
    ap (λ (k : ℕ). drop k ys) e ∙ sym (ap (λ (z : List ℕ). z ++ drop (m - min m 0) ys) n)
drop_both zero (x ∷ xs) ys = let e : min 0 (length (x ∷ xs)) ≡ 0 = omega arith in sym (ap (λ (k : ℕ). drop k (x ∷ xs) ++ drop (0 - k) ys) e)
drop_both (suc m) (x ∷ xs) ys =
    let e : min (suc m) (length (x ∷ xs)) ≡ suc (min m (length xs)) = omega arith in
    let f : suc m - suc (min m (length xs)) ≡ m - min m (length xs) = omega arith in
    drop_both m xs ys ∙ sym (ap (λ (k : ℕ). drop (min m (length xs)) xs ++ drop k ys) f)
    ∙ sym (ap (λ (k : ℕ). drop k (x ∷ xs) ++ drop (suc m - k) ys) e)

-- some of what was left is copied: what is done with what is left stays
pub copy_step : (L done end : ℕ) (old new b rest T : List ℕ) → done ≤ L → end ≡ done + min (length b) (L - done)
    → take end new ≡ take done old ++ take (end - done) b
    → take done old ++ take (L - done) (b ++ rest) ≡ T → take end new ++ take (L - end) rest ≡ T
copy_step L done end old new b rest T le e w h =
    let f : end - done ≡ min (L - done) (length b) = omega arith in
    let g : L - end ≡ (L - done) - length b = omega arith in
    let a : take (end - done) b ≡ take (L - done) b = ap (λ (k : ℕ). take k b) f ∙ take_min (L - done) b in
    ap (λ (z : List ℕ). z ++ take (L - end) rest) w
    ∙ append_assoc (take done old) (take (end - done) b) (take (L - end) rest)
    ∙ ap (λ (z : List ℕ). take done old ++ (z ++ take (L - end) rest)) a
    ∙ ap (λ (k : ℕ). take done old ++ (take (L - done) b ++ take k rest)) g
    ∙ ap (λ (z : List ℕ). take done old ++ z) (sym (take_both (L - done) b rest))
    ∙ h
