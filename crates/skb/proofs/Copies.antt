-- Bytes that are copied out of a buffer.
use Rattle.std.proofs.Common.{◌≡◌, ℕ, ◌+◌, ◌-◌, ◌≤◌, List, ◌++◌, length, min, take, drop, slice_range, ap, sym}
use Rattle.std.proofs.Common.{append_assoc, ◌∙◌, arith, length-drop}
use Rattle.std.proofs.lemmas.List.{take_min, take-append-drop}
use Rattle.std.proofs.Math.Seq.{take-append-add}
use Rattle.frags.proofs.Copying.{take_both, drop_both}

-- what is taken of the head and of the rest
pub copied_out : (h r : List ℕ) (at n start k : ℕ) (front back : List ℕ) → start ≡ min at (length h) → k
    ≡ min (length h - start) n → front ≡ slice_range h start (start + k) → back
    ≡ slice_range r (at - start) ((at - start) + (n - k)) → front ++ back ≡ slice_range (h ++ r) at (at + n)
copied_out h r at n start k front back e f g w =
    let xs : List ℕ = drop start h in
    let ys : List ℕ = drop (at - start) r in
    let l = length-drop start h in
    let a : (start + k) - start ≡ min n (length xs) = omega arith in
    let b : ((at - start) + (n - k)) - (at - start) ≡ n - length xs = omega arith in
    let d : (at + n) - at ≡ n = omega arith in
    let u : front ≡ take n xs = g ∙ ap (λ (i : ℕ). take i xs) a ∙ take_min n xs in
    let v : back ≡ take (n - length xs) ys = w ∙ ap (λ (i : ℕ). take i ys) b in
    let s : drop at (h ++ r) ≡ xs ++ ys = drop_both at h r ∙ sym (ap (λ (i : ℕ). drop i h ++ drop (at - i) r) e) in
    ap (λ (z : List ℕ). z ++ back) u ∙ ap (λ (z : List ℕ). take n xs ++ z) v ∙ sym (take_both n xs ys)
    ∙ sym (ap (λ (z : List ℕ). take n z) s) ∙ sym (ap (λ (i : ℕ). take i (drop at (h ++ r))) d)

-- the first bytes of head and rest, and what is left of the rest
pub brought : (h r xs : List ℕ) (n : ℕ) → length h ≤ n → xs ≡ slice_range (h ++ r) 0 (0 + n) → xs ++ drop (n - length h) r ≡ h ++ r
brought h r xs n le e =
    let k : ℕ = n - length h in
    let u : (0 + n) - 0 ≡ length h + k = omega arith in
    let a : xs ≡ h ++ take k r = e ∙ ap (λ (i : ℕ). take i (h ++ r)) u ∙ take-append-add h r k in
    ap (λ (z : List ℕ). z ++ drop k r) a ∙ append_assoc h (take k r) (drop k r) ∙ ap (λ (z : List ℕ). h ++ z) (take-append-drop k r)
