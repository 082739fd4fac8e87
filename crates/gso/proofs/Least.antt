-- The first m of some bytes, or all of fewer.
use Rattle.std.proofs.Common.{◌≡◌, ℕ, ◌<◌, ◌≤◌, List, length, take, drop, min, sym, ap, ◌∙◌, arith}
use Rattle.std.proofs.lemmas.List.{take_all, drop_all}
use borrow.Author.Tests.{ltb-true, ltb-false}
use lib.Dec.{ltb}
use Rattle.skb.proofs.Cutting.{by_bool}

pub elim_lt : (P : Type 0) (a b : ℕ) → (a < b → P) → (b ≤ a → P) → P
elim_lt P a b u v = by_bool P (ltb a b) (λ e. u (ltb-true a b e)) (λ e. v (ltb-false a b e))

-- the first n of some bytes, where n is m or all that there are
pub first_n : (x : List ℕ) (m n : ℕ) → n ≡ min m (length x) → take n x ≡ take m x
first_n x m n e =
    elim_lt (take n x ≡ take m x) m (length x)
    (λ l. let k : n ≡ m = omega arith in ap (λ (z : ℕ). take z x) k)
    (λ l. take_all n x (omega arith) ∙ sym (take_all m x (omega arith)))

pub behind_n : (x : List ℕ) (m n : ℕ) → n ≡ min m (length x) → drop n x ≡ drop m x
behind_n x m n e =
    elim_lt (drop n x ≡ drop m x) m (length x)
    (λ l. let k : n ≡ m = omega arith in ap (λ (z : ℕ). drop z x) k)
    (λ l. drop_all n x (omega arith) ∙ sym (drop_all m x (omega arith)))
