-- Outcomes that grow step by step.
use Rattle.std.proofs.Common.{◌≡◌, ℕ, ◌+◌, ◌≤◌, List, [], ◌∷◌, ◌++◌, ap, sym, ◌∙◌, length, take, arith, length-append}
use Rattle.std.proofs.lemmas.List.{length-take, take-take}
use Rattle.std.proofs.Math.Seq.{take-length, take-append_seam}
use Rattle.raw_block.specs.declared.part.Released.{Released}
use Rattle.raw_block.specs.declared.part.Released.TheVariants.{Last, Left}
use Rattle.frags.specs.OutcomesState.{OutcomesState}
use Rattle.frags.specs.Growth.{Grows, Behind}

module _ {X : Type 0} where
  prefix_shorter : (xs ys : List X) → take (length xs) ys ≡ xs → length xs ≤ length ys
  prefix_shorter xs ys e = let l = ap length e in omega (arith, length-take (length xs) ys)

  prefix_trans : (xs ys zs : List X) → take (length xs) ys ≡ xs → take (length ys) zs ≡ ys → take (length xs) zs ≡ xs
  prefix_trans xs ys zs e f = sym (take-take (length xs) (length ys) zs (prefix_shorter xs ys e))
      ∙ ap (λ (z : List X). take (length xs) z) f ∙ e

  prefix_same : (xs ys : List X) → ys ≡ xs → take (length xs) ys ≡ xs
  prefix_same xs ys e = ap (λ (z : List X). take (length xs) z) e ∙ take-length xs

  prefix_longer : (xs ys zs : List X) → ys ≡ xs ++ zs → take (length xs) ys ≡ xs
  prefix_longer xs ys zs e = ap (λ (z : List X). take (length xs) z) e ∙ take-append_seam xs zs

pub grows_trans : (m n : ℕ) (a b c : OutcomesState) → Grows m a b → Grows n b c → Grows (m + n) a c
grows_trans m n a b c h k =
    let x = h.2 in
    let y = k.2 in
    (prefix_trans a.soles b.soles c.soles h.0 k.0, prefix_trans a.receipts b.receipts c.receipts h.1 k.1, omega arith)

-- the same number, said in another way
pub grows_by : (m n : ℕ) (a b : OutcomesState) → Grows m a b → m ≡ n → Grows n a b
grows_by m n a b h e = let x = h.2 in (h.0, h.1, omega arith)

pub grows_behind : (r : Released) (a b : OutcomesState) → Behind r a b → Grows 1 a b
grows_behind (Last s) a b h =
    let x = ap length h.0 ∙ length-append a.soles (s ∷ []) in
    let y = ap length h.1 in
    (prefix_longer a.soles b.soles (s ∷ []) h.0, prefix_same a.receipts b.receipts h.1, omega arith)
grows_behind (Left r) a b h =
    let x = ap length h.0 in
    let y = ap length h.1 ∙ length-append a.receipts (r ∷ []) in
    (prefix_same a.soles b.soles h.0, prefix_longer a.receipts b.receipts (r ∷ []) h.1, omega arith)
