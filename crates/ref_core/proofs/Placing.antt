-- The pairs of the set machine name blocks that there are.
use Rattle.std.proofs.Common.{◌≡◌, ℕ, ◌<◌, [], ◌∷◌, ◌++◌, subst, ap, Option, Some, None}
use mathlib.Core.Bool.{cond}
use lib.Dec.{T}
use Rattle.std.specs.Prelude.{is_none}
use Rattle.ref_core.specs.SetMachine.{Pairs, block_of, without, AllPlaced}
use Rattle.ref_core.proofs.Holdings.{by_eqb}

block_is : {b c : ℕ} → Some b ≡ Some c → b ≡ c
block_is {b} e = ap (λ (o : Option ℕ). or_b o) e
  where
    or_b : Option ℕ → ℕ
    or_b None = b
    or_b (Some c) = c

pub placed_found : (n h : ℕ) (ps : Pairs) (b : ℕ) → AllPlaced n ps → block_of h ps ≡ Some b → b < n
placed_found n h [] b p e = absurd (subst (λ (o : Option ℕ). T (is_none o)) e tt)
placed_found n h (q ∷ ps) b p e = by_eqb (λ y. cond y (Some q.1) (block_of h ps) ≡ Some b → b < n) h q.0 (λ _ f. subst (λ k. k < n) (block_is f) p.0) (λ _ f. placed_found n h ps b p.1 f) e

pub placed_without : (n h : ℕ) (ps : Pairs) → AllPlaced n ps → AllPlaced n (without h ps)
placed_without n h [] p = tt
placed_without n h (q ∷ ps) p = by_eqb (λ y. AllPlaced n (cond y ps (q ∷ without h ps))) h q.0 (λ _. p.1) (λ _. (p.0, placed_without n h ps p.1))

pub placed_push : (n h b : ℕ) (ps : Pairs) → b < n → AllPlaced n ps → AllPlaced n (ps ++ (h, b) ∷ [])
placed_push n h b [] lt p = (lt, tt)
placed_push n h b (q ∷ ps) lt p = (p.0, placed_push n h b ps lt p.1)
