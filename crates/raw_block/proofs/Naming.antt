-- Two names that are owned side by side are not the same. Assumes `Logic`.
use Rattle.std.proofs.Common.{◌≡◌, ◌≢◌, ℕ, ◌+◌, ◌-◌, [], ◌∷◌, Bool, true, false, refl, subst, arith}
use borrow.Author.Tests.{eqb-true}
use lib.Dec.{eqb}
use types.Kit.{‵, given, ◌$◌, ◌∵◌, !, qed, drop, use2, learn, done}
use Rattle.raw_block.proofs.Walking.{Ura, SProp, ent, sep, emp, via, Logic, sem, fact, fact_i, full_weight}
use Rattle.raw_block.specs.Shares.{about_nothing, entry, name_owns}
use Rattle.raw_block.proofs.Entries.{Fit, entry_glue}

by_bool : (P : Type 1) (v : Bool) → (v ≡ true → P) → (v ≡ false → P) → P
by_bool P true f g = f refl
by_bool P false f g = g refl

differ_of : (i j : ℕ) → eqb i j ≡ false → i ≢ j
differ_of i j e h = grind (arith, e, h)

module _ {M : Type 1} {𝓤 : Ura M} (𝓛 : Logic 𝓤) where
  abbrev names : ℕ → ℕ → SProp 𝓤
  names i j = sep 𝓤 (sem 𝓛 (name_owns i)) (sem 𝓛 (name_owns j))

  -- the sums of both entries would be above what a name allows
  once : (i : ℕ) (φ : Type 0) → ent 𝓤 (names i i) (fact 𝓤 φ)
  once i φ =
      let w = full_weight in
      let glued = given (Fit 𝓛 i about_nothing about_nothing w w (w - 1) (w - 1)) (‵ (entry i (w + w) ((w - 1) + (w - 1)) about_nothing)) in
      qed 𝓛 (‵ (name_owns i) ∷ ‵ (name_owns i) ∷ []) ∵
      use2 𝓛 glued (entry_glue 𝓛 i about_nothing about_nothing w w (w - 1) (w - 1)) $ learn ! (λ h. let s = h.1 in absurd (omega arith))

  pub names_differ : (i j : ℕ) → ent 𝓤 (names i j) (fact 𝓤 (i ≢ j))
  names_differ i j = by_bool (ent 𝓤 (names i j) (fact 𝓤 (i ≢ j))) (eqb i j)
      (λ e. subst (λ (k : ℕ). ent 𝓤 (names i k) (fact 𝓤 (i ≢ j))) (eqb-true i j e) (once i (i ≢ j)))
      (λ e. via 𝓤 (emp 𝓤) (qed 𝓛 (‵ (name_owns i) ∷ ‵ (name_owns j) ∷ []) ∵ drop ! $ drop ! $ done !)
      (fact_i 𝓤 (i ≢ j) (emp 𝓤) (differ_of i j e)))
