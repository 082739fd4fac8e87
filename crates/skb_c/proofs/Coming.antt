-- Blocks that come home to a pool one by one, as long as it has places.
use Rattle.std.proofs.Common.{◌≡◌, ℕ, ◌+◌, ◌≤◌, ◌<◌, List, [], ◌∷◌, ◌++◌, length, min, ap, ◌∙◌}
use Rattle.std.specs.List.{sum_by}
use Rattle.std.proofs.lemmas.List.{length_push}
use Rattle.std.proofs.lemmas.List.Sums.{sum_by_push}
use Rattle.block_weight.specs.WeightRule.{full_weight}
use Rattle.raw_block.specs.Views.{ReceiptState, SoleState}
use Rattle.skb_c.specs.Home.{AreLight}
use native.Mathlib.Omega.{arith}

-- the block that came last
grown : (xs ys : List SoleState) (x : SoleState) → ys ≡ xs ++ x ∷ [] → length ys ≡ length xs + 1
grown xs ys x e = ap length e ∙ length_push xs x

grown_sum : (h : SoleState → ℕ) (xs ys : List SoleState) (x : SoleState) → ys ≡ xs ++ x ∷ [] → sum_by h ys ≡ sum_by h xs + h x
grown_sum h xs ys x e = ap (sum_by h) e ∙ sum_by_push h xs x

module _ (made k : ℕ) (b c s t : List SoleState) (x : SoleState) (e : s ≡ t ++ x ∷ []) where
  pub one_home : c ≡ b ++ x ∷ [] → min (length b + length s) made ≡ k → min (length c + length t) made ≡ k
  one_home f m = let p = grown b c x f in let q = grown t s x e in omega (arith, p, q, m)

  pub one_fits : c ≡ b ++ x ∷ [] → length b < made → length c ≤ made
  one_fits f less = let p = grown b c x f in omega (arith, p, less)

  pub one_freed : made ≤ length b → min (length b + length s) made ≡ k → min (length b + length t) made ≡ k
  one_freed f m = let q = grown t s x e in omega (arith, q, m, f)

  pub one_counts : c ≡ b ++ x ∷ [] → (h : SoleState → ℕ) → (length b + length s ≤ made) × (sum_by h b + sum_by h s ≡ k)
      → (length c + length t ≤ made) × (sum_by h c + sum_by h t ≡ k)
  one_counts f h m =
      let p = grown b c x f in let q = grown t s x e in let u = grown_sum h b c x f in let v = grown_sum h t s x e in
      (omega (arith, p, q, m.0), omega (arith, u, v, m.1))

  pub none_freed : {P : Type 0} → made ≤ length b → length b + length s ≤ made → P
  none_freed f m = let q = grown t s x e in absurd (omega (arith, q, m, f))

-- a receipt more
pub one_light : (xs : List ReceiptState) (r : ReceiptState) → AreLight xs → r.weight < full_weight → AreLight (xs ++ r ∷ [])
one_light [] r all light = (light, tt)
one_light (x ∷ xs) r all light = (all.0, one_light xs r all.1 light)
