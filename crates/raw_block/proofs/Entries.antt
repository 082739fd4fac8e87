-- The parts of a lifetime's token, and the entries of a life: cut, glued and compared. Assumes `Logic`.
use Rattle.std.proofs.Common.{◌≡◌, ℕ, ◌+◌, ◌^◌, ◌∙◌, ◌<◌, ◌≤◌, [], ◌∷◌, refl, sym, subst, arith}
use base.FractionLaws.{counts_some, Counts-op}
use base.Graph.{sum_in, sum_out}
use types.Kit.{‵, ◌⊛◌, ◌$◌, ◌∵◌, !, qed, by, move, split, fpick, fpack, use1, use2, done}
use Rattle.raw_block.proofs.Walking.{Ura, full_share, Counts, Counts-all, SProp, ent, sep, ex, emp, guard, guard_i, upd}
use Rattle.raw_block.proofs.Walking.{via, id⊢, GName, Share, Fml, fex, flft, Logic, sem, full_weight}
use types.Owned.{own_glued, own_new}
use Rattle.raw_block.specs.Shares.{About, Entry, Adds, adds, entries, entry, kept}

module _ {M : Type 1} {𝓤 : Ura M} (𝓛 : Logic 𝓤) where
  abbrev Pr : Type 2
  Pr = SProp 𝓤

  abbrev ◌⊢◌ : Pr → Pr → Type 1
  P ⊢ Q = ent 𝓤 P Q

  abbrev ◌∗◌ : Pr → Pr → Pr
  P ∗ Q = sep 𝓤 P Q

  abbrev ⟦◌⟧ : Fml → Pr
  ⟦ P ⟧ = sem 𝓛 P

  infix 26 ◌⊢◌
  infixr 35 ◌∗◌
  pub kept_in : (a k : ℕ) (e : Share) → Counts 63 e k → ⟦ flft (a ∷ []) e ⟧ ⊢ ⟦ kept a k ⟧
  kept_in a k e c = qed 𝓛 (‵ (flft (a ∷ []) e) ∷ []) ∵ fpack ! (Counts 63 e k) (λ _. flft (a ∷ []) e) c $
      fpack ! Share (λ s. fex (Counts 63 s k) (λ _. flft (a ∷ []) s)) e $ done !

  pub kept_cut : (a k i j : ℕ) → 0 < i → 0 < j → i + j ≡ k → k ≤ 2 ^ 63 → ⟦ kept a k ⟧ ⊢ ⟦ kept a i ⟧ ∗ ⟦ kept a j ⟧
  kept_cut a k i j pi pj total fits = let e = counts_some 63 i pi (omega arith) in let f = counts_some 63 j pj (omega arith) in
      qed 𝓛 (‵ (kept a k) ∷ []) ∵ fpick ! (λ r. fpick ! (λ c. let m = Counts-op 63 e.0 f.0 r i j k e.1 f.1 c total in
      use1 𝓛 (‵ (flft (a ∷ []) e.0) ⊛ ‵ (flft (a ∷ []) f.0)) (𝓛.lfts.lft_cut (a ∷ []) r e.0 f.0 m) $ split ! $
      use1 𝓛 (‵ (kept a i)) (kept_in a i e.0 e.1) $ move ! (1 ∷ []) $ use1 𝓛 (‵ (kept a j)) (kept_in a j f.0 f.1) $
      move ! (1 ∷ 0 ∷ []) $ done !))

  glued : (a i j : ℕ) (r : Share) → Counts 63 r (i + j) → ⟦ kept a i ⟧ ∗ ⟦ kept a j ⟧ ⊢ ⟦ flft (a ∷ []) r ⟧
  glued a i j r c = qed 𝓛 (‵ (kept a i) ∷ ‵ (kept a j) ∷ []) ∵ fpick ! (λ e. fpick ! (λ ce. move ! (1 ∷ []) $
      fpick ! (λ f. fpick ! (λ cf. let m = Counts-op 63 e f r i j (i + j) ce cf c refl in
      move ! (1 ∷ 0 ∷ []) $ use2 𝓛 (‵ (flft (a ∷ []) r)) (𝓛.lfts.lft_glue (a ∷ []) r e f m) $ done !))))

  pub kept_glue : (a i j k : ℕ) → i + j ≡ k → 0 < k → k ≤ 2 ^ 63 → ⟦ kept a i ⟧ ∗ ⟦ kept a j ⟧ ⊢ ⟦ kept a k ⟧
  kept_glue a i j k total some fits = let r = counts_some 63 (i + j) (omega arith) (omega arith) in
      qed 𝓛 (‵ (kept a i) ∷ ‵ (kept a j) ∷ []) ∵ use2 𝓛 (‵ (flft (a ∷ []) r.0)) (glued a i j r.0 r.1) $
      by ! (kept_in a k r.0 (subst (Counts 63 r.0) total r.1))

  pub kept_whole : (a i j : ℕ) → i + j ≡ 2 ^ 63 → ⟦ kept a i ⟧ ∗ ⟦ kept a j ⟧ ⊢ ⟦ flft (a ∷ []) full_share ⟧
  kept_whole a i j total = glued a i j full_share (subst (Counts 63 full_share) (sym total) (Counts-all 63))

  pub entry_new : (i m : ℕ) (a : About) → emp 𝓤 ⊢ upd 𝓤 (ex 𝓤 (λ (γ : GName). ⟦ entry γ i m a ⟧))
  entry_new i m a = own_new 𝓛 entries ((i, m), a)

  module _ (γ : GName) where
    pub entry_cut : (a : About) (i j k m n l : ℕ) → i + j ≡ k → m + n ≡ l → k ≤ full_weight → l + 1 ≤ full_weight
        → ⟦ entry γ k l a ⟧ ⊢ ⟦ entry γ i m a ⟧ ∗ ⟦ entry γ j n a ⟧
    entry_cut a i j k m n l e f p q = 𝓛.algebras.own_cut entries γ ((i, m), a) ((j, n), a) ((k, l), a)
        (sum_in adds ((i, m), a) ((j, n), a) ((k, l), a) ((e, f), ((refl, refl), (p, q))))

    abbrev pub Fit : About → About → ℕ → ℕ → ℕ → ℕ → Type 0
    Fit a c i j m n = (a ≡ c) × (i + j ≤ full_weight) × (m + n + 1 ≤ full_weight)

    -- two entries agree on what their life is about and have sums
    pub entry_glue : (a c : About) (i j m n : ℕ) → ⟦ entry γ i m a ⟧ ∗ ⟦ entry γ j n c ⟧
        ⊢ guard 𝓤 (Fit a c i j m n) ⟦ entry γ (i + j) (m + n) a ⟧
    entry_glue a c i j m n = own_glued 𝓛 entries γ ((i, m), a) ((j, n), c)
        (guard 𝓤 (Fit a c i j m n) ⟦ entry γ (i + j) (m + n) a ⟧) (λ z h. let s : Adds ((i, m), a)
        ((j, n), c) z = sum_out adds ((i, m), a) ((j, n), c) z h in
        let is : z ≡ ((i + j, m + n), a) = λ t. ((sym s.0.0 t, sym s.0.1 t), sym s.1.0.0 t) in
        let e = s.0.0 in let f = s.0.1 in let g = s.1.0.0 in let k = s.1.0.1 in let p = s.1.1.0 in let q = s.1.1.1 in
        let fit : Fit a c i j m n = (g ∙ sym k, omega arith, omega arith) in
        via 𝓤 ⟦ entry γ (i + j) (m + n) a ⟧ (subst (λ (y : Entry). ⟦ base.Fml.fown entries γ z ⟧
        ⊢ ⟦ base.Fml.fown entries γ y ⟧) is (id⊢ 𝓤 ⟦ base.Fml.fown entries γ z ⟧))
        (guard_i 𝓤 (Fit a c i j m n) ⟦ entry γ (i + j) (m + n) a ⟧ fit))
