-- Shares are cut and joined, and so is what was given back. Assumes `Logic`.
use Rattle.std.proofs.Common.{◌≡◌, ℕ, ◌+◌, ◌-◌, ◌<◌, ◌≤◌, [], ◌∷◌, refl, sym, arith}
use base.Logic.{snd∗}
use types.Kit.{‵, ◌⊛◌, given, ◌$◌, ◌∵◌, !, qed, by, move, keep, drop, split, fsplit, fsplit3, fjoin, fjoin3, fpick}
use types.Kit.{fpack, learn, check, rewrite, frame, use1, use2, done}
use Rattle.raw_block.proofs.Walking.{Ura, SProp, ent, sep, via, never, never_e, fst∗, guard, Fml, ftrue, finv, Logic}
use Rattle.raw_block.proofs.Walking.{sem, RattleType, RowLaws, Ptr, block_ptr, null_ptr, contraction, nothing, Gv}
use Rattle.raw_block.proofs.Walking.{full_weight}
use Rattle.raw_block.specs.Views.{Life}
use Rattle.raw_block.specs.Shares.{About, about, entry, kept, offset, seen, Inv, owned, share_at, share_owns, given_back_owns}
use Rattle.raw_block.proofs.Entries.{kept_cut, kept_glue, entry_cut, Fit, entry_glue}

module _ {M : Type 1} {𝓤 : Ura M} (𝓛 : Logic 𝓤) where
  abbrev Pr : Type 2
  Pr = SProp 𝓤

  abbrev ◌⊢◌ : Pr → Pr → Type 1
  P ⊢ Q = ent 𝓤 P Q

  abbrev ◌∗◌ : Pr → Pr → Pr
  P ∗ Q = sep 𝓤 P Q

  abbrev ⟦◌⟧ : Fml → Pr
  ⟦ P ⟧ = sem 𝓛 P

  infix 26 ◌⊢◌
  infixr 35 ◌∗◌
  module _ (R : RattleType) (b o : ℕ) (γ : Life) (x : R.Denot) (mark : ℕ) where
    abbrev S : ℕ → Fml
    S = share_at R b o γ x mark

    packs : (a w : ℕ) → 0 < w → w ≤ full_weight → ⟦ finv (Inv R b o γ x mark a) ⟧ ∗ ⟦ entry γ.names.0 w 0 (about R x mark a) ⟧
        ∗ ⟦ kept a w ⟧ ∗ ⟦ seen R b o x (a ∷ []) ⟧ ⊢ ⟦ S w ⟧
    packs a w some small = qed 𝓛 (‵ (finv (Inv R b o γ x mark a)) ∷ ‵ (entry γ.names.0 w 0 (about R x mark a)) ∷ ‵ (kept a w)
        ∷ ‵ (seen R b o x (a ∷ [])) ∷ []) ∵ move ! (1 ∷ 2 ∷ []) $ fjoin ! $ move ! (1 ∷ 0 ∷ 2 ∷ []) $ fjoin3 ! $
        fpack ! ℕ (λ u. owned R b o γ x mark u w) a $ nothing ! $ fpack ! ((0 < w) × (w ≤ full_weight)) (λ _. ftrue)
        (some, small) $ fjoin ! $ done !

    share_cut : RowLaws R → (w g : ℕ) → 0 < g → g < w → ⟦ S w ⟧ ⊢ ⟦ S (w - g) ⟧ ∗ ⟦ S g ⟧
    share_cut L w g some less = qed 𝓛 (‵ (S w) ∷ []) ∵ fsplit ! $ fpick ! (λ h. let h₀ = h.0 in let h₁ = h.1 in
        drop ! $ fpick ! (λ a. fsplit3 ! $ let I : Fml = Inv R b o γ x mark a in
        use1 𝓛 (‵ (finv I) ⊛ ‵ (finv I)) (𝓛.invs.inv_dup I) $ split ! $ move ! (3 ∷ []) $
        use1 𝓛 (‵ (seen R b o x (a ∷ [])) ⊛ ‵ (seen R b o x (a ∷ [])))
        (contraction 𝓛 (seen R b o x) (L x b (o + offset R)) (a ∷ [])) $ split ! $ move ! (4 ∷ []) $ fsplit ! $
        use1 𝓛 (‵ (entry γ.names.0 (w - g) 0 (about R x mark a)) ⊛ ‵ (entry γ.names.0 g 0 (about R x mark a)))
        (entry_cut 𝓛 γ.names.0 (about R x mark a) (w - g) g w 0 0 0 (omega arith) refl h₁ (omega arith)) $ split ! $
        move ! (2 ∷ []) $
        use1 𝓛 (‵ (kept a (w - g)) ⊛ ‵ (kept a g)) (kept_cut 𝓛 a w (w - g) g (omega arith) some (omega arith) (omega arith)) $ split ! $
        -- [kept, kept; entry, entry; seen, seen; the invariant, twice]
        move ! (6 ∷ 2 ∷ 0 ∷ 4 ∷ []) $ types.Kit.group ! 4 $ use1 𝓛 (‵ (S (w - g))) (packs a (w - g) (omega arith) (omega arith)) $ frame ! $
        move ! (3 ∷ 1 ∷ 0 ∷ 2 ∷ []) $ by ! (packs a g some (omega arith))))

    module _ (b' o' : ℕ) (x' : R.Denot) (mark' w v : ℕ) where
      -- two shares of one life weigh no more than the whole, and have one mark and one content
      abbrev pub Agree : Type 0
      Agree = (w + v ≤ full_weight) × (mark' ≡ mark) × (x' ≡ x)

      agrees : (a u : ℕ) → Fit 𝓛 γ.names.0 (about R x mark a) (about R x' mark' u) w v 0 0 → Agree
      agrees a u fit = (fit.1, (λ i. (sym fit.0 i).0.1), R.coded.inj x' x (λ i. (sym fit.0 i).1))

      share_join : ⟦ S w ⟧ ∗ ⟦ share_at R b' o' γ x' mark' v ⟧ ⊢ guard 𝓤 Agree ⟦ S (w + v) ⟧
      share_join = qed 𝓛 (‵ (S w) ∷ ‵ (share_at R b' o' γ x' mark' v) ∷ []) ∵ fsplit ! $
          fpick ! (λ h. let h₀ = h.0 in drop ! $ fpick ! (λ a. fsplit3 ! $ move ! (3 ∷ []) $ fsplit ! $ drop ! $
          fpick ! (λ u. fsplit3 ! $ drop ! $
          -- [theirs; seen; the invariant; mine; seen]
          fsplit ! $ move ! (4 ∷ []) $ fsplit ! $
          -- [my entry; my parts; their entry; their parts; seen; the invariant; seen]
          move ! (0 ∷ 2 ∷ []) $ use2 𝓛 (given (Fit 𝓛 γ.names.0 (about R x mark a) (about R x' mark' u) w v 0 0)
          (‵ (entry γ.names.0 (w + v) 0 (about R x mark a)))) (entry_glue 𝓛 γ.names.0 (about R x mark a)
          (about R x' mark' u) w v 0 0) $
          learn ! (λ fit. let below = fit.1 in check ! (agrees a u fit) $
          move ! (2 ∷ []) $ rewrite ! 0 (λ (k : ℕ). ‵ (kept k v)) (λ i. (sym fit.0 i).0.0) refl $ move ! (2 ∷ 0 ∷ []) $
          use2 𝓛 (‵ (kept a (w + v))) (kept_glue 𝓛 a w v (w + v) refl (omega arith) (omega arith)) $
          -- [the parts; the entry; seen; the invariant; seen]
          move ! (3 ∷ 1 ∷ 0 ∷ 4 ∷ []) $ keep ! (0 ∷ 1 ∷ 2 ∷ 3 ∷ []) $ by ! (packs a (w + v) (omega arith) (omega arith))))))

  pub shares_cut : (R : RattleType) → RowLaws R → (p : Ptr) (γ : Life) (x : R.Denot) (mark w g : ℕ) → 0 < g → g < w
      → ⟦ share_owns R p γ x mark w ⟧ ⊢ ⟦ share_owns R p γ x mark (w - g) ⟧ ∗ ⟦ share_owns R p γ x mark g ⟧
  shares_cut R L (block_ptr b o) γ x mark w g some less = share_cut R b o γ x mark L w g some less
  shares_cut R L null_ptr γ x mark w g some less = never_e 𝓤 _

  abbrev pub Agreed : {X : Type 0} → X → X → ℕ → ℕ → ℕ → ℕ → Type 0
  Agreed x x' mark mark' w v = (w + v ≤ full_weight) × (mark' ≡ mark) × (x' ≡ x)

  pub shares_join : (R : RattleType) (p p' : Ptr) (γ : Life) (x x' : R.Denot) (mark mark' w v : ℕ)
      → ⟦ share_owns R p γ x mark w ⟧ ∗ ⟦ share_owns R p' γ x' mark' v ⟧
      ⊢ guard 𝓤 (Agreed x x' mark mark' w v) ⟦ share_owns R p γ x mark (w + v) ⟧
  shares_join R (block_ptr b o) (block_ptr b' o') γ x x' mark mark' w v = share_join R b o γ x mark b' o' x' mark' w v
  shares_join R (block_ptr b o) null_ptr γ x x' mark mark' w v = via 𝓤 (never 𝓤)
      (snd∗ 𝓤 ⟦ share_owns R (block_ptr b o) γ x mark w ⟧ (never 𝓤)) (never_e 𝓤 _)
  shares_join R null_ptr p' γ x x' mark mark' w v = via 𝓤 (never 𝓤) (fst∗ 𝓤 (never 𝓤) ⟦ share_owns R p' γ x' mark' v ⟧) (never_e 𝓤 _)

  -- what was given back adds up, to less than the whole
  pub given_back_join : (γ : Life) (mark mark' r s : ℕ) → ⟦ given_back_owns γ mark r ⟧
      ∗ ⟦ given_back_owns γ mark' s ⟧ ⊢ guard 𝓤 ((r + s < full_weight)
      × (mark' ≡ mark)) ⟦ given_back_owns γ mark (r + s) ⟧
  given_back_join γ mark mark' r s = qed 𝓛 (‵ (given_back_owns γ mark r) ∷ ‵ (given_back_owns γ mark' s) ∷ []) ∵
      fsplit ! $ fpick ! (λ h. let h₀ = h.0 in drop ! $ fpick ! (λ f. move ! (1 ∷ []) $ fsplit ! $ drop ! $
      fpick ! (λ g. move ! (1 ∷ 0 ∷ []) $
      let F : About = ((f.0, mark), f.1) in let G : About = ((g.0, mark'), g.1) in
      use2 𝓛 (given (Fit 𝓛 γ.names.0 F G 0 0 r s) (‵ (entry γ.names.0 0 (r + s) F))) (entry_glue 𝓛 γ.names.0 F G 0 0 r s) $
      learn ! (λ fit. let top = fit.2 in let less : r + s < full_weight = omega arith in
      check ! (less, λ i. (sym fit.0 i).0.1) $ fpack ! (ℕ × Gv) (λ e. entry γ.names.0 0 (r + s) ((e.0, mark), e.1)) f $
      nothing ! $ fpack ! ((0 < r + s) × (r + s + 1 ≤ full_weight)) (λ _. ftrue) (omega arith, omega arith) $
      fjoin ! $ done !))))
