-- What a step left is a block and its name, or what was given back, or a share. Assumes `Logic`.
use Rattle.std.proofs.Common.{◌≡◌, ◌≢◌, ℕ, ◌+◌, ◌<◌, ◌≤◌, [], ◌∷◌, arith}
use types.Kit.{‵, given, ◌$◌, ◌∵◌, !, qed, by, move, drop, fsplit, fsplit3, fjoin, fjoin3, fpick, fpack, learn, check, use1, done}
use Rattle.raw_block.proofs.Walking.{Bool, true, false, Ura, SProp, ent, sep, never_e, guard, fsep, Fml, ftrue, ffalse}
use Rattle.raw_block.proofs.Walking.{Logic, sem, RattleType, Ptr, block_ptr, null_ptr, nothing, Gv, full_weight}
use Rattle.raw_block.specs.Views.{Life}
use Rattle.raw_block.specs.Shares.{was, name_owns, about, entry, block, held, owned, share_owns, given_back_owns, told, tells}
use Rattle.raw_block.specs.Shares.{released_at, released_owns, claimed_at, claimed_owns, seen_owns}
use Rattle.raw_block.specs.Heap.{heap_owns}
use Rattle.raw_block.specs.contracts.block.Block.{the_row}
use Rattle.raw_block.proofs.Opening.{regained}

module _ {M : Type 1} {𝓤 : Ura M} (𝓛 : Logic 𝓤) where
  open 𝓛 use {H, A}

  abbrev Pr : Type 2
  Pr = SProp 𝓤

  abbrev ◌⊢◌ : Pr → Pr → Type 1
  P ⊢ Q = ent 𝓤 P Q

  abbrev ◌∗◌ : Pr → Pr → Pr
  P ∗ Q = sep 𝓤 P Q

  abbrev ⟦◌⟧ : Fml → Pr
  ⟦ P ⟧ = sem 𝓛 P

  infix 26 ◌⊢◌
  infixr 35 ◌∗◌
  abbrev pub Above : ℕ → ℕ → Type 0
  Above w n = (w < n) × (n ≤ full_weight)

  module _ (R : RattleType) (b o : ℕ) (γ : Life) (x : R.Denot) (mark a w n : ℕ) (B : Fml) where
    hit : n ≡ w → (y : Bool) → ⟦ told R b o γ x mark a w B n y ⟧ ⊢ H.⇛ (⟦ block R b o 0 x ⟧ ∗ ⟦ name_owns γ.block ⟧)
    hit same true = qed 𝓛 (‵ (told R b o γ x mark a w B n true) ∷ []) ∵ fsplit ! $ drop ! $ by ! (regained 𝓛 R b o x mark γ a w)
    hit same false = qed 𝓛 (‵ (told R b o γ x mark a w B n false) ∷ []) ∵ fsplit ! $ fpick ! (λ h. let l = h.0 in absurd (omega arith))

    miss : n ≢ w → (y : Bool) → ⟦ told R b o γ x mark a w B n y ⟧ ⊢ guard 𝓤 (Above w n) ⟦ B ⟧
    miss other true = qed 𝓛 (‵ (told R b o γ x mark a w B n true) ∷ []) ∵ fsplit ! $ fpick ! (λ h. absurd (other h))
    miss other false = qed 𝓛 (‵ (told R b o γ x mark a w B n false) ∷ []) ∵ fsplit ! $ fpick ! (λ h. check ! h $ drop ! $ done !)

  module _ (R : RattleType) (γ : Life) (x : R.Denot) (mark w n : ℕ) where
    abbrev Whole : Ptr → Fml
    Whole p = heap_owns (the_row R) p (record { word = 0; content = x })

    pub release_ends : (p : Ptr) → n ≡ w → ⟦ released_owns R p γ x mark w n ⟧ ⊢ H.⇛ (⟦ Whole p ⟧ ∗ ⟦ name_owns γ.block ⟧)
    release_ends (block_ptr b o) same = qed 𝓛 (‵ (released_at R b o γ x mark w n) ∷ []) ∵ fsplit ! $ drop ! $
        fpick ! (λ a. fpick ! (λ y. by ! (hit R b o γ x mark a w n (entry γ.names.0 0 w (about R x mark a)) same y)))
    release_ends null_ptr same = never_e 𝓤 _

    pub release_leaves : (p : Ptr) → n ≢ w → ⟦ released_owns R p γ x mark w n ⟧ ⊢ guard 𝓤 (Above w n) ⟦ given_back_owns γ mark w ⟧
    release_leaves (block_ptr b o) other = qed 𝓛 (‵ (released_at R b o γ x mark w n) ∷ []) ∵ fsplit ! $
        fpick ! (λ h. let h₀ = h.0 in drop ! $ fpick ! (λ a. fpick ! (λ y.
        use1 𝓛 (given (Above w n) (‵ (entry γ.names.0 0 w (about R x mark a))))
        (miss R b o γ x mark a w n (entry γ.names.0 0 w (about R x mark a)) other y) $
        learn ! (λ up. let u₀ = up.0 in let u₁ = up.1 in check ! up $
        fpack ! (ℕ × Gv) (λ f. entry γ.names.0 0 w ((f.0, mark), f.1)) (a, R.coded.code x) $ nothing ! $
        fpack ! ((0 < w) × (w + 1 ≤ full_weight)) (λ _. ftrue) (h₀, omega arith) $ fjoin ! $ done !))))
    release_leaves null_ptr other = never_e 𝓤 _

    pub claim_ends : (p : Ptr) → n ≡ w → ⟦ claimed_owns R p γ x mark w n ⟧ ⊢ H.⇛ (⟦ Whole p ⟧ ∗ ⟦ name_owns γ.block ⟧)
    claim_ends (block_ptr b o) same = qed 𝓛 (‵ (claimed_at R b o γ x mark w n) ∷ []) ∵ fsplit ! $ drop ! $
        fpick ! (λ a. fsplit3 ! $ drop ! $ drop ! $
        fpick ! (λ y. by ! (hit R b o γ x mark a w n (fsep (held R b o γ x mark a w) (was γ.names.1 n)) same y)))
    claim_ends null_ptr same = never_e 𝓤 _

    pub claim_leaves : (p : Ptr) → n ≢ w → ⟦ claimed_owns R p γ x mark w n ⟧
        ⊢ guard 𝓤 (Above w n) (⟦ share_owns R p γ x mark w ⟧ ∗ ⟦ seen_owns γ n ⟧)
    claim_leaves (block_ptr b o) other = qed 𝓛 (‵ (claimed_at R b o γ x mark w n) ∷ []) ∵ fsplit ! $
        fpick ! (λ h. drop ! $ fpick ! (λ a. fsplit3 ! $ move ! (2 ∷ []) $ fpick ! (λ y.
        use1 𝓛 (given (Above w n) (‵ (fsep (held R b o γ x mark a w) (was γ.names.1 n))))
        (miss R b o γ x mark a w n (fsep (held R b o γ x mark a w) (was γ.names.1 n)) other y) $
        learn ! (λ up. check ! up $ fsplit ! $ move ! (0 ∷ 2 ∷ 3 ∷ []) $
        move ! (1 ∷ 0 ∷ 2 ∷ []) $ fjoin3 ! $ fpack ! ℕ (λ u. owned R b o γ x mark u w) a $ nothing ! $
        fpack ! ((0 < w) × (w ≤ full_weight)) (λ _. ftrue) h $ fjoin ! $ done !))))
    claim_leaves null_ptr other = never_e 𝓤 _

    -- a reunion never misses
    pub reunion_hits : (b o a : ℕ) → ⟦ tells R b o γ x mark a w ffalse n ⟧
        ⊢ guard 𝓤 (n ≡ w) ⟦ tells R b o γ x mark a w (entry γ.names.0 0 w (about R x mark a)) n ⟧
    reunion_hits b o a = qed 𝓛 (‵ (tells R b o γ x mark a w ffalse n) ∷ []) ∵ fpick ! (λ y. by ! (sure y))
      where
        sure : (y : Bool) → ⟦ told R b o γ x mark a w ffalse n y ⟧
            ⊢ guard 𝓤 (n ≡ w) ⟦ tells R b o γ x mark a w (entry γ.names.0 0 w (about R x mark a)) n ⟧
        sure true = qed 𝓛 (‵ (told R b o γ x mark a w ffalse n true) ∷ []) ∵ fsplit ! $
            fpick ! (λ h. check ! h $ drop ! $ nothing ! $ fpack ! (n ≡ w) (λ _. ftrue) h $ fjoin ! $
            fpack ! Bool (told R b o γ x mark a w (entry γ.names.0 0 w (about R x mark a)) n) true $ done !)
        sure false = qed 𝓛 (‵ (told R b o γ x mark a w ffalse n false) ∷ []) ∵ fsplit ! $ drop ! $ by ! (never_e 𝓤 _)
