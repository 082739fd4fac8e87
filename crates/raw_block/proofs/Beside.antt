-- A name that is owned beside a share is not that of its block. Assumes `Logic`.
use Rattle.std.proofs.Common.{◌≢◌, ℕ, [], ◌∷◌}
use types.Kit.{‵, ◌⊛◌, given, ◌$◌, ◌∵◌, !, qed, by, move, keep, split, fsplit, fsplit3, fjoin, fjoin3, fpick, fpack}
use types.Kit.{learn, frame, assume, suffices, updating, await, later, now, use1, use2, use3, done}
use Rattle.raw_block.proofs.Walking.{Bool, true, false, Ura, SProp, ent, sep, via, never, never_e, fst∗, guard, guard_i}
use Rattle.raw_block.proofs.Walking.{upd_i, Fml, ftrue, fsep, fdead, finv, fact_use, Logic, sem, RattleType, Ptr, block_ptr}
use Rattle.raw_block.proofs.Walking.{null_ptr, nothing}
use Rattle.raw_block.specs.Views.{Life}
use Rattle.raw_block.specs.Shares.{fact, name_owns, state, alive, Inv, held, owned, share_at, share_owns}
use Rattle.raw_block.proofs.Naming.{names_differ}
use Rattle.raw_block.proofs.Steps.{not_dead}

module _ {M : Type 1} {𝓤 : Ura M} (𝓛 : Logic 𝓤) where
  open 𝓛 use {H, A}

  abbrev Pr : Type 2
  Pr = SProp 𝓤

  abbrev ◌⊢◌ : Pr → Pr → Type 1
  P ⊢ Q = ent 𝓤 P Q

  abbrev ◌∗◌ : Pr → Pr → Pr
  P ∗ Q = sep 𝓤 P Q

  abbrev ⟦◌⟧ : Fml → Pr
  ⟦ P ⟧ = sem 𝓛 P

  infix 26 ◌⊢◌
  infixr 35 ◌∗◌
  differ : (i j : ℕ) → ⟦ name_owns i ⟧ ∗ ⟦ name_owns j ⟧ ⊢ guard 𝓤 (i ≢ j) (⟦ name_owns i ⟧ ∗ ⟦ name_owns j ⟧)
  differ i j = fact_use 𝓤 _ (names_differ 𝓛 i j) (guard_i 𝓤 (i ≢ j) (⟦ name_owns i ⟧ ∗ ⟦ name_owns j ⟧))

  -- both are still owned
  abbrev pub Told : Life → ℕ → Fml → Fml
  Told γ m P = fsep (fact (γ.block ≢ m)) (fsep P (name_owns m))

  module _ (R : RattleType) (b o : ℕ) (γ : Life) (x : R.Denot) (mark w m : ℕ) where
    abbrev S : Fml
    S = share_at R b o γ x mark w

    module _ (a : ℕ) where
      abbrev I : Fml
      I = Inv R b o γ x mark a

      abbrev Mine : Fml
      Mine = held R b o γ x mark a w

      inside : (y : Bool) → ⟦ alive R b o γ x mark a y ⟧ ∗ ⟦ Mine ⟧ ∗ ⟦ name_owns m ⟧ ⊢ ⟦ I ⟧ ∗ ⟦ Told γ m Mine ⟧
      inside false = qed 𝓛 (‵ (fdead (a ∷ [])) ∷ ‵ Mine ∷ ‵ (name_owns m) ∷ []) ∵ move ! (1 ∷ []) $ fsplit ! $
          keep ! (2 ∷ 1 ∷ []) $ by ! (not_dead 𝓛 R b o γ x mark a w (⟦ I ⟧ ∗ ⟦ Told γ m Mine ⟧))
      inside true = qed 𝓛 (‵ (alive R b o γ x mark a true) ∷ ‵ Mine ∷ ‵ (name_owns m) ∷ []) ∵ fpick ! (λ n. fsplit3 ! $
          move ! (2 ∷ []) $ fsplit3 ! $ move ! (2 ∷ []) $ fsplit3 ! $ move ! (2 ∷ []) $ fsplit ! $
          -- [the way back; the life's name; parts; lent; balanced; the entry; the word; the log; mine; the name]
          move ! (1 ∷ 9 ∷ []) $ use2 𝓛 (given (γ.block ≢ m) (‵ (name_owns γ.block) ⊛ ‵ (name_owns m)))
          (differ γ.block m) $ learn ! (λ other. split ! $
          -- [the life's name; the name; the way back; parts; lent; balanced; the entry; the word; the log; mine]
          move ! (2 ∷ 0 ∷ []) $ fjoin ! $ move ! (2 ∷ 3 ∷ 0 ∷ []) $ fjoin3 ! $ move ! (2 ∷ 3 ∷ 0 ∷ []) $ fjoin3 ! $
          move ! (2 ∷ 3 ∷ 0 ∷ []) $ fjoin3 ! $ fpack ! ℕ (state R b o γ x mark a) n $
          fpack ! Bool (alive R b o γ x mark a) true $ frame ! $
          -- [the name; mine]
          move ! (1 ∷ 0 ∷ []) $ fjoin ! $ nothing ! $ fpack ! (γ.block ≢ m) (λ _. ftrue) other $ fjoin ! $ done !))

      looks : A.inv I ∗ ⟦ Mine ⟧ ∗ ⟦ name_owns m ⟧ ⊢ H.⇛ ⟦ Told γ m Mine ⟧
      looks = qed 𝓛 (‵ (finv I) ∷ ‵ Mine ∷ ‵ (name_owns m) ∷ []) ∵ suffices ! _ (𝓛.invs.inv_acc I ⟦ Told γ m Mine ⟧) $
          frame ! $ assume ! (‵ I) $ suffices ! _ (upd_i 𝓤 (⟦ I ⟧ ∗ ⟦ Told γ m Mine ⟧)) $ fpick ! (λ y. by ! (inside y))

    share_beside : ⟦ S ⟧ ∗ ⟦ name_owns m ⟧ ⊢ H.⇛ ⟦ Told γ m S ⟧
    share_beside = qed 𝓛 (‵ S ∷ ‵ (name_owns m) ∷ []) ∵ updating ! $ fsplit ! $ move ! (1 ∷ []) $ fpick ! (λ a. fsplit3 ! $
        -- [the invariant; mine; what is seen; the weight; the name]
        use1 𝓛 (‵ (finv (I a)) ⊛ ‵ (finv (I a))) (𝓛.invs.inv_dup (I a)) $ split ! $ move ! (0 ∷ 2 ∷ 5 ∷ []) $
        use3 𝓛 (later (‵ (Told γ m (Mine a)))) (looks a) $ await ! tt $ fsplit3 ! $
        -- [told; mine; the name; the invariant; what is seen; the weight]
        move ! (3 ∷ 1 ∷ 4 ∷ []) $ fjoin3 ! $ fpack ! ℕ (λ u. owned R b o γ x mark u w) a $ move ! (3 ∷ 0 ∷ []) $
        fjoin ! $ move ! (1 ∷ 0 ∷ 2 ∷ []) $ fjoin3 ! $ now ! $ done !)

  -- a share's life has its block's name, so whoever owns a name beside the share owns another
  pub beside : (R : RattleType) (p : Ptr) (γ : Life) (x : R.Denot) (mark w m : ℕ)
      → ⟦ share_owns R p γ x mark w ⟧ ∗ ⟦ name_owns m ⟧ ⊢ H.⇛ ⟦ Told γ m (share_owns R p γ x mark w) ⟧
  beside R (block_ptr b o) γ x mark w m = share_beside R b o γ x mark w m
  beside R null_ptr γ x mark w m = via 𝓤 (never 𝓤) (fst∗ 𝓤 (never 𝓤) ⟦ name_owns m ⟧) (never_e 𝓤 _)
