-- A `&` to a share holds a `&` to the content. Assumes `Logic`.
use Rattle.std.proofs.Common.{ℕ, ◌+◌, ◌<◌, ◌≤◌, [], ◌∷◌, ◌++◌}
use base.Fml.{fseps, fupd, fbor}
use types.Kit.{‵, ◌⊛◌, ◌$◌, ◌∵◌, !, qed, move, keep, drop, use1, use2, split, group, fsplit, fsplit3, fjoin, fjoin3}
use types.Kit.{fpick, fpack, assume, suffices, updating, now, done}
use Rattle.raw_block.proofs.Walking.{Ura, Counts, SProp, ent, sep, upd_i, id⊢, Lft, Share, Fml, ftrue, ffalse, fsep}
use Rattle.raw_block.proofs.Walking.{fwand, fdead, flft, finv, meet_⊑_left, Logic, sem, RattleType, RowLaws, Ptr}
use Rattle.raw_block.proofs.Walking.{block_ptr, null_ptr, contraction, nothing}
use Rattle.raw_block.proofs.Walking.{full_weight}
use types.Tokens.{bor_open, obor_alter, bor_fracture}
use denote.Moves.{moves}
use denote.Sharing.{ShrLaws}
use denote.SharingLaws.{shortens, said_shr_laws}
use denote.Struct.Lending.{Lends, Lends-false}
use Rattle.core.proofs.cell.Borrows.{by_one}
use Rattle.raw_block.specs.Views.{Life}
use Rattle.raw_block.specs.Shares.{about, entry, kept, offset, seen, Inv, owned, share_at, share_owns, share_shares}
use Rattle.raw_block.proofs.Entries.{kept_in}

pub share_laws : (R : RattleType) → RowLaws R → (p : Ptr) (x : R.Denot) → ShrLaws (share_shares R p x)
share_laws R L (block_ptr b o) x = L x b (o + offset R)
share_laws R L null_ptr x = said_shr_laws ffalse tt

module _ {M : Type 1} {𝓤 : Ura M} (𝓛 : Logic 𝓤) where
  open 𝓛 use {H, A}

  abbrev Pr : Type 2
  Pr = SProp 𝓤

  abbrev ◌⊢◌ : Pr → Pr → Type 1
  P ⊢ Q = ent 𝓤 P Q

  abbrev ◌∗◌ : Pr → Pr → Pr
  P ∗ Q = sep 𝓤 P Q

  abbrev ⟦◌⟧ : Fml → Pr
  ⟦ P ⟧ = sem 𝓛 P

  infix 26 ◌⊢◌
  infixr 35 ◌∗◌
  module _ (R : RattleType) (L : RowLaws R) (b o : ℕ) (γ : Life) (x : R.Denot) (mark w : ℕ) (κ : Lft) where
    abbrev P : Fml
    P = share_at R b o γ x mark w

    abbrev V : Lft → Fml
    V = seen R b o x

    abbrev Fit : Type 0
    Fit = (0 < w) × (w ≤ full_weight)

    again : (a : ℕ) (e : Share) → Counts 63 e w → Fit → ⟦ finv (Inv R b o γ x mark a) ⟧
        ∗ ⟦ entry γ.names.0 w 0 (about R x mark a) ⟧ ∗ ⟦ V (a ∷ []) ⟧
        ⊢ ⟦ fwand (fsep (fdead κ) (fseps (flft (a ∷ []) e ∷ []))) (fupd P) ⟧
    unfolding fseps
    again a e c fit = qed 𝓛 (‵ (finv (Inv R b o γ x mark a)) ∷ ‵ (entry γ.names.0 w 0 (about R x mark a)) ∷ ‵ (V (a ∷ []))
        ∷ []) ∵ assume ! (‵ (fsep (fdead κ) (fsep (flft (a ∷ []) e) ftrue))) $
        suffices ! ⟦ P ⟧ (upd_i 𝓤 ⟦ P ⟧) $ fsplit3 ! $ move ! (1 ∷ []) $ use1 𝓛 (‵ (kept a w)) (kept_in 𝓛 a w e c) $
        move ! (4 ∷ 0 ∷ []) $ fjoin ! $ move ! (3 ∷ 0 ∷ 4 ∷ []) $ fjoin3 ! $
        fpack ! ℕ (λ u. owned R b o γ x mark u w) a $ nothing ! $ fpack ! Fit (λ _. ftrue) fit $ fjoin ! $ keep ! (0 ∷ []) $ done !

    pub lends_seen : (q : Share) → A.bor κ P ∗ A.lft κ q ⊢ H.⇛ (⟦ V κ ⟧ ∗ A.lft κ q)
    unfolding fseps
    lends_seen q = qed 𝓛 (‵ (fbor κ P) ∷ ‵ (flft κ q) ∷ []) ∵ updating ! $ bor_open ! tt $ move ! (1 ∷ []) $ fsplit ! $
        fpick ! (λ fit. drop ! $ fpick ! (λ u. fsplit3 ! $ move ! (1 ∷ []) $ fsplit ! $ move ! (1 ∷ []) $
        fpick ! (λ e. fpick ! (λ c.
        let a : Lft = u ∷ [] in
        -- [the token; the entry; the invariant; V; the open borrow]
        move ! (3 ∷ []) $ use1 𝓛 (‵ (V a) ⊛ ‵ (V a)) (contraction 𝓛 V (L x b (o + offset R)) a) $ split ! $
        move ! (4 ∷ 3 ∷ 0 ∷ []) $ group ! 3 $
        use1 𝓛 (‵ (fwand (fsep (fdead κ) (fseps (flft a e ∷ []))) (fupd P))) (again u e c fit) $ nothing ! $
        move ! (3 ∷ 0 ∷ []) $ fjoin ! $ move ! (3 ∷ 0 ∷ 1 ∷ []) $ obor_alter ! tt (flft a e ∷ []) $
        use1 𝓛 (‵ (fbor κ (flft a e)) ⊛ ‵ ftrue) (id⊢ 𝓤 _) $ split ! $ bor_fracture ! tt (λ r. flft a r) e $ move ! (3 ∷ []) $
        use1 𝓛 (‵ (V (a ++ κ))) (shortens 𝓛 V (L x b (o + offset R)) a (a ++ κ) (meet_⊑_left a κ)) $ move ! (1 ∷ 0 ∷ []) $
        use2 𝓛 (‵ (V κ)) (moves 𝓛 V (L x b (o + offset R)) κ a) $ now ! $ keep ! (0 ∷ 2 ∷ []) $ done !))))

  pub lends_share : (R : RattleType) → RowLaws R → (l : Lft) (p : Ptr) (γ : Life) (x : R.Denot) (mark w : ℕ)
      → Lends 𝓛 (share_owns R p γ x mark w) (share_shares R p x) l
  lends_share R L l null_ptr γ x mark w = Lends-false 𝓛 (share_shares R null_ptr x) l
  lends_share R L l (block_ptr b o) γ x mark w =
      λ κ ts inc sp. by_one 𝓛 κ ts sp (A.bor κ (share_at R b o γ x mark w)) ⟦ seen R b o x κ ⟧ (lends_seen R L b o γ x mark w κ)
