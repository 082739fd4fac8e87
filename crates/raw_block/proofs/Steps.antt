-- One step on a block's word, under its life's invariant. Assumes `Logic`.
use Rattle.std.proofs.Common.{◌≢◌, ◌≡◌, ℕ, ◌+◌, ◌-◌, ◌%◌, ◌^◌, ◌<◌, ◌≤◌, eqb, List, [], ◌∷◌, ◌++◌, sym, refl, subst}
use Rattle.std.proofs.Common.{arith, eq-eqb, ne_eqb, w64}
use mathlib.Core.List.{Mem, not-mem-nil, prefix-append}
use mathlib.Core.Logic.{dite}
use native.Mathlib.Decide.{ℕ_discrete}
use base.Logic.{ex_i}
use base.Fml.{fnamed}
use prog.Atomic.{either}
use types.Kit.{‵, raw, ◌⊛◌, some, given, ◌$◌, ◌∵◌, !, qed, by, move, keep, drop, split, fsplit, fsplit3, fjoin, fjoin3}
use types.Kit.{fpick, fpack, pick, learn, show, check, frame, each, assume, suffices, settle, use1, use2, use3, rewrite}
use types.Kit.{done}
use Rattle.raw_block.proofs.Walking.{Bool, true, false, Ura, ty_int, vint, has_ty, WT, full_share, SProp, ent, sep}
use Rattle.raw_block.proofs.Walking.{wand, ex, guard, never, never_e, upd, upd_i, via, apply∗, Lft, Fml, ftrue, ffalse}
use Rattle.raw_block.proofs.Walking.{fsep, fdead, finv, flft, Logic, sem}
use Rattle.raw_block.proofs.Walking.{RattleType, block_ptr, nothing, word, latest, at_least, full_weight, IsBalanced}
use Rattle.core.specs.Sync.RawAtomic.{Shift, rests, ends, enters, leaves, along, if_none, shifted, back, found, asks, always}
use types.Growing.{latest_grows, latest_shows}
use Rattle.raw_block.specs.Views.{Life}
use Rattle.raw_block.specs.Shares.{About, about, Log, reached, was, entry, kept, beside_word, state, alive, Inv, held, told, tells}
use Rattle.raw_block.proofs.Entries.{kept_glue, kept_whole, entry_cut, Fit, entry_glue}

module _ {M : Type 1} {𝓤 : Ura M} (𝓛 : Logic 𝓤) (R : RattleType) (b o : ℕ) (γ : Life) (x : R.Denot) (mark a : ℕ) where
  open 𝓛 use {H, A}

  abbrev Pr : Type 2
  Pr = SProp 𝓤

  abbrev ◌⊢◌ : Pr → Pr → Type 1
  P ⊢ Q = ent 𝓤 P Q

  abbrev ◌∗◌ : Pr → Pr → Pr
  P ∗ Q = sep 𝓤 P Q

  abbrev ◌-∗◌ : Pr → Pr → Pr
  P -∗ Q = wand 𝓤 P Q

  abbrev ⟦◌⟧ : Fml → Pr
  ⟦ P ⟧ = sem 𝓛 P

  infix 26 ◌⊢◌
  infixr 35 ◌∗◌
  infixr 30 ◌-∗◌
  -- what the life is about
  abbrev F : About
  F = about R x mark a

  abbrev κ : Lft
  κ = a ∷ []

  abbrev I : Fml
  I = Inv R b o γ x mark a

  abbrev Beside : ℕ → Fml
  Beside = beside_word R b o γ x mark a

  abbrev e : ℕ
  e = o + 0

  pub not_dead : (w : ℕ) (Z : Pr) → ⟦ fdead κ ⟧ ∗ ⟦ kept a w ⟧ ⊢ Z
  not_dead w Z = qed 𝓛 (‵ (fdead κ) ∷ ‵ (kept a w) ∷ []) ∵ move ! (1 ∷ []) $
      fpick ! (λ s. fpick ! (λ c. by ! (via 𝓤 (never 𝓤) (𝓛.lfts.lft-dead κ s) (never_e 𝓤 Z))))

  module _ (f : ℕ → ℕ) (after : ℕ → Fml) (X : Fml) where
    abbrev Next : ℕ → Pr
    Next n = ⟦ I ⟧ ∗ ⟦ after n ⟧

    abbrev Had : ℕ → Pr
    Had n = ⟦ word b e (f n) ⟧ ∗ ⟦ Beside n ⟧ ∗ ⟦ X ⟧

    -- the life goes on, or it ends with this step
    pub data Way (n : ℕ) : Type 1 where
      goes : Had n ⊢ upd 𝓤 (Next n) → Way n
      stops : Had n ⊢ A.lft κ full_share ∗ (A.dead κ -∗ upd 𝓤 (Next n)) → Way n

    closes : (j n : ℕ) → Way n → Had n ⊢ shifted 𝓛 (if_none 𝓛 ⟦ after n ⟧) ((j, I) ∷ [])
    closes j n (goes h) = let T : Pr = ⟦ after n ⟧ in let L : List (ℕ × Fml) = (j, I) ∷ [] in
        qed 𝓛 (‵ (word b e (f n)) ∷ ‵ (Beside n) ∷ ‵ X ∷ []) ∵ use3 𝓛 (raw (upd 𝓤 (Next n))) h $
        suffices ! _ (ex_i 𝓤 (λ (s : Shift). along 𝓛 s (if_none 𝓛 T) L) (leaves rests)) $
        settle 𝓛 (⟦ I ⟧ ∗ upd 𝓤 T) (‵ I ⊛ ‵ (after n)) $ suffices ! _ (upd_i 𝓤 (⟦ I ⟧ ∗ upd 𝓤 T)) $ split ! $ frame ! $
        suffices ! _ (upd_i 𝓤 T) $ done !
    closes j n (stops h) = let T : Pr = ⟦ after n ⟧ in let L : List (ℕ × Fml) = (j, I) ∷ [] in let Q : Pr = ⟦ I ⟧ ∗ upd 𝓤 T in
        qed 𝓛 (‵ (word b e (f n)) ∷ ‵ (Beside n) ∷ ‵ X ∷ []) ∵
        use3 𝓛 (‵ (flft κ full_share) ⊛ raw (A.dead κ -∗ upd 𝓤 (Next n))) h $
        suffices ! _ (ex_i 𝓤 (λ (s : Shift). along 𝓛 s (if_none 𝓛 T) L) (ends a (leaves rests))) $
        suffices ! _ (upd_i 𝓤 (A.lft κ full_share ∗ (A.dead κ -∗ upd 𝓤 Q))) $ split ! $ frame ! $
        assume ! (‵ (fdead κ)) $ use2 𝓛 (raw (upd 𝓤 (Next n))) (apply∗ 𝓤 (A.dead κ) (upd 𝓤 (Next n))) $
        settle 𝓛 Q (‵ I ⊛ ‵ (after n)) $ suffices ! _ (upd_i 𝓤 Q) $ split ! $ frame ! $ suffices ! _ (upd_i 𝓤 T) $ done !

    module _ (moves : (n : ℕ) → n < 2 ^ 64 → Way n) (dies : ⟦ fdead κ ⟧ ∗ ⟦ X ⟧ ⊢ never 𝓤) where
      opened : (j : ℕ) (y : Bool) → ⟦ alive R b o γ x mark a y ⟧ ∗ ⟦ X ⟧ ⊢ ex 𝓤 (found 𝓛 ((j, I) ∷ []) b e f always after)
      opened j false = via 𝓤 (never 𝓤) dies (never_e 𝓤 _)
      opened j true = let L : List (ℕ × Fml) = (j, I) ∷ [] in qed 𝓛 (‵ (alive R b o γ x mark a true) ∷ ‵ X ∷ []) ∵ fpick ! (λ n. fsplit ! $
          use1 𝓛 (given (lib.Dec.T (has_ty (ty_int w64) (vint w64 n)) × WT (vint w64 n)) (‵ (word b e n)))
          (𝓛.laws.at_wt full_share (ty_int w64) b e (vint w64 n)) $ learn ! (λ g.
          show ! (found 𝓛 L b e f always after) n $ frame ! $ each ! (λ (_ : Unit {0}). back 𝓛 L b e f after n)
          (λ _. assume ! (‵ (word b e (f n))) $ by ! (closes j n (moves n g.1.fits)))))

      pub stepped : A.inv I ∗ ⟦ X ⟧ ⊢ asks 𝓛 (block_ptr b e) f always after
      stepped = let K : List (ℕ × Fml) → Pr = λ l. ex 𝓤 (found 𝓛 l b e f always after) in
          qed 𝓛 (‵ (finv I) ∷ ‵ X ∷ []) ∵ use1 𝓛 (some (λ (j : ℕ). ‵ (fnamed j I))) (𝓛.invs.inv_named I) $
          pick ! (λ j. let F : Pr = K ((j, I) ∷ []) in
          suffices ! _ (ex_i 𝓤 (λ (s : Shift). along 𝓛 s K []) (enters j I rests)) $
          suffices ! _ (upd_i 𝓤 (guard 𝓤 (¬ Mem j []) (A.named j I ∗ (⟦ I ⟧ -∗ upd 𝓤 F)))) $
          check ! (λ m. not-mem-nil m) $ frame ! $ assume ! (‵ I) $
          suffices ! _ (upd_i 𝓤 F) $ fpick ! (λ y. by ! (opened j y)))

  module _ (w : ℕ) (some_weight : 0 < w) (small : w ≤ full_weight) where
    abbrev Mine : Fml
    Mine = held R b o γ x mark a w

    dies_with : ⟦ fdead κ ⟧ ∗ ⟦ Mine ⟧ ⊢ never 𝓤
    dies_with = qed 𝓛 (‵ (fdead κ) ∷ ‵ Mine ∷ []) ∵ move ! (1 ∷ []) $ fsplit ! $ keep ! (2 ∷ 1 ∷ []) $ by ! (not_dead w (never 𝓤))

    -- the last share: its parts and those of the invariant are the whole token
    last : (f : ℕ → ℕ) (B : Fml) (n : ℕ) → n ≡ w → f n ≡ 0 → ⟦ word b e (f n) ⟧ ∗ ⟦ Beside n ⟧ ∗ ⟦ Mine ⟧
        ⊢ A.lft κ full_share ∗ (A.dead κ -∗ upd 𝓤 (⟦ I ⟧ ∗ ⟦ tells R b o γ x mark a w B n ⟧))
    last f B n same zero_left = let T : ℕ → Fml = tells R b o γ x mark a w B in let G : Pr = ⟦ I ⟧ ∗ ⟦ T n ⟧ in
        qed 𝓛 (‵ (word b e (f n)) ∷ ‵ (Beside n) ∷ ‵ Mine ∷ []) ∵
        rewrite ! 0 (λ (k : ℕ). ‵ (word b e k)) zero_left refl $ move ! (1 ∷ []) $ fsplit ! $ drop ! $ fsplit ! $
        fpick ! (λ h. let h₀ = h.0 in let h₁ = h.1 in drop ! $ fsplit3 ! $ drop ! $
        -- [kept; lent and back; the word; mine]
        move ! (3 ∷ []) $ fsplit ! $ drop ! $ move ! (1 ∷ 0 ∷ []) $
        use2 𝓛 (‵ (flft κ full_share)) (kept_whole 𝓛 a (2 ^ 63 - n) w (omega arith)) $ frame ! $
        assume ! (‵ (fdead κ)) $ suffices ! _ (upd_i 𝓤 G) $ use1 𝓛 (‵ (fdead κ) ⊛ ‵ (fdead κ)) (𝓛.lfts.dead_dup κ) $
        split ! $ fpack ! Bool (alive R b o γ x mark a) false $ frame ! $
        -- [dead; lent and back; the word]
        move ! (0 ∷ 1 ∷ []) $ fjoin ! $ move ! (1 ∷ 0 ∷ []) $ fjoin ! $ nothing ! $ fpack ! (n ≡ w) (λ _. ftrue) same $
        fjoin ! $ fpack ! Bool (told R b o γ x mark a w B n) true $ done !)

    -- the log goes on;  and tells what it ends in
    goes_on : (n v : ℕ) → ⟦ reached γ.names.1 n ⟧ ⊢ upd 𝓤 ⟦ reached γ.names.1 v ⟧
    goes_on n v = qed 𝓛 (‵ (reached γ.names.1 n) ∷ []) ∵ fpick ! (λ h. let l : List ℕ = h ++ (n ∷ []) in
        use1 𝓛 (raw (upd 𝓤 ⟦ latest Log full_share γ.names.1 (l ++ (v ∷ [])) ⟧))
        (latest_grows Log 𝓛 γ.names.1 l (l ++ (v ∷ [])) (prefix-append l (v ∷ []))) $
        settle 𝓛 ⟦ reached γ.names.1 v ⟧ (‵ (latest Log full_share γ.names.1 (l ++ (v ∷ [])))) $
        suffices ! _ (upd_i 𝓤 ⟦ reached γ.names.1 v ⟧) $ fpack ! (List ℕ) (λ k. latest Log full_share γ.names.1 (k ++ (v ∷ []))) l $ done !)

    tells_it : (n : ℕ) → ⟦ reached γ.names.1 n ⟧ ⊢ ⟦ reached γ.names.1 n ⟧ ∗ ⟦ was γ.names.1 n ⟧
    tells_it n = qed 𝓛 (‵ (reached γ.names.1 n) ∷ []) ∵ fpick ! (λ h. let l : List ℕ = h ++ (n ∷ []) in
        use1 𝓛 (‵ (latest Log full_share γ.names.1 l) ⊛ ‵ (at_least Log γ.names.1 l))
        (latest_shows Log 𝓛 full_share γ.names.1 l l (Log.same l)) $ split ! $
        fpack ! (List ℕ) (λ k. latest Log full_share γ.names.1 (k ++ (n ∷ []))) h $ frame ! $
        fpack ! (List ℕ) (λ k. at_least Log γ.names.1 (k ++ (n ∷ []))) h $ done !)

    -- ---- release
    gives : (n : ℕ) → n ≢ w → ⟦ word b e ((n + (2 ^ 64 - w)) % 2 ^ 64) ⟧ ∗ ⟦ Beside n ⟧ ∗ ⟦ Mine ⟧
        ⊢ upd 𝓤 (⟦ I ⟧ ∗ ⟦ tells R b o γ x mark a w (entry γ.names.0 0 w F) n ⟧)
    gives n other = let B : Fml = entry γ.names.0 0 w F in let G : Pr = ⟦ I ⟧ ∗ ⟦ tells R b o γ x mark a w B n ⟧ in
        qed 𝓛 (‵ (word b e ((n + (2 ^ 64 - w)) % 2 ^ 64)) ∷ ‵ (Beside n) ∷ ‵ Mine ∷ []) ∵ move ! (1 ∷ []) $ fsplit ! $
        use1 𝓛 (raw (upd 𝓤 ⟦ reached γ.names.1 (n - w) ⟧)) (goes_on n (n - w)) $ settle 𝓛 G (‵ (reached γ.names.1 (n - w))) $
        suffices ! _ (upd_i 𝓤 G) $ move ! (1 ∷ 2 ∷ 3 ∷ []) $ fsplit ! $
        fpick ! (λ h. let h₀ = h.0 in let h₁ = h.1 in drop ! $ fsplit3 ! $ move ! (4 ∷ []) $ fsplit ! $
        -- [my entry; my parts; the entry; the parts; lent and back; the word]
        move ! (2 ∷ 0 ∷ []) $ use2 𝓛 (given (Fit 𝓛 γ.names.0 F F (full_weight - n) w (n - 1) 0)
        (‵ (entry γ.names.0 ((full_weight - n) + w) ((n - 1) + 0) F)))
        (entry_glue 𝓛 γ.names.0 F F (full_weight - n) w (n - 1) 0) $ learn ! (λ fit. let below = fit.1 in
        let more : w < n = omega arith in let v : ℕ = n - w in
        use1 𝓛 (‵ (entry γ.names.0 (full_weight - v) (v - 1) F) ⊛ ‵ B)
        (entry_cut 𝓛 γ.names.0 F (full_weight - v) 0 ((full_weight - n) + w) (v - 1) w ((n - 1) + 0) (omega arith)
        (omega arith) (omega arith) (omega arith)) $ split ! $
        -- [the entry; the receipt; my parts; the parts; lent and back; the word]
        move ! (3 ∷ 2 ∷ []) $ use2 𝓛 (‵ (kept a (2 ^ 63 - v))) (kept_glue 𝓛 a (2 ^ 63 - n) w (2 ^ 63 - v) (omega arith)
        (omega arith) (omega arith)) $
        let is : (n + (2 ^ 64 - w)) % 2 ^ 64 ≡ v = omega arith in move ! (4 ∷ []) $ rewrite ! 0 (λ (k : ℕ). ‵ (word b e k)) is refl $
        -- [the word; the parts; the entry; the receipt; lent and back]
        move ! (2 ∷ 1 ∷ 4 ∷ []) $ fjoin3 ! $ nothing ! $ fpack ! (IsBalanced v (full_weight - v)) (λ _. ftrue)
        (omega arith, omega arith) $ fjoin ! $ move ! (3 ∷ 0 ∷ []) $ fjoin ! $ move ! (1 ∷ 0 ∷ []) $ fjoin ! $
        fpack ! ℕ (state R b o γ x mark a) v $ fpack ! Bool (alive R b o γ x mark a) true $ frame ! $ nothing ! $
        fpack ! ((w < n) × (n ≤ full_weight)) (λ _. ftrue) (more, omega arith) $ fjoin ! $
        fpack ! Bool (told R b o γ x mark a w B n) false $ done !))

    release_way : (n : ℕ) → n < 2 ^ 64 → Way (λ n. (n + (2 ^ 64 - w)) % 2 ^ 64) (tells R b o γ x mark a w (entry γ.names.0 0 w F)) Mine n
    release_way n fits = dite (ℕ_discrete n w) (λ same. stops (last (λ n. (n + (2 ^ 64 - w)) % 2 ^ 64)
        (entry γ.names.0 0 w F) n same (omega arith))) (λ other. goes (gives n other))

    pub releases : A.inv I ∗ ⟦ Mine ⟧
        ⊢ asks 𝓛 (block_ptr b e) (λ n. (n + (2 ^ 64 - w)) % 2 ^ 64) always (tells R b o γ x mark a w (entry γ.names.0 0 w F))
    releases = stepped (λ n. (n + (2 ^ 64 - w)) % 2 ^ 64) (tells R b o γ x mark a w (entry γ.names.0 0 w F)) Mine release_way dies_with

    -- ---- claim
    abbrev swapped : ℕ → ℕ
    swapped n = either (eqb n w) 0 n

    hits : (n : ℕ) → n ≡ w → swapped n ≡ 0
    hits n same = subst (λ (y : Bool). either y 0 n ≡ 0) (sym (eq-eqb n w same)) refl

    misses : (n : ℕ) → n ≢ w → swapped n ≡ n
    misses n other = subst (λ (y : Bool). either y 0 n ≡ n) (sym (ne_eqb n w other)) refl

    abbrev Kept : ℕ → Fml
    Kept n = fsep Mine (was γ.names.1 n)

    stays : (n : ℕ) → n ≢ w → ⟦ word b e (swapped n) ⟧ ∗ ⟦ Beside n ⟧ ∗ ⟦ Mine ⟧ ⊢ upd 𝓤 (⟦ I ⟧ ∗ ⟦ tells R b o γ x mark a w (Kept n) n ⟧)
    stays n other = let G : Pr = ⟦ I ⟧ ∗ ⟦ tells R b o γ x mark a w (Kept n) n ⟧ in
        qed 𝓛 (‵ (word b e (swapped n)) ∷ ‵ (Beside n) ∷ ‵ Mine ∷ []) ∵ suffices ! _ (upd_i 𝓤 G) $
        rewrite ! 0 (λ (k : ℕ). ‵ (word b e k)) (misses n other) refl $
        move ! (1 ∷ []) $ fsplit ! $ use1 𝓛 (‵ (reached γ.names.1 n) ⊛ ‵ (was γ.names.1 n)) (tells_it n) $ split ! $
        move ! (2 ∷ 3 ∷ 4 ∷ []) $ fsplit ! $ fpick ! (λ h. let h₀ = h.0 in let h₁ = h.1 in
        drop ! $ fsplit3 ! $ move ! (4 ∷ []) $ fsplit ! $
        move ! (2 ∷ 0 ∷ []) $ use2 𝓛 (given (Fit 𝓛 γ.names.0 F F (full_weight - n) w (n - 1) 0)
        (‵ (entry γ.names.0 ((full_weight - n) + w) ((n - 1) + 0) F)))
        (entry_glue 𝓛 γ.names.0 F F (full_weight - n) w (n - 1) 0) $ learn ! (λ fit. let below = fit.1 in
        let more : w < n = omega arith in
        use1 𝓛 (‵ (entry γ.names.0 (full_weight - n) (n - 1) F) ⊛ ‵ (entry γ.names.0 w 0 F))
        (entry_cut 𝓛 γ.names.0 F (full_weight - n) w ((full_weight - n) + w)
        (n - 1) 0 ((n - 1) + 0) refl refl below (omega arith)) $ split ! $
        -- [the entry; my entry; my parts; the parts; lent and back; the word]
        move ! (1 ∷ 2 ∷ []) $ fjoin ! $ move ! (1 ∷ 2 ∷ 3 ∷ []) $ fjoin3 ! $ nothing ! $
        fpack ! (IsBalanced n (full_weight - n)) (λ _. ftrue) (h₀, h₁) $ fjoin ! $ move ! (3 ∷ 0 ∷ []) $ fjoin ! $
        move ! (2 ∷ 0 ∷ []) $ fjoin ! $
        fpack ! ℕ (state R b o γ x mark a) n $ fpack ! Bool (alive R b o γ x mark a) true $ frame ! $ fjoin ! $
        nothing ! $ fpack ! ((w < n) × (n ≤ full_weight)) (λ _. ftrue) (more, omega arith) $ fjoin ! $
        fpack ! Bool (told R b o γ x mark a w (Kept n) n) false $ done !))

    pub claims : A.inv I ∗ ⟦ Mine ⟧ ⊢ asks 𝓛 (block_ptr b e) (λ n. either (eqb n w) 0 n) always (λ n. tells R b o γ x mark a w (Kept n) n)
    claims = stepped swapped (λ n. tells R b o γ x mark a w (Kept n) n) Mine (λ n fits. dite (ℕ_discrete n w)
        (λ same. stops (last swapped (Kept n) n same (hits n same))) (λ other. goes (stays n other))) dies_with

    -- ---- reunite
    module _ (r : ℕ) (total : w + r ≡ full_weight) where
      abbrev Both : Fml
      Both = fsep Mine (entry γ.names.0 0 r F)

      alone : (n : ℕ) → n ≢ w → ⟦ word b e (swapped n) ⟧ ∗ ⟦ Beside n ⟧ ∗ ⟦ Both ⟧ ⊢ upd 𝓤 (⟦ I ⟧ ∗ ⟦ tells R b o γ x mark a w ffalse n ⟧)
      alone n other = qed 𝓛 (‵ (word b e (swapped n)) ∷ ‵ (Beside n) ∷ ‵ Both ∷ []) ∵ move ! (1 ∷ []) $ fsplit ! $
          drop ! $ fsplit ! $ fpick ! (λ h. let h₀ = h.0 in let h₁ = h.1 in
          drop ! $ fsplit3 ! $ move ! (4 ∷ []) $ fsplit ! $ fsplit ! $
          -- [my entry; my parts; the receipt; the entry; ..]
          move ! (3 ∷ 0 ∷ []) $ use2 𝓛 (given (Fit 𝓛 γ.names.0 F F (full_weight - n) w (n - 1) 0)
          (‵ (entry γ.names.0 ((full_weight - n) + w) ((n - 1) + 0) F)))
          (entry_glue 𝓛 γ.names.0 F F (full_weight - n) w (n - 1) 0) $ learn ! (λ fit. let below = fit.1 in
          move ! (0 ∷ 2 ∷ []) $ use2 𝓛 (given (Fit 𝓛 γ.names.0 F F ((full_weight - n) + w) 0 ((n - 1) + 0) r)
          (‵ (entry γ.names.0 (((full_weight - n) + w) + 0) (((n - 1) + 0) + r) F)))
          (entry_glue 𝓛 γ.names.0 F F ((full_weight - n) + w) 0 ((n - 1) + 0) r) $
          learn ! (λ tight. let at_most = tight.2 in absurd (omega arith))))

      ends_alone : (n : ℕ) → n ≡ w → ⟦ word b e (swapped n) ⟧ ∗ ⟦ Beside n ⟧ ∗ ⟦ Both ⟧ ⊢ A.lft κ full_share
          ∗ (A.dead κ -∗ upd 𝓤 (⟦ I ⟧ ∗ ⟦ tells R b o γ x mark a w ffalse n ⟧))
      ends_alone n same = qed 𝓛 (‵ (word b e (swapped n)) ∷ ‵ (Beside n) ∷ ‵ Both ∷ []) ∵ move ! (2 ∷ []) $ fsplit ! $
          keep ! (2 ∷ 3 ∷ 0 ∷ []) $ by ! (last swapped ffalse n same (hits n same))

      pub reunites : A.inv I ∗ ⟦ Both ⟧ ⊢ asks 𝓛 (block_ptr b e) (λ n. either (eqb n w) 0 n) always (tells R b o γ x mark a w ffalse)
      reunites = stepped swapped (tells R b o γ x mark a w ffalse) Both (λ n fits. dite (ℕ_discrete n w)
          (λ same. stops (ends_alone n same)) (λ other. goes (alone n other)))
          (qed 𝓛 (‵ (fdead κ) ∷ ‵ Both ∷ []) ∵ move ! (1 ∷ []) $ fsplit ! $ keep ! (2 ∷ 0 ∷ []) $ by ! dies_with)
