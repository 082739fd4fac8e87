-- A block is taken apart and made again, and a life begins and ends. Assumes `Logic`.
use Rattle.std.proofs.Common.{◌++◌, ℕ, zero, ◌+◌, ◌-◌, ◌^◌, ◌<◌, ◌≤◌, List, [], ◌∷◌, arith}
use base.Logic.{all_e}
use base.Fml.{Incl, Incl-trans}
use contract.BorrowLft.{meet_⊑_right}
use types.Kit.{‵, raw, ◌⊛◌, some, later, ◌$◌, ◌∵◌, !, qed, by, move, drop, use0, use1, use2, split, split3, join}
use types.Kit.{fsplit, fsplit3, fjoin, fjoin3, fpick, fpack, pick, frame, each, assume, await, updating, now, done}
use Rattle.raw_block.proofs.Walking.{Bool, true, Ura, bare, full_share, Counts-all, SProp, ent, sep, wand, ex, via}
use Rattle.raw_block.proofs.Walking.{apply∗, Lft, GName, Share, Fml, ftrue, fsep, fex, fwand, flft, finv, meet_⊑_left}
use Rattle.raw_block.proofs.Walking.{Logic, sem, basic, RattleType, Val}
use Rattle.raw_block.proofs.Walking.{part_at, cell_at, lone, block_ptr, nothing, Struct, Member, shape_of, word, latest}
use Rattle.raw_block.proofs.Walking.{full_weight, IsBalanced}
use types.Tokens.{lft_new, bor_new, lent_back}
use denote.RattleType.{Denots}
use denote.Laws.{Lawful}
use denote.Memory.{part_of}
use denote.Shares.{Shares}
use denote.Struct.Laws.{u64-laws}
use denote.Struct.Members.{row_of, rows_of, parts_at}
use denote.Struct.Parts.{PartsBack, Struct-parts}
use Rattle.core.proofs.cell.Borrows.{flag}
use Rattle.core.proofs.tally.Steps.{word_out, word_in}
use types.Growing.{latest_new}
use Rattle.raw_block.specs.Views.{Life, LifeNames}
use Rattle.raw_block.specs.Shares.{Log, about, entry, kept, offset, block, content_at, seen, whole_with, state, alive}
use Rattle.raw_block.specs.Shares.{Inv, owned, share_at, freed, name_owns}
use Rattle.raw_block.specs.Heap.{may_free}
use Rattle.raw_block.specs.contracts.block.Block.{the_row}
use Rattle.raw_block.proofs.Entries.{kept_in, kept_cut, entry_new, entry_cut}

module _ {M : Type 1} {𝓤 : Ura M} (𝓛 : Logic 𝓤) where
  open 𝓛 use {H, A}

  abbrev Pr : Type 2
  Pr = SProp 𝓤

  abbrev ◌⊢◌ : Pr → Pr → Type 1
  P ⊢ Q = ent 𝓤 P Q

  abbrev ◌∗◌ : Pr → Pr → Pr
  P ∗ Q = sep 𝓤 P Q

  abbrev ◌-∗◌ : Pr → Pr → Pr
  P -∗ Q = wand 𝓤 P Q

  abbrev ⟦◌⟧ : Fml → Pr
  ⟦ P ⟧ = sem 𝓛 P

  infix 26 ◌⊢◌
  infixr 35 ◌∗◌
  infixr 30 ◌-∗◌
  module _ (m : Member) (L : Lawful 𝓛 (row_of m)) (b o : ℕ) where
    abbrev R : RattleType
    R = row_of m

    abbrev ks : List Member
    ks = flag ∷ m ∷ []

    abbrev Data : RattleType
    Data = Struct (shape_of [] ks)

    abbrev wd : ℕ → Fml
    wd n = part_at (row_of flag) full_share n b (o + 0)

    abbrev Freeing : Fml
    Freeing = may_free (bare (lone (the_row R).mir)) (block_ptr b o)

    abbrev Back : Pr
    Back = PartsBack 𝓛 full_share [] ks b o

    whole : (w : ℕ) (x : R.Denot) → ⟦ part_at Data full_share (w, (x, tt)) b o ⟧
        ⊢ ⟦ part_at (the_row R) full_share (record { word = w; content = x }) b o ⟧
    unfolding part_of
    whole w x = qed 𝓛 (‵ (part_at Data full_share (w, (x, tt)) b o) ∷ []) ∵
        fpick ! (λ vs. fpack ! (List Val) (λ us. fsep (cell_at full_share (the_row R).mir us b o)
        ((the_row R).own_val (record { word = w; content = x }) us)) vs $ done !)

    again : (w : ℕ) (x : R.Denot) → Back ∗ ⟦ Freeing ⟧ ∗ ⟦ fsep (word b (o + 0) w) (content_at R b o x) ⟧ ⊢ ⟦ block R b o w x ⟧
    again w x = qed 𝓛 (raw Back ∷ ‵ Freeing ∷ ‵ (fsep (word b (o + 0) w) (content_at R b o x)) ∷ []) ∵ move ! (2 ∷ []) $
        fsplit ! $ use1 𝓛 (‵ (wd w)) (word_in 𝓛 b (o + 0) w) $ nothing ! $ move ! (1 ∷ 2 ∷ 0 ∷ []) $ fjoin3 ! $
        move ! (1 ∷ []) $
        use1 𝓛 (raw (⟦ parts_at full_share ks zero (w, (x, tt)) b o ⟧ -∗ ⟦ part_at Data full_share (w, (x, tt)) b o ⟧))
        (all_e 𝓤 (λ (a : Denots (rows_of ks)). ⟦ parts_at full_share ks zero a b o ⟧ -∗ ⟦ part_at Data full_share a b o ⟧) (w, (x, tt))) $
        move ! (1 ∷ 0 ∷ []) $ use2 𝓛 (‵ (part_at Data full_share (w, (x, tt)) b o))
        (apply∗ 𝓤 ⟦ parts_at full_share ks zero (w, (x, tt)) b o ⟧ ⟦ part_at Data full_share (w, (x, tt)) b o ⟧) $
        use1 𝓛 (‵ (part_at (the_row R) full_share (record { word = w; content = x }) b o)) (whole w x) $ fjoin ! $
        done !

    pub apart : (w : ℕ) (x : R.Denot) → ⟦ block R b o w x ⟧ ⊢ ⟦ word b (o + 0) w ⟧ ∗ ⟦ content_at R b o x ⟧ ∗ ⟦ whole_with R b o x ⟧
    unfolding part_of
    apart w x = let W : ℕ → Pr = λ n. ⟦ fwand (fsep (word b (o + 0) n) (content_at R b o x)) (block R b o n x) ⟧ in
        qed 𝓛 (‵ (block R b o w x) ∷ []) ∵ fsplit ! $
        use1 𝓛 ((‵ (wd w) ⊛ ‵ (content_at R b o x) ⊛ ‵ ftrue) ⊛ raw Back)
        (Struct-parts 𝓛 full_share [] ks (u64-laws.lawful 𝓛, (L, tt)) (w, (x, tt)) b o) $ split ! $ split3 ! $
        use1 𝓛 (‵ (word b (o + 0) w)) (word_out 𝓛 b (o + 0) w) $ frame ! $ frame ! $ drop ! $
        each ! W (λ n. assume ! (‵ (fsep (word b (o + 0) n) (content_at R b o x))) $ move ! (1 ∷ 2 ∷ 0 ∷ []) $ by ! (again n x))

  module _ (R : RattleType) (b o : ℕ) (x : R.Denot) (mark : ℕ) where
    -- the last share's holder has the block again, and its name
    pub regained : (γ : Life) (a w : ℕ) → ⟦ freed R b o γ x mark a w ⟧ ⊢ H.⇛ (⟦ block R b o 0 x ⟧ ∗ ⟦ name_owns γ.block ⟧)
    regained γ a w = let W : ℕ → Pr = λ n. ⟦ fwand (fsep (word b (o + 0) n) (content_at R b o x)) (block R b o n x) ⟧ in
        qed 𝓛 (‵ (freed R b o γ x mark a w) ∷ []) ∵ updating ! $ fsplit3 ! $ move ! (1 ∷ 2 ∷ []) $ move ! (1 ∷ []) $
        fsplit3 ! $ move ! (3 ∷ 0 ∷ []) $ lent_back ! tt $
        -- [the content; the way back; the name; the word]
        move ! (3 ∷ 0 ∷ []) $ fjoin ! $ move ! (1 ∷ []) $ use1 𝓛 (raw (W 0)) (all_e 𝓤 W 0) $ move ! (1 ∷ 0 ∷ []) $
        use2 𝓛 (‵ (block R b o 0 x)) (apply∗ 𝓤 ⟦ fsep (word b (o + 0) 0) (content_at R b o x) ⟧ ⟦ block R b o 0 x ⟧) $ now ! $ done !

    abbrev life : ℕ → LifeNames → Life
    life m names = record { names = names; block = m }

    abbrev pub Begun : ℕ → Fml
    Begun m = fex LifeNames (λ names. share_at R b o (life m names) x mark full_weight)

    pub begins : (m : ℕ) (l : Lft) → Shares 𝓛 R l → (μ : Lft) (q : Share) → Incl μ l → ⟦ word b (o + 0) full_weight ⟧
        ∗ ⟦ content_at R b o x ⟧ ∗ ⟦ whole_with R b o x ⟧ ∗ ⟦ name_owns m ⟧ ∗ A.lft μ q ⊢ H.⇛ (⟦ Begun m ⟧ ∗ A.lft μ q)
    begins m l shares μ q inc = qed 𝓛 (‵ (word b (o + 0) full_weight) ∷ ‵ (content_at R b o x) ∷ ‵ (whole_with R b o x)
        ∷ ‵ (name_owns m) ∷ ‵ (flft μ q) ∷ []) ∵ updating ! $ lft_new ! tt (λ a. let κ : Lft = a ∷ [] in
        use0 𝓛 (later (some (λ (γ : GName). ‵ (entry γ full_weight (full_weight - 1) (about R x mark a)))))
        (via 𝓤 _ (entry_new 𝓛 full_weight (full_weight - 1) (about R x mark a))
        (basic 𝓛 (ex 𝓤 (λ (γ : GName). ⟦ entry γ full_weight (full_weight - 1) (about R x mark a) ⟧)))) $
        await ! tt $ pick ! (λ g.
        use0 𝓛 (later (some (λ (δ : GName). ‵ (latest Log full_share δ (full_weight ∷ [])))))
        (via 𝓤 _ (latest_new Log 𝓛 (full_weight ∷ []))
        (basic 𝓛 (ex 𝓤 (λ (δ : GName). ⟦ latest Log full_share δ (full_weight ∷ []) ⟧)))) $ await ! tt $
        pick ! (λ δ. let γ : Life = life m (g, δ) in
        fpack ! (List ℕ) (λ k. latest Log full_share δ (k ++ (full_weight ∷ []))) [] $
        move ! (1 ∷ 2 ∷ 3 ∷ 4 ∷ 5 ∷ 6 ∷ 7 ∷ []) $
        use1 𝓛 (‵ (entry γ.names.0 (full_weight - full_weight) (full_weight - 1)
        (about R x mark a)) ⊛ ‵ (entry γ.names.0 full_weight 0 (about R x mark a)))
        (entry_cut 𝓛 γ.names.0 (about R x mark a)
        (full_weight - full_weight) full_weight full_weight (full_weight - 1) 0 (full_weight - 1) (omega arith)
        (omega arith) (omega arith) (omega arith)) $ split ! $
        -- [the entry; my entry; the token; the word; the content; the way back; the name; the token of μ]
        move ! (2 ∷ []) $ use1 𝓛 (‵ (kept a (2 ^ 63))) (kept_in 𝓛 a (2 ^ 63) full_share (Counts-all 63)) $
        use1 𝓛 (‵ (kept a (2 ^ 63 - full_weight)) ⊛ ‵ (kept a full_weight))
        (kept_cut 𝓛 a (2 ^ 63) (2 ^ 63 - full_weight) full_weight (omega arith) (omega arith) (omega arith)
        (omega arith)) $ split ! $
        -- [the parts; my parts; the entry; my entry; the word; the content; the way back; the name; the token of μ]
        move ! (5 ∷ []) $ bor_new ! tt κ $
        -- [the borrow; what is lent; the parts; my parts; the entry; my entry; the word; the way back; the name; ..]
        move ! (1 ∷ 7 ∷ 8 ∷ []) $ fjoin3 ! $ move ! (4 ∷ 2 ∷ 0 ∷ []) $ fjoin3 ! $ nothing ! $
        fpack ! (IsBalanced full_weight (full_weight - full_weight)) (λ _. ftrue) (omega arith, omega arith) $
        fjoin ! $
        -- [beside the word; the borrow; my parts; my entry; the word; the token of μ]
        move ! (6 ∷ 0 ∷ []) $ fjoin ! $ move ! (4 ∷ 0 ∷ []) $ fjoin ! $ fpack ! ℕ (state R b o γ x mark a) full_weight $
        fpack ! Bool (alive R b o γ x mark a) true $
        use1 𝓛 (later (‵ (finv (Inv R b o γ x mark a)))) (𝓛.invs.inv_new (Inv R b o γ x mark a)) $ await ! tt $
        -- [the invariant; the borrow; my parts; my entry; the token of μ]
        move ! (2 ∷ []) $ fpick ! (λ s. fpick ! (λ c. move ! (0 ∷ 4 ∷ []) $ join ! $ move ! (2 ∷ 0 ∷ []) $
        use2 𝓛 (later (‵ (seen R b o x κ) ⊛ ‵ (flft κ s) ⊛ ‵ (flft μ q)))
        (shares x κ ((κ, s) ∷ (μ, q) ∷ []) b (o + offset R) (Incl-trans (meet_⊑_right κ μ) inc) (meet_⊑_left κ μ)) $
        await ! tt $ split3 ! $
        -- [seen; the token; the token of μ; the invariant; my entry]
        move ! (1 ∷ []) $ use1 𝓛 (‵ (kept a full_weight)) (kept_in 𝓛 a full_weight s c) $ move ! (4 ∷ 0 ∷ []) $
        fjoin ! $ move ! (3 ∷ 0 ∷ 1 ∷ []) $ fjoin3 ! $ fpack ! ℕ (λ u. owned R b o γ x mark u full_weight) a $
        nothing ! $ fpack ! ((0 < full_weight) × (full_weight ≤ full_weight)) (λ _. ftrue) (omega arith, omega arith) $
        fjoin ! $ fpack ! LifeNames (λ g. share_at R b o (life m g) x mark full_weight) (g, δ) $ now ! $ done !)))))
