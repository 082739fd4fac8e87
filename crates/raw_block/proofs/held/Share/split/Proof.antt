use Rattle.std.proofs.Common.{◌≡◌, ℕ, ◌+◌, ◌-◌, ◌<◌, List, [], ◌∷◌, sym, refl, ap, ◌∙◌, w64, arith}
use types.Kit.{‵, raw, ◌⊛◌, given, ◌$◌, ◌∵◌, !, qed, by, move, keep, split, join, fsplit, fsplit3, fjoin, learn, use0, use1, rewrite, group}
use Rattle.raw_block.proofs.Walking.{dnil, a_type, named, Val, vint, inst_fn, full_share, SProp, emp, guard_i, Fml}
use Rattle.raw_block.proofs.Walking.{ftrue, fsep, flft, sem, stop, fld, of_opd, no_more, and_then, returns, enter}
use Rattle.raw_block.proofs.Walking.{alloc_all, pass_all, free_all, look_at, get}
use Rattle.raw_block.proofs.Walking.{through, sets, agg, sub, whole, look_in, tables, fact, fact_i, fact_use, yes}
use Rattle.raw_block.proofs.Walking.{RattleType, plain, Ptr, InBlock, block_ptr, block_of, count_of, at_block, nothing}
use Rattle.raw_block.proofs.Walking.{peeks, heard, opens, closes, shows}
use Rattle.raw_block.proofs.Walking.{cell_at, param, bounded, param_laws, u64, MutRef, mut_vals, mut_Tells, uint_vals}
use Rattle.raw_block.proofs.Walking.{uint_Tells, Stays, stay_dropped, walk_of, Goes-dropped, stay_ref, Goes-ref, proved}
use Rattle.raw_block.proofs.Walking.{leaves}
use types.Run.{load}
use Rattle.raw_block.specs.Views.{Life}
use Rattle.raw_block.specs.Shares.{share_owns}
use Rattle.raw_block.specs.contracts.held.Share as share
use Rattle.raw_block.proofs.Fields.{alone, Words, told, made, owns_placed}
use Rattle.raw_block.proofs.Sharing as sharing
use Rattle.raw_block.specs.contracts.held.Share.split.{ended, clauses}
use Rattle.raw_block.specs.contracts.held.Share.split.Key.{name as #self}
use Rattle.raw_block.proofs.held.Share.split.Statement.{statement}
use Rattle.raw_block.proofs.held.Share.split.Code as code

pub split_spec : {M : Type 1} → statement M
split_spec 𝓤 𝓛 𝓜 𝓡 wired X L =
    let H = 𝓛.H in let 𝓣 = tables 𝓤 H 𝓜 𝓡 𝓡.env in let R : RattleType = param 0 X in let En = ended X in
    let c = clauses X 𝓛 𝓜.mem 𝓡.returns in let LR = param_laws 0 X L in
    let inst = bounded (a_type ∷ []) (X, tt) dnil in let fn = inst_fn inst code.function in
    let closed = code.unfolded 𝓤 H 𝓜 𝓡 wired (X, tt) in
    let Sr : RattleType = share.the_row R in let number = plain (λ _. u64) in
    let hs : Stays En.signature.params En.kept = (
      stay_ref (0 ∷ []) tt (plain (λ _. Sr)),
      (stay_dropped number yes, tt),
    ) in
    proved 𝓛 En hs c 𝓜 𝓡 (Goes-ref 𝓛 2 0 tt (plain (λ _. Sr)), (Goes-dropped 𝓛 2 number yes (λ κs x f. refl), tt)) (#self inst) fn closed
    (λ κs. (mut_vals, (uint_vals w64, tt))) (λ κs. (mut_Tells (named 0) κs.0 Sr, (uint_Tells w64, tt))) (λ κs qs bounds a gh are.
    let b : ℕ = a.0.ref_ptr.0 in let o : ℕ = a.0.ref_ptr.1 in let h : Sr.Denot = a.0.now in let vs = mut_vals a.0 in
    let p : Ptr = h.at in let x : X.Denot = h.content in let mark : ℕ = h.mark in let γ : Life = h.life in
    let w : ℕ = h.weight in let k : ℕ = a.1.0 in
    let y : (walk_of 𝓛 En hs c).Ghost = ((κs, qs, bounds, a, (vs, (vint w64 k ∷ [], tt))), gh) in
    let Post : Val → SProp 𝓤 = (walk_of 𝓛 En hs c).post y in let others : Fml = fsep (flft κs.1.0 qs.1.0) ftrue in
    let Asked : Type 0 = (0 < k) × (k < w) in
    qed 𝓛 (((‵ (flft κs.0 qs.0) ⊛ ‵ others) ⊛ ‵ ((MutRef (named 0) κs.0 Sr).own_val a.0 vs) ⊛ ‵ (fsep (u64.own_val k (vint w64 k ∷ [])) ftrue)) ∷ raw (fact 𝓤 _) ∷ raw (fact 𝓤 Asked) ∷ []) ∵
    keep ! (2 ∷ 0 ∷ []) $ heard ! Asked (λ asked. split ! $ split ! $ move ! (2 ∷ []) $ split ! $ keep ! (0 ∷ 2 ∷ 3 ∷ []) $
    enter ! 𝓣.C 𝓣.Λ fn _ Post $ alloc_all ! (λ l. pass_all ! refl ((tt, tt), ((tt, record { fits = are.1.0.1 }), tt)) $
    fsplit3 ! $ move ! (1 ∷ 2 ∷ 3 ∷ []) $ opens ! tt Sr b o (λ us. move ! (1 ∷ []) $
    peeks ! Sr _ (shows 𝓛 Sr) h us (λ is_so. fsplit ! $ move ! (1 ∷ []) $
    -- [what it owns; its field; the cell; the open borrow, in three entries; the first part; the other tokens]
    use1 𝓛 (given (InBlock p) (‵ (share_owns R p γ x mark w))) (fact_use 𝓤 _ (owns_placed 𝓛 R p γ x mark w)
    (guard_i 𝓤 (InBlock p) (sem 𝓛 (share_owns R p γ x mark w)))) $
    learn ! (λ inb. let q : Ptr = block_ptr (block_of p) (count_of p) in let at : p ≡ q = at_block p inb in
    use1 𝓛 (‵ (share_owns R p γ x mark (w - k)) ⊛ ‵ (share_owns R p γ x mark k))
    (sharing.shares_cut 𝓛 R LR.shr_laws p γ x mark w k asked.0 asked.1) $ split ! $
    let word : us ≡ alone q ∷ [] = told R p us is_so.0 ∙ ap (λ (r : Ptr). alone r ∷ []) at in
    let Cell = λ (ws : List Val). ‵ (cell_at full_share Sr.mir ws b o) in rewrite ! 3 Cell word refl $
    sets ! (of_opd ! (load ! (through ! refl (fld ! refl (stop !))) (look_in ! 3 (sub ! 0 refl (whole !))))) refl (tt, tt) $
    sets ! (agg ! (and_then ! (get ! refl) (no_more !))) refl (tt, (tt, tt)) $ rewrite ! 3 Cell (sym word) refl $
    -- [what is kept; what is given; its field; the cell; ..]
    move ! (2 ∷ 0 ∷ []) $ fjoin ! $ move ! (2 ∷ 0 ∷ []) $ let e : Sr.Denot = record h { weight = w - k } in
    let d : Sr.Denot = record { at = q; weight = k; life = γ; content = x; mark = mark } in
    move ! (0 ∷ 1 ∷ 3 ∷ 4 ∷ 5 ∷ []) $ closes ! tt Sr e us b o $
    -- [two parts of self; the token; what is given; self's first part; the other tokens]
    move ! (4 ∷ 0 ∷ 1 ∷ []) $ group ! 3 $ nothing ! $ nothing ! $ fjoin ! $ move ! (1 ∷ 0 ∷ []) $ join ! $
    -- [self and the rest; the token; what is given; the other tokens]
    move ! (2 ∷ []) $ rewrite ! 0 (λ (r : Ptr). ‵ (share_owns R r γ x mark k)) at refl $
    use0 𝓛 (‵ ((Words R).own_val (q, tt) (alone q ∷ []))) (made R 𝓛 q) $ fjoin ! $
    -- [the result; self and the rest; the token; the other tokens]
    move ! (2 ∷ 3 ∷ []) $ join ! $
    let Given : Type 0 = (k ≡ k) × (γ ≡ γ) × (mark ≡ mark) × (x ≡ x) in
    let Left : Type 0 = ((w - k) + k ≡ w) × (γ ≡ γ) × (mark ≡ mark) × (x ≡ x) in
    let less = asked.1 in use0 𝓛 (raw (fact 𝓤 Left)) (fact_i 𝓤 Left (emp 𝓤) (omega arith, refl, refl, refl)) $
    use0 𝓛 (raw (fact 𝓤 Given)) (fact_i 𝓤 Given (emp 𝓤) (refl, refl, refl, refl)) $ join ! $
    returns ! (look_at ! 0 refl) $ free_all ! refl $ keep ! (1 ∷ 3 ∷ 2 ∷ 0 ∷ []) $
    by ! (leaves 𝓛 En hs c y (alone q) d (e, (tt, tt)) (tt, (tt, tt)))))))))
