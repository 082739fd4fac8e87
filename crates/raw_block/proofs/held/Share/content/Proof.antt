use Rattle.std.proofs.Common.{◌≡◌, ℕ, ◌+◌, List, [], ◌∷◌, sym, refl, ap, ◌∙◌}
use base.Fml.{fhide}
use types.Kit.{‵, raw, ◌⊛◌, given, at_ret, ◌$◌, ◌∵◌, !, qed, by, move, keep, split, join, fsplit, fjoin, learn, use0, use1, rewrite, feq_i}
use Rattle.raw_block.proofs.Walking.{dnil, a_type, named, Val, vptr, inst_fn, SProp, emp, id⊢, guard_i, Lft, Fml, ftrue}
use Rattle.raw_block.proofs.Walking.{fsep, flft, sem, stop, fld, addr, of_opd, first, blocks, exec, returns, enter}
use Rattle.raw_block.proofs.Walking.{alloc_all, pass_all, free_all}
use Rattle.raw_block.proofs.Walking.{look_at, get, through, sets, env, sub, whole, look_in, tables, fact, fact_i}
use Rattle.raw_block.proofs.Walking.{fact_use, yes, RattleType, owns, types_at, plain, Ptr, InBlock, block_ptr}
use Rattle.raw_block.proofs.Walking.{block_of, count_of, at_block, nothing, peeks}
use Rattle.raw_block.proofs.Walking.{shows, cell_at, param, bounded, param_laws, RefOf, shr_vals, shr_Tells, Stays}
use Rattle.raw_block.proofs.Walking.{stay_dropped, walk_of, Goes-dropped, tail, proved, leaves, Is}
use types.Run.{hop}
use types.ByLocal.{sets_last}
use denote.Steps.{looks, shuts}
use denote.Opens.{unhide}
use denote.Memory.{hidden_shr}
use denote.Struct.Lending.{lent_out}
use Rattle.raw_block.specs.Shares.{offset, share_shares}
use Rattle.raw_block.specs.contracts.held.Share as share
use Rattle.raw_block.proofs.Fields.{alone, Words, told, opened, sees}
use Rattle.raw_block.specs.contracts.held.Share.content.{ended, clauses}
use Rattle.raw_block.specs.contracts.held.Share.content.Key.{name as #self}
use Rattle.raw_block.proofs.held.Share.content.Statement.{statement}
use Rattle.raw_block.proofs.held.Share.content.Code as code

pub content_spec : {M : Type 1} → statement M
content_spec 𝓤 𝓛 𝓜 𝓡 wired X L =
    let H = 𝓛.H in let 𝓣 = tables 𝓤 H 𝓜 𝓡 𝓡.env in let R : RattleType = param 0 X in let En = ended X in
    let c = clauses X 𝓛 𝓜.mem 𝓡.returns in
    let inst = bounded (a_type ∷ []) (X, tt) dnil in let fn = inst_fn inst code.function in
    let closed = code.unfolded 𝓤 H 𝓜 𝓡 wired (X, tt) in let LR = param_laws 0 X L in
    let Sr : RattleType = share.the_row R in let D : RattleType = Words R in
    let self = RefOf (0 ∷ []) tt (plain (λ _. Sr)) (λ _. tt) in
    let hs : Stays En.signature.params En.kept = (stay_dropped self yes, tt) in
    proved 𝓛 En hs c 𝓜 𝓡 (Goes-dropped 𝓛 2 self yes (λ κs x f. refl), tt) (#self inst) fn closed
    (λ κs. (shr_vals, tt)) (λ κs. (shr_Tells (named 0) κs.0 Sr, tt)) (λ κs qs bounds a gh are.
    let b : ℕ = a.0.ref_ptr.0 in let o : ℕ = a.0.ref_ptr.1 in let κ : Lft = κs.0 in let h : Sr.Denot = a.0.now in
    let p : Ptr = h.at in let x : X.Denot = h.content in let mark : ℕ = h.mark in
    let pb : ℕ = block_of p in let po : ℕ = count_of p in let e : ℕ = po + offset R in let others : Fml = fsep (flft κs.1.0 qs.1.0) ftrue in
    let y : (walk_of 𝓛 En hs c).Ghost = ((κs, qs, bounds, a, (vptr b o ∷ [], tt)), gh) in
    let Post : Val → SProp 𝓤 = (walk_of 𝓛 En hs c).post y in
    qed 𝓛 (((‵ (flft κ qs.0) ⊛ ‵ others) ⊛ ‵ (owns (types_at En.signature.params κs) a y.0.4)) ∷ raw ((c κs a).requires gh) ∷ []) ∵
    keep ! (0 ∷ []) $ split ! $ split ! $ move ! (2 ∷ []) $ fsplit ! $ fsplit ! $ keep ! (1 ∷ 3 ∷ 4 ∷ []) $
    enter ! 𝓣.C 𝓣.Λ fn (vptr b o ∷ []) Post $ alloc_all ! (λ l. pass_all ! refl ((tt, tt), tt) $ let Ev = env fn.locals l in
    use1 𝓛 (‵ (hidden_shr D κ (p, tt) b o) ⊛ ‵ (fhide (share_shares R p x κ)))
    (lent_out 𝓛 (share.struct R) (share.the_codes X.Denot R.coded) (share.the_heap R) (share.the_lent R) κ h b o) $
    split ! $ move ! (1 ∷ []) $ unhide ! $ use1 𝓛 (given (InBlock p) (‵ (share_shares R p x κ)))
    (fact_use 𝓤 _ (sees 𝓛 R p x κ) (guard_i 𝓤 (InBlock p) (sem 𝓛 (share_shares R p x κ)))) $ learn ! (λ inb.
    let at : p ≡ block_ptr pb po = at_block p inb in rewrite ! 0 (λ (z : Ptr). ‵ (share_shares R z x κ)) at refl $
    use1 𝓛 (‵ (hidden_shr R κ x pb e)) (id⊢ 𝓤 _) $ move ! (1 ∷ 2 ∷ []) $
    looks ! tt D (opened R 𝓛) (p, tt) b o (λ q vs. move ! (1 ∷ []) $ peeks ! D (Is D) (shows 𝓛 D) (p, tt) vs (λ is_so.
    let ev : vs ≡ alone (block_ptr pb po) ∷ [] = told R p vs is_so ∙ ap (λ (r : Ptr). alone r ∷ []) at in
    rewrite ! 1 (λ (ws : List Val). ‵ (cell_at q D.mir ws b o)) ev refl $ first ! $ blocks ! $
    sets_last ! (addr ! (through ! refl (fld ! refl (hop ! (look_in ! 1 (sub ! 0 refl (whole !)))
    (fld ! refl (stop !)))))) refl (tt, tt) $ exec ! 𝓣.C 𝓣.Λ Ev (tail fn.body) (at_ret Ev Post) $
    sets ! (of_opd ! (get ! refl)) refl (tt, tt) $ rewrite ! 1 (λ (ws : List Val). ‵ (cell_at q D.mir ws b o))
    (sym ev) refl $ move ! (1 ∷ 0 ∷ 2 ∷ []) $ shuts ! tt D q (p, tt) vs b o $
    move ! (0 ∷ 3 ∷ []) $ join ! $ move ! (2 ∷ []) $ feq_i ! (List Val) (vptr pb e ∷ []) (vptr pb e ∷ []) refl $ fjoin ! $
    use0 𝓛 (raw (fact 𝓤 (x ≡ x))) (fact_i 𝓤 (x ≡ x) (emp 𝓤) refl) $ nothing ! $ nothing ! $ fjoin ! $
    returns ! (look_at ! 0 refl) $ free_all ! refl $ keep ! (3 ∷ 0 ∷ 2 ∷ 1 ∷ []) $
    by ! (leaves 𝓛 En hs c y (vptr pb e) (record { ref_ptr = (pb, e); now = x }) (tt, tt) (tt, tt)))))))
