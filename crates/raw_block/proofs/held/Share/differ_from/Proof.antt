use Rattle.std.proofs.Common.{◌≡◌, ◌≢◌, ℕ, List, [], ◌∷◌, refl}
use types.Kit.{‵, raw, ◌⊛◌, later, ◌$◌, ◌∵◌, !, qed, by, move, keep, drop, split, join, fsplit, fsplit3, fjoin, fpick}
use types.Kit.{use0, use2, await, feq_i, group}
use Rattle.raw_block.proofs.Walking.{dnil, a_type, named, Val, vunit, inst_fn, SProp, emp, Fml, ftrue, fsep, flft}
use Rattle.raw_block.proofs.Walking.{of_opd, returns, enter, unit_lit, alloc_all, pass_all, free_all, look_at, sets}
use Rattle.raw_block.proofs.Walking.{tables, fact, fact_i, RattleType, plain, Ptr, nothing, opens, closes, param}
use Rattle.raw_block.proofs.Walking.{bounded, MutRef, mut_vals, mut_Tells, Stays, walk_of, stay_ref, Goes-ref}
use Rattle.raw_block.proofs.Walking.{proved, leaves}
use Rattle.raw_block.specs.Views.{Life}
use Rattle.raw_block.specs.Shares.{share_owns}
use Rattle.raw_block.specs.contracts.held.Share as share
use Rattle.raw_block.specs.contracts.name.Name as name
use Rattle.raw_block.proofs.Beside as sides
use Rattle.raw_block.specs.contracts.held.Share.differ_from.{ended, clauses}
use Rattle.raw_block.specs.contracts.held.Share.differ_from.Key.{name as #self}
use Rattle.raw_block.proofs.held.Share.differ_from.Statement.{statement}
use Rattle.raw_block.proofs.held.Share.differ_from.Code as code

pub differ_from_spec : {M : Type 1} → statement M
differ_from_spec 𝓤 𝓛 𝓜 𝓡 wired X L =
    let H = 𝓛.H in let 𝓣 = tables 𝓤 H 𝓜 𝓡 𝓡.env in let R : RattleType = param 0 X in let En = ended X in
    let c = clauses X 𝓛 𝓜.mem 𝓡.returns in
    let inst = bounded (a_type ∷ []) (X, tt) dnil in let fn = inst_fn inst code.function in
    let closed = code.unfolded 𝓤 H 𝓜 𝓡 wired (X, tt) in
    let Sr : RattleType = share.the_row R in let Nr : RattleType = name.the_row in
    let hs : Stays En.signature.params En.kept = (
      stay_ref (0 ∷ []) tt (plain (λ _. Sr)),
      (stay_ref (1 ∷ []) tt (plain (λ _. Nr)), tt),
    ) in
    proved 𝓛 En hs c 𝓜 𝓡 (Goes-ref 𝓛 3 0 tt (plain (λ _. Sr)), (Goes-ref 𝓛 3 1 tt (plain (λ _. Nr)), tt)) (#self inst) fn closed
    (λ κs. (mut_vals, (mut_vals, tt))) (λ κs. (mut_Tells (named 0) κs.0 Sr, (mut_Tells (named 1) κs.1.0 Nr, tt))) (λ κs qs bounds a gh are.
    let b : ℕ = a.0.ref_ptr.0 in let o : ℕ = a.0.ref_ptr.1 in let h : Sr.Denot = a.0.now in let vs = mut_vals a.0 in
    let b' : ℕ = a.1.0.ref_ptr.0 in let o' : ℕ = a.1.0.ref_ptr.1 in let h' : Nr.Denot = a.1.0.now in let vs' = mut_vals a.1.0 in
    let p : Ptr = h.at in let x : X.Denot = h.content in let mark : ℕ = h.mark in let γ : Life = h.life in
    let w : ℕ = h.weight in let m : ℕ = h'.id in let others : Fml = fsep (flft κs.1.1.0 qs.1.1.0) ftrue in
    let y : (walk_of 𝓛 En hs c).Ghost = ((κs, qs, bounds, a, (vs, (vs', tt))), gh) in
    let Post : Val → SProp 𝓤 = (walk_of 𝓛 En hs c).post y in
    qed 𝓛 (((‵ (flft κs.0 qs.0) ⊛ ‵ (flft κs.1.0 qs.1.0) ⊛ ‵ others) ⊛ ‵ ((MutRef (named 0) κs.0 Sr).own_val a.0 vs) ⊛ ‵ (fsep ((MutRef (named 1) κs.1.0 Nr).own_val a.1.0 vs') ftrue))
    ∷ raw ((c κs a).requires gh) ∷ []) ∵
    keep ! (0 ∷ []) $ split ! $ split ! $ move ! (1 ∷ []) $ split ! $ move ! (3 ∷ []) $ split ! $ move ! (1 ∷ []) $ fsplit ! $
    -- [the name's; true; mine; its token; the other tokens; my token]
    keep ! (2 ∷ 0 ∷ 5 ∷ 3 ∷ 4 ∷ []) $
    enter ! 𝓣.C 𝓣.Λ fn _ Post $ alloc_all ! (λ l. pass_all ! refl ((tt, tt), ((tt, tt), tt)) $
    -- [mine; the name's; my token; its token; the other tokens]
    fsplit3 ! $ move ! (1 ∷ 2 ∷ 4 ∷ []) $ opens ! tt Sr b o (λ us.
    move ! (6 ∷ []) $ fsplit3 ! $ move ! (1 ∷ 2 ∷ 9 ∷ []) $ opens ! tt Nr b' o' (λ ws.
    -- [the cell'; own'; the open borrow' in three; first part'; the cell; own; the open borrow in three; first part; ..]
    move ! (7 ∷ []) $ fsplit ! $ move ! (3 ∷ []) $ fsplit ! $
    -- [fields'; the name; fields; the share; ..]
    move ! (3 ∷ 1 ∷ []) $ use2 𝓛 (later (‵ (sides.Told 𝓛 γ m (share_owns R p γ x mark w))))
    (sides.beside 𝓛 R p γ x mark w m) $ await ! tt $ fsplit3 ! $ fpick ! (λ other. drop ! $
    -- [the share; the name; fields'; fields; the cell'; the open borrow' in three; first part'; the cell; ..]
    move ! (2 ∷ 1 ∷ []) $ fjoin ! $ move ! (3 ∷ 0 ∷ 4 ∷ 5 ∷ 6 ∷ []) $ closes ! tt Nr h' ws b' o' $
    -- [two parts'; its token; the share; fields; first part'; the cell; the open borrow in three; first part; ..]
    move ! (5 ∷ 0 ∷ 1 ∷ []) $ group ! 3 $
    -- [the name's; its token; the share; fields; the cell; the open borrow in three; first part; the other tokens]
    move ! (3 ∷ 2 ∷ []) $ fjoin ! $ move ! (3 ∷ 0 ∷ 4 ∷ 5 ∷ 6 ∷ []) $ closes ! tt Sr h us b o $
    -- [two parts; my token; the name's; its token; first part; the other tokens]
    move ! (5 ∷ 0 ∷ 1 ∷ []) $ group ! 3 $
    -- [mine; my token; the name's; its token; the other tokens]
    sets ! (of_opd ! (unit_lit !)) refl (tt, tt) $
    move ! (2 ∷ []) $ nothing ! $ move ! (1 ∷ 0 ∷ []) $ join ! $ move ! (1 ∷ 0 ∷ []) $ join ! $
    -- [both; my token; its token; the other tokens]
    move ! (1 ∷ 2 ∷ 3 ∷ []) $ group ! 3 $
    feq_i ! (List Val) (vunit ∷ []) (vunit ∷ []) refl $ let Names : Type 0 = γ.block ≢ m in
    let Same : Type 0 = (h ≡ h) × (m ≡ m) in
    use0 𝓛 (raw (fact 𝓤 Same)) (fact_i 𝓤 Same (emp 𝓤) (refl, refl)) $ use0 𝓛 (raw (fact 𝓤 Names)) (fact_i 𝓤 Names (emp 𝓤) other) $ join ! $
    returns ! (look_at ! 0 refl) $ free_all ! refl $ keep ! (2 ∷ 3 ∷ 1 ∷ 0 ∷ []) $
    by ! (leaves 𝓛 En hs c y vunit tt (h, (h', tt)) (tt, (tt, tt))))))))
