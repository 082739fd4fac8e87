use Rattle.std.proofs.Common.{◌≡◌, ℕ, ◌+◌, ◌≤◌, List, [], ◌∷◌, refl}
use types.Kit.{‵, raw, ◌⊛◌, given, ◌$◌, ◌∵◌, !, qed, by, move, keep, split, join, fsplit, fsplit3, fjoin, learn, use0}
use types.Kit.{use2, rewrite, feq_i, group}
use Rattle.raw_block.proofs.Walking.{dnil, a_type, named, Val, vunit, inst_fn, SProp, emp, Fml, ftrue, fsep, flft}
use Rattle.raw_block.proofs.Walking.{of_opd, returns, enter, alloc_all, pass_all, free_all, look_at, sets, tables, fact}
use Rattle.raw_block.proofs.Walking.{fact_i, no, RattleType, plain, Ptr}
use Rattle.raw_block.proofs.Walking.{nothing, heard, opens, closes, param, bounded, MutRef, mut_vals, mut_Tells, Stays}
use Rattle.raw_block.proofs.Walking.{stay_dropped, walk_of, Goes-dropped, stay_ref, Goes-ref, proved, leaves}
use Rattle.raw_block.proofs.Walking.{full_weight, unit_lit}
use Rattle.raw_block.specs.Views.{Life}
use Rattle.raw_block.specs.Shares.{share_owns}
use Rattle.raw_block.specs.contracts.held.Share as share
use Rattle.raw_block.proofs.Fields.{alone, told, typed_any}
use Rattle.raw_block.proofs.Sharing as sharing
use Rattle.raw_block.specs.contracts.held.Share.join.{ended, clauses}
use Rattle.raw_block.specs.contracts.held.Share.join.Key.{name as #self}
use Rattle.raw_block.proofs.held.Share.join.Statement.{statement}
use Rattle.raw_block.proofs.held.Share.join.Code as code

pub join_spec : {M : Type 1} → statement M
join_spec 𝓤 𝓛 𝓜 𝓡 wired X L =
    let H = 𝓛.H in let 𝓣 = tables 𝓤 H 𝓜 𝓡 𝓡.env in let R : RattleType = param 0 X in let En = ended X in
    let c = clauses X 𝓛 𝓜.mem 𝓡.returns in
    let inst = bounded (a_type ∷ []) (X, tt) dnil in let fn = inst_fn inst code.function in
    let closed = code.unfolded 𝓤 H 𝓜 𝓡 wired (X, tt) in
    let Sr : RattleType = share.the_row R in let item = plain (λ _. Sr) in
    let hs : Stays En.signature.params En.kept = (
      stay_ref (0 ∷ []) tt (plain (λ _. Sr)),
      (stay_dropped item no, tt),
    ) in
    proved 𝓛 En hs c 𝓜 𝓡 (Goes-ref 𝓛 2 0 tt (plain (λ _. Sr)), (Goes-dropped 𝓛 2 item no (λ κs x f. refl), tt)) (#self inst) fn closed
    (λ κs. (mut_vals, ((λ x. alone x.at ∷ []), tt))) (λ κs. (
      mut_Tells (named 0) κs.0 Sr,
      ((λ x vs so. told R x.at vs so.0), tt),
    )) (λ κs qs bounds a gh are.
    let b : ℕ = a.0.ref_ptr.0 in let o : ℕ = a.0.ref_ptr.1 in let h : Sr.Denot = a.0.now in let vs = mut_vals a.0 in
    let p : Ptr = h.at in let x : X.Denot = h.content in let mark : ℕ = h.mark in let γ : Life = h.life in
    let w : ℕ = h.weight in let d : Sr.Denot = a.1.0 in
    let y : (walk_of 𝓛 En hs c).Ghost = ((κs, qs, bounds, a, (vs, (alone d.at ∷ [], tt))), gh) in
    let Post : Val → SProp 𝓤 = (walk_of 𝓛 En hs c).post y in let others : Fml = fsep (flft κs.1.0 qs.1.0) ftrue in
    qed 𝓛 (((‵ (flft κs.0 qs.0) ⊛ ‵ others) ⊛ ‵ ((MutRef (named 0) κs.0 Sr).own_val a.0 vs) ⊛ ‵ (fsep (Sr.own_val d (alone d.at ∷ [])) ftrue)) ∷ raw (fact 𝓤 _) ∷ raw (fact 𝓤 (d.life ≡ γ)) ∷ []) ∵
    keep ! (2 ∷ 0 ∷ []) $ heard ! (d.life ≡ γ) (λ same. split ! $ split ! $ move ! (2 ∷ []) $ split ! $
    move ! (1 ∷ []) $ fsplit ! $ fsplit ! $ keep ! (1 ∷ 3 ∷ 4 ∷ 5 ∷ []) $
    rewrite ! 0 (λ (g : Life). ‵ (share_owns R d.at g d.content d.mark d.weight)) same refl $
    enter ! 𝓣.C 𝓣.Λ fn _ Post $ alloc_all ! (λ l. pass_all ! refl ((tt, tt), (typed_any d.at, tt)) $
    -- [theirs; self; the token; the other tokens]
    move ! (1 ∷ []) $ fsplit3 ! $ move ! (1 ∷ 2 ∷ 4 ∷ []) $ opens ! tt Sr b o (λ us. move ! (1 ∷ []) $ fsplit ! $ move ! (1 ∷ 7 ∷ []) $
    -- [mine; theirs; its field; the cell; the open borrow, in three entries; the first part; the other tokens]
    use2 𝓛 (given (sharing.Agreed 𝓛 x d.content mark d.mark w d.weight) (‵ (share_owns R p γ x mark (w + d.weight))))
    (sharing.shares_join 𝓛 R p d.at γ x d.content mark d.mark w d.weight) $
    learn ! (λ agreed. move ! (1 ∷ 0 ∷ []) $ fjoin ! $ move ! (1 ∷ []) $
    let e : Sr.Denot = record h { weight = w + d.weight } in closes ! tt Sr e us b o $ sets ! (of_opd ! (unit_lit !)) refl (tt, tt) $
    move ! (3 ∷ 0 ∷ 1 ∷ []) $ group ! 3 $ nothing ! $ nothing ! $ fjoin ! $ move ! (1 ∷ 0 ∷ []) $ join ! $ move ! (1 ∷ 2 ∷ []) $ join ! $
    feq_i ! (List Val) (vunit ∷ []) (vunit ∷ []) refl $ let Joined : Type 0 = (w + d.weight ≡ w + d.weight)
    × (w + d.weight ≤ full_weight) × (γ ≡ γ) × (mark ≡ mark) × (x ≡ x) in
    let Agree : Type 0 = (d.mark ≡ mark) × (d.content ≡ x) in
    use0 𝓛 (raw (fact 𝓤 Agree)) (fact_i 𝓤 Agree (emp 𝓤) (agreed.1, agreed.2)) $
    use0 𝓛 (raw (fact 𝓤 Joined)) (fact_i 𝓤 Joined (emp 𝓤) (refl, agreed.0, refl, refl, refl)) $ join ! $
    returns ! (look_at ! 0 refl) $ free_all ! refl $ keep ! (2 ∷ 3 ∷ 1 ∷ 0 ∷ []) $
    by ! (leaves 𝓛 En hs c y vunit tt (e, (tt, tt)) (tt, (tt, tt))))))))
