use Rattle.std.proofs.Common.{◌≡◌, ℕ, ◌+◌, ◌<◌, List, [], ◌∷◌, refl}
use types.Kit.{‵, raw, ◌⊛◌, given, ◌$◌, ◌∵◌, !, qed, by, move, keep, split, join, fsplit, fsplit3, fjoin, learn, use0}
use types.Kit.{use2, rewrite, feq_i, group}
use Rattle.raw_block.proofs.Walking.{named, Val, vunit, SProp, emp, ftrue, fsep, flft, of_opd, returns, enter}
use Rattle.raw_block.proofs.Walking.{alloc_all, pass_all, free_all, look_at, sets, tables, fact, fact_i, yes}
use Rattle.raw_block.proofs.Walking.{RattleType, plain, nothing, heard, opens, closes}
use Rattle.raw_block.proofs.Walking.{MutRef, mut_vals, mut_Tells, Stays, stay_dropped, walk_of, Goes-dropped, stay_ref}
use Rattle.raw_block.proofs.Walking.{Goes-ref, proved, leaves, full_weight, unit_lit}
use Rattle.raw_block.specs.Views.{Life}
use Rattle.raw_block.specs.Shares.{given_back_owns}
use Rattle.raw_block.proofs.Sharing as sharing
use Rattle.raw_block.specs.contracts.held.GivenBack.add.{ended, clauses}
use Rattle.raw_block.specs.contracts.held.GivenBack.add.Key.{name as #self}
use Rattle.raw_block.proofs.held.GivenBack.add.Statement.{statement}
use Rattle.raw_block.proofs.held.GivenBack.add.Code as code
use Rattle.raw_block.specs.contracts.held.GivenBack as given_back
use Rattle.raw_block.proofs.Fields.{none, given_back_told}

pub add_spec : {M : Type 1} → statement M
add_spec 𝓤 𝓛 𝓜 𝓡 wired =
    let H = 𝓛.H in let 𝓣 = tables 𝓤 H 𝓜 𝓡 𝓡.env in let En = ended in let c = clauses 𝓛 𝓜.mem 𝓡.returns in
    let fn = code.function in let closed = code.unfolded 𝓤 H 𝓜 𝓡 wired in
    let Sr : RattleType = given_back.the_row in let item = plain (λ _. Sr) in
    let hs : Stays En.signature.params En.kept = (
      stay_ref (0 ∷ []) tt (plain (λ _. Sr)),
      (stay_dropped item yes, tt),
    ) in
    proved 𝓛 En hs c 𝓜 𝓡 (Goes-ref 𝓛 1 0 tt (plain (λ _. Sr)), (Goes-dropped 𝓛 1 item yes (λ κs x f. refl), tt)) #self fn closed
    (λ κs. (mut_vals, ((λ x. none ∷ []), tt))) (λ κs. (
      mut_Tells (named 0) κs.0 Sr,
      ((λ x vs so. given_back_told vs so.0), tt),
    )) (λ κs qs bounds a gh are.
    let b : ℕ = a.0.ref_ptr.0 in let o : ℕ = a.0.ref_ptr.1 in let h : Sr.Denot = a.0.now in let vs = mut_vals a.0 in
    let γ : Life = h.life in let r : ℕ = h.weight in let mark : ℕ = h.mark in let d : Sr.Denot = a.1.0 in
    let y : (walk_of 𝓛 En hs c).Ghost = ((κs, qs, bounds, a, (vs, (none ∷ [], tt))), gh) in
    let Post : Val → SProp 𝓤 = (walk_of 𝓛 En hs c).post y in
    qed 𝓛 (((‵ (flft κs.0 qs.0) ⊛ ‵ ftrue) ⊛ ‵ ((MutRef (named 0) κs.0 Sr).own_val a.0 vs) ⊛ ‵ (fsep (Sr.own_val d (none
    ∷ [])) ftrue)) ∷ raw (fact 𝓤 (d.life ≡ γ)) ∷ []) ∵
    move ! (1 ∷ []) $ heard ! (d.life ≡ γ) (λ same. split ! $ split ! $ move ! (2 ∷ []) $ split ! $ move ! (1 ∷ []) $
    fsplit ! $ fsplit ! $ keep ! (1 ∷ 3 ∷ 4 ∷ 5 ∷ []) $
    rewrite ! 0 (λ (g : Life). ‵ (given_back_owns g d.mark d.weight)) same refl $
    enter ! 𝓣.C 𝓣.Λ fn _ Post $ alloc_all ! (λ l. pass_all ! refl ((tt, tt), ((tt, tt), tt)) $
    move ! (1 ∷ []) $ fsplit3 ! $ move ! (1 ∷ 2 ∷ 4 ∷ []) $ opens ! tt Sr b o (λ us. move ! (1 ∷ []) $ fsplit ! $ move ! (1 ∷ 7 ∷ []) $
    use2 𝓛 (given ((r + d.weight < full_weight) × (d.mark ≡ mark)) (‵ (given_back_owns γ mark (r + d.weight))))
    (sharing.given_back_join 𝓛 γ mark d.mark r d.weight) $ learn ! (λ agreed. move ! (1 ∷ 0 ∷ []) $ fjoin ! $
    move ! (1 ∷ []) $
    let e : Sr.Denot = record h { weight = r + d.weight } in closes ! tt Sr e us b o $ sets ! (of_opd ! (unit_lit !)) refl (tt, tt) $
    move ! (3 ∷ 0 ∷ 1 ∷ []) $ group ! 3 $ nothing ! $ nothing ! $ fjoin ! $ move ! (1 ∷ 0 ∷ []) $ join ! $ move ! (1 ∷ 2 ∷ []) $ join ! $
    feq_i ! (List Val) (vunit ∷ []) (vunit ∷ []) refl $ let Added : Type 0 = (r + d.weight ≡ r + d.weight)
    × (r + d.weight < full_weight) × (γ ≡ γ) × (mark ≡ mark) in let Agree : Type 0 = d.mark ≡ mark in
    use0 𝓛 (raw (fact 𝓤 Agree)) (fact_i 𝓤 Agree (emp 𝓤) agreed.1) $
    use0 𝓛 (raw (fact 𝓤 Added)) (fact_i 𝓤 Added (emp 𝓤) (refl, agreed.0, refl, refl)) $ join ! $
    returns ! (look_at ! 0 refl) $ free_all ! refl $ keep ! (2 ∷ 3 ∷ 1 ∷ 0 ∷ []) $
    by ! (leaves 𝓛 En hs c y vunit tt (e, (tt, tt)) (tt, (tt, tt))))))))
