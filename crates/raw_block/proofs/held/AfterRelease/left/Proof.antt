use Rattle.std.proofs.Common.{◌≡◌, ◌≢◌, ℕ, ◌<◌, ◌≤◌, [], ◌∷◌, refl}
use types.Kit.{‵, raw, ◌⊛◌, given, ◌$◌, ◌∵◌, !, qed, by, move, keep, split, fsplit, fjoin, learn, use0, use1}
use Rattle.raw_block.proofs.Walking.{dnil, a_type, Val, inst_fn, SProp, emp, no_more, returns, enter, alloc_all}
use Rattle.raw_block.proofs.Walking.{pass_all, free_all, look_at, sets, agg, tables, fact, fact_i, no, RattleType, owns}
use Rattle.raw_block.proofs.Walking.{types_at, plain, Ptr, nothing, heard}
use Rattle.raw_block.proofs.Walking.{param, bounded, alive, Stays, stay_dropped, walk_of, Goes-dropped, proved, leaves, full_weight}
use Rattle.raw_block.specs.Views.{Life}
use Rattle.raw_block.specs.Shares.{given_back_owns}
use Rattle.raw_block.proofs.Fields.{alone, released_told, typed_any, none, given_back_made}
use Rattle.raw_block.specs.contracts.held.AfterRelease as after_release
use Rattle.raw_block.proofs.Endings as endings
use Rattle.raw_block.specs.contracts.held.AfterRelease.left.{ended, clauses}
use Rattle.raw_block.specs.contracts.held.AfterRelease.left.Key.{name as #self}
use Rattle.raw_block.proofs.held.AfterRelease.left.Statement.{statement}
use Rattle.raw_block.proofs.held.AfterRelease.left.Code as code
use denote.Struct.Struct
use denote.Struct.Owning
use Rattle.raw_block.specs.contracts.held.GivenBack as given_back

pub left_spec : {M : Type 1} → statement M
left_spec 𝓤 𝓛 𝓜 𝓡 wired X L =
    let H = 𝓛.H in let 𝓣 = tables 𝓤 H 𝓜 𝓡 𝓡.env in let R : RattleType = param 0 X in let En = ended X in
    let c = clauses X 𝓛 𝓜.mem 𝓡.returns in
    let inst = bounded (a_type ∷ []) (X, tt) dnil in let fn = inst_fn inst code.function in
    let closed = code.unfolded 𝓤 H 𝓜 𝓡 wired (X, tt) in
    let Pr : RattleType = after_release.the_row R in let Nr : RattleType = given_back.the_row in
    let self = plain (λ _. Pr) in let hs : Stays En.signature.params En.kept = (stay_dropped self no, tt) in
    proved 𝓛 En hs c 𝓜 𝓡 (Goes-dropped 𝓛 1 self no (λ κs x f. refl), tt) (#self inst) fn closed
    (λ κs. ((λ x. alone x.at ∷ []), tt)) (λ κs. ((λ x vs so. released_told R x.at vs so.0), tt)) (λ κs qs bounds a gh are.
    let h : Pr.Denot = a.0 in let p : Ptr = h.at in let x : X.Denot = h.content in let mark : ℕ = h.mark in
    let γ : Life = h.life in let w : ℕ = h.weight in let n : ℕ = h.found in
    let y : (walk_of 𝓛 En hs c).Ghost = ((κs, qs, bounds, a, (alone p ∷ [], tt)), gh) in
    let Post : Val → SProp 𝓤 = (walk_of 𝓛 En hs c).post y in
    qed 𝓛 ((raw (alive 𝓛 En.signature κs qs) ⊛ ‵ (owns (types_at En.signature.params κs) a y.0.4)) ∷ raw (fact 𝓤 _)
    ∷ raw (fact 𝓤 (n ≢ w)) ∷ []) ∵
    keep ! (2 ∷ 0 ∷ []) $ heard ! (n ≢ w) (λ other. split ! $ move ! (1 ∷ []) $ fsplit ! $ fsplit ! $ keep ! (1 ∷ 3 ∷ []) $
    use1 𝓛 (given (endings.Above 𝓛 w n) (‵ (given_back_owns γ mark w))) (endings.release_leaves 𝓛 R γ x mark w n p other) $ learn ! (λ up.
    enter ! 𝓣.C 𝓣.Λ fn (alone p ∷ []) Post $ alloc_all ! (λ l. pass_all ! refl (typed_any p, tt) $
    sets ! (agg ! (no_more !)) refl (tt, tt) $ let d : Nr.Denot = record { weight = w; life = γ; mark = mark } in
    use0 𝓛 (‵ ((denote.Struct.Struct.Struct (denote.Struct.Owning.shape given_back.the_type)).own_val tt (none ∷ [])))
    (given_back_made 𝓛) $ fjoin ! $
    let Told : Type 0 = (w ≡ w) × (γ ≡ γ) × (mark ≡ mark) × (w < n) × (n ≤ full_weight) in
    use0 𝓛 (raw (fact 𝓤 Told)) (fact_i 𝓤 Told (emp 𝓤) (refl, refl, refl, up.0, up.1)) $ nothing ! $ nothing ! $
    fjoin ! $
    returns ! (look_at ! 0 refl) $ free_all ! refl $ keep ! (3 ∷ 0 ∷ 2 ∷ 1 ∷ []) $ by ! (leaves 𝓛 En hs c y none d (tt, tt) (tt, tt))))))
