use Rattle.std.proofs.Common.{◌≡◌, ◌≢◌, ℕ, ◌<◌, ◌≤◌, List, [], ◌∷◌, ◌++◌, refl, ap}
use types.Kit.{‵, raw, ◌⊛◌, given, ◌$◌, ◌∵◌, !, qed, by, move, keep, split, join, fsplit, fjoin, fjoin3, fpack, learn}
use types.Kit.{use0, use1, rewrite, feq_i}
use Rattle.raw_block.proofs.Walking.{dnil, a_type, Val, vstruct, vcons, vnil, of_list, inst_fn, SProp, emp, guard_i}
use Rattle.raw_block.proofs.Walking.{fsep, feq, sem, stop, fld, of_opd, no_more, and_then, returns, enter, alloc_all}
use Rattle.raw_block.proofs.Walking.{pass_all, free_all, look_at, get}
use Rattle.raw_block.proofs.Walking.{get_in, sets, is, agg, sub, whole, tables, fact, fact_i, fact_use, no, RattleType}
use Rattle.raw_block.proofs.Walking.{Valss, owns, types_at, plain, Ptr, InBlock, block_ptr, ptr_val, block_of, count_of}
use Rattle.raw_block.proofs.Walking.{at_block, nothing, heard, param}
use Rattle.raw_block.proofs.Walking.{bounded, alive, Stays, stay_dropped, walk_of, Goes-dropped, proved, leaves, full_weight}
use Rattle.raw_block.specs.Views.{Life}
use Rattle.raw_block.specs.Shares.{share_owns, claimed_owns, seen_owns}
use Rattle.raw_block.specs.contracts.held.Share as share
use Rattle.raw_block.proofs.Fields.{alone, typed, Words, made, claimed_told, claimed_placed, none, word_seen_made}
use Rattle.raw_block.specs.contracts.held.AfterClaim as after_claim
use Rattle.raw_block.proofs.Endings as endings
use Rattle.raw_block.specs.contracts.held.AfterClaim.lost.{ended, clauses}
use Rattle.raw_block.specs.contracts.held.AfterClaim.lost.Key.{name as #self}
use Rattle.raw_block.proofs.held.AfterClaim.lost.Statement.{statement}
use Rattle.raw_block.proofs.held.AfterClaim.lost.Code as code
use denote.Struct.Struct
use denote.Struct.Owning
use Rattle.raw_block.specs.contracts.held.WordSeen as word_seen

pub lost_spec : {M : Type 1} → statement M
lost_spec 𝓤 𝓛 𝓜 𝓡 wired X L =
    let H = 𝓛.H in let 𝓣 = tables 𝓤 H 𝓜 𝓡 𝓡.env in let R : RattleType = param 0 X in let En = ended X in
    let c = clauses X 𝓛 𝓜.mem 𝓡.returns in
    let inst = bounded (a_type ∷ []) (X, tt) dnil in let fn = inst_fn inst code.function in
    let closed = code.unfolded 𝓤 H 𝓜 𝓡 wired (X, tt) in
    let Pr : RattleType = after_claim.the_row R in let Sr : RattleType = share.the_row R in
    let Gr : RattleType = word_seen.the_row in let self = plain (λ _. Pr) in
    let hs : Stays En.signature.params En.kept = (stay_dropped self no, tt) in
    proved 𝓛 En hs c 𝓜 𝓡 (Goes-dropped 𝓛 1 self no (λ κs x f. refl), tt) (#self inst) fn closed
    (λ κs. ((λ x. alone x.at ∷ []), tt)) (λ κs. ((λ x vs so. claimed_told R x.at vs so.0), tt)) (λ κs qs bounds a gh are.
    let h : Pr.Denot = a.0 in let p : Ptr = h.at in let x : X.Denot = h.content in let mark : ℕ = h.mark in
    let γ : Life = h.life in let w : ℕ = h.weight in let n : ℕ = h.found in
    let y : (walk_of 𝓛 En hs c).Ghost = ((κs, qs, bounds, a, (alone p ∷ [], tt)), gh) in
    let Post : Val → SProp 𝓤 = (walk_of 𝓛 En hs c).post y in
    qed 𝓛 ((raw (alive 𝓛 En.signature κs qs) ⊛ ‵ (owns (types_at En.signature.params κs) a y.0.4)) ∷ raw (fact 𝓤 _)
    ∷ raw (fact 𝓤 (n ≢ w)) ∷ []) ∵
    keep ! (2 ∷ 0 ∷ []) $ heard ! (n ≢ w) (λ other. split ! $ move ! (1 ∷ []) $ fsplit ! $ fsplit ! $ keep ! (1 ∷ 3 ∷ []) $
    use1 𝓛 (given (InBlock p) (‵ (claimed_owns R p γ x mark w n)))
    (fact_use 𝓤 _ (claimed_placed 𝓛 R p γ x mark w n) (guard_i 𝓤 (InBlock p)
    (sem 𝓛 (claimed_owns R p γ x mark w n)))) $ learn ! (λ inb. let q : Ptr = block_ptr (block_of p) (count_of p) in
    let at : p ≡ q = at_block p inb in
    use1 𝓛 (given (endings.Above 𝓛 w n) (‵ (share_owns R p γ x mark w) ⊛ ‵ (seen_owns γ n)))
    (endings.claim_leaves 𝓛 R γ x mark w n p other) $ learn ! (λ up. split ! $
    rewrite ! 0 (λ (z : Ptr). ‵ (share_owns R z γ x mark w)) at refl $
    enter ! 𝓣.C 𝓣.Λ fn (alone p ∷ []) Post $ alloc_all ! (λ l. pass_all ! refl (typed p inb, tt) $
    sets ! (is ! (of_opd ! (get_in ! (fld ! refl (stop !)) (sub ! 0 refl (whole !)))) (ap ptr_val at)) refl (tt, tt) $
    sets ! (agg ! (and_then ! (get ! refl) (no_more !))) refl (tt, (tt, tt)) $
    sets ! (agg ! (no_more !)) refl (tt, tt) $ sets ! (agg ! (and_then ! (get ! refl)
    (and_then ! (get ! refl) (no_more !)))) refl (tt, ((tt, tt), (tt, tt))) $
    let d : Sr.Denot = record { at = q; weight = w; life = γ; content = x; mark = mark } in
    let s : Gr.Denot = record { total = n; life = γ } in let v : Val =
    vstruct (vcons (alone q) (vcons none vnil)) in
    use0 𝓛 (‵ ((Words R).own_val (q, tt) (alone q ∷ []))) (made R 𝓛 q) $ fjoin ! $ move ! (1 ∷ []) $
    use0 𝓛 (‵ ((denote.Struct.Struct.Struct (denote.Struct.Owning.shape word_seen.the_type)).own_val tt (none ∷ [])))
    (word_seen_made 𝓛) $ fjoin ! $ nothing ! $ move ! (2 ∷ 1 ∷ 0 ∷ []) $ fjoin3 ! $
    feq_i ! (List Val) (v ∷ []) (v ∷ []) refl $ fjoin ! $
    fpack ! (Valss (Sr ∷ Gr ∷ [])) (λ uss. fsep (feq (List Val) (v ∷ [])
    (vstruct (of_list (uss.0 ++ (uss.1.0 ++ []))) ∷ [])) (owns (Sr ∷ Gr ∷ []) (d, (s, tt)) uss))
    (alone q ∷ [], (none ∷ [], tt)) $
    let Told : Type 0 = (w ≡ w) × (γ ≡ γ) × (mark ≡ mark) × (x ≡ x) in
    let Seen : Type 0 = (γ ≡ γ) × (n ≡ n) × (w < n) × (n ≤ full_weight) in
    use0 𝓛 (raw (fact 𝓤 Seen)) (fact_i 𝓤 Seen (emp 𝓤) (refl, refl, up.0, up.1)) $
    use0 𝓛 (raw (fact 𝓤 Told)) (fact_i 𝓤 Told (emp 𝓤) (refl, refl, refl, refl)) $ join ! $ nothing ! $ nothing ! $
    fjoin ! $
    returns ! (look_at ! 0 refl) $ free_all ! refl $ keep ! (3 ∷ 0 ∷ 2 ∷ 1 ∷ []) $ by ! (leaves 𝓛 En hs c y v (d, s) (tt, tt) (tt, tt)))))))
