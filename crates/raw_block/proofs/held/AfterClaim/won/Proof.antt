use Rattle.std.proofs.Common.{◌≡◌, ℕ, List, [], ◌∷◌, ◌++◌, refl, ap}
use types.Kit.{‵, raw, ◌⊛◌, given, later, ◌$◌, ◌∵◌, !, qed, by, move, keep, split, fsplit, fjoin, fjoin3, fpack, learn}
use types.Kit.{use0, use1, await, rewrite, feq_i}
use Rattle.raw_block.proofs.Walking.{vstruct, vcons, vnil, of_list, fsep, feq, Valss}
use Rattle.raw_block.proofs.Walking.{dnil, a_type, Val, inst_fn, SProp, emp, guard_i, sem, stop, fld, of_opd, no_more}
use Rattle.raw_block.proofs.Walking.{and_then, returns, enter, alloc_all, pass_all, free_all, look_at, get, get_in}
use Rattle.raw_block.proofs.Walking.{sets, is, agg, sub, whole, tables, fact}
use Rattle.raw_block.proofs.Walking.{fact_i, fact_use, no, RattleType, owns, types_at, plain, Ptr, InBlock, block_ptr}
use Rattle.raw_block.proofs.Walking.{ptr_val, block_of, count_of, at_block, nothing, heard, param, bounded, alive}
use Rattle.raw_block.proofs.Walking.{Stays, stay_dropped, walk_of}
use Rattle.raw_block.proofs.Walking.{Goes-dropped, proved, leaves}
use Rattle.raw_block.specs.Heap.{heap_owns}
use Rattle.raw_block.specs.Shares.{claimed_owns, name_owns}
use Rattle.raw_block.specs.Views.{Life}
use Rattle.raw_block.specs.contracts.block.Block as blocks
use Rattle.raw_block.specs.contracts.heap.OnHeap as on_heap
use Rattle.raw_block.specs.contracts.name.Name as name
use Rattle.raw_block.specs.contracts.held.AfterClaim as after_claim
use Rattle.raw_block.proofs.Endings as endings
use Rattle.raw_block.proofs.Fields.{alone, typed, claimed_told, claimed_placed, Heap_words, heap_made, none, name_made}
use Rattle.raw_block.specs.contracts.held.AfterClaim.won.{ended, clauses}
use Rattle.raw_block.specs.contracts.held.AfterClaim.won.Key.{name as #self}
use Rattle.raw_block.proofs.held.AfterClaim.won.Statement.{statement}
use Rattle.raw_block.proofs.held.AfterClaim.won.Code as code
use denote.Struct.Struct
use denote.Struct.Owning

pub won_spec : {M : Type 1} → statement M
won_spec 𝓤 𝓛 𝓜 𝓡 wired X L =
    let H = 𝓛.H in let 𝓣 = tables 𝓤 H 𝓜 𝓡 𝓡.env in let R : RattleType = param 0 X in let En = ended X in
    let c = clauses X 𝓛 𝓜.mem 𝓡.returns in
    let inst = bounded (a_type ∷ []) (X, tt) dnil in let fn = inst_fn inst code.function in
    let closed = code.unfolded 𝓤 H 𝓜 𝓡 wired (X, tt) in
    let Pr : RattleType = after_claim.the_row R in let Q : RattleType = blocks.the_row R in
    let Or : RattleType = on_heap.the_row Q in let Nr : RattleType = name.the_row in let self = plain (λ _. Pr) in
    let hs : Stays En.signature.params En.kept = (stay_dropped self no, tt) in
    proved 𝓛 En hs c 𝓜 𝓡 (Goes-dropped 𝓛 1 self no (λ κs x f. refl), tt) (#self inst) fn closed
    (λ κs. ((λ x. alone x.at ∷ []), tt)) (λ κs. ((λ x vs so. claimed_told R x.at vs so.0), tt)) (λ κs qs bounds a gh are.
    let h : Pr.Denot = a.0 in let p : Ptr = h.at in let b : ℕ = block_of p in let o : ℕ = count_of p in
    let x : X.Denot = h.content in let mark : ℕ = h.mark in let γ : Life = h.life in let w : ℕ = h.weight in
    let n : ℕ = h.found in let m : ℕ = γ.block in
    let y : (walk_of 𝓛 En hs c).Ghost = ((κs, qs, bounds, a, (alone p ∷ [], tt)), gh) in
    let Post : Val → SProp 𝓤 = (walk_of 𝓛 En hs c).post y in
    qed 𝓛 ((raw (alive 𝓛 En.signature κs qs) ⊛ ‵ (owns (types_at En.signature.params κs) a y.0.4)) ∷ raw (fact 𝓤 _)
    ∷ raw (fact 𝓤 (n ≡ w)) ∷ []) ∵
    keep ! (2 ∷ 0 ∷ []) $ heard ! (n ≡ w) (λ same. split ! $ move ! (1 ∷ []) $ fsplit ! $ fsplit ! $ keep ! (1 ∷ 3 ∷ []) $
    use1 𝓛 (given (InBlock p) (‵ (claimed_owns R p γ x mark w n)))
    (fact_use 𝓤 _ (claimed_placed 𝓛 R p γ x mark w n) (guard_i 𝓤 (InBlock p)
    (sem 𝓛 (claimed_owns R p γ x mark w n)))) $ learn ! (λ inb. let q : Ptr = block_ptr b o in
    let at : p ≡ q = at_block p inb in
    enter ! 𝓣.C 𝓣.Λ fn (alone p ∷ []) Post $ alloc_all ! (λ l. pass_all ! refl (typed p inb, tt) $
    let v : Q.Denot = record { word = 0; content = x } in
    use1 𝓛 (later (‵ (heap_owns Q p v) ⊛ ‵ (name_owns m))) (endings.claim_ends 𝓛 R γ x mark w n p same) $ await ! tt $ split ! $
    rewrite ! 0 (λ (z : Ptr). ‵ (heap_owns Q z v)) at refl $
    sets ! (is ! (of_opd ! (get_in ! (fld ! refl (stop !)) (sub ! 0 refl (whole !)))) (ap ptr_val at)) refl (tt, tt) $
    sets ! (agg ! (and_then ! (get ! refl) (no_more !))) refl (tt, (tt, tt)) $
    sets ! (agg ! (no_more !)) refl (tt, tt) $
    sets ! (agg ! (and_then ! (get ! refl) (and_then ! (get ! refl) (no_more !)))) refl (tt, ((tt, tt), (tt, tt))) $
    let d : Or.Denot = record { at = q; value = v } in let e : Nr.Denot = record { id = m } in
    let u : Val = vstruct (vcons (alone q) (vcons none vnil)) in
    use0 𝓛 (‵ ((Heap_words Q).own_val (q, tt) (alone q ∷ []))) (heap_made Q 𝓛 q) $ fjoin ! $ move ! (1 ∷ []) $
    use0 𝓛 (‵ ((denote.Struct.Struct.Struct (denote.Struct.Owning.shape name.the_type)).own_val tt (none ∷ [])))
    (name_made 𝓛) $ fjoin ! $ nothing ! $ move ! (2 ∷ 1 ∷ 0 ∷ []) $ fjoin3 ! $
    feq_i ! (List Val) (u ∷ []) (u ∷ []) refl $ fjoin ! $
    fpack ! (Valss (Or ∷ Nr ∷ [])) (λ uss. fsep (feq (List Val) (u ∷ [])
    (vstruct (of_list (uss.0 ++ (uss.1.0 ++ []))) ∷ [])) (owns (Or ∷ Nr ∷ []) (d, (e, tt)) uss))
    (alone q ∷ [], (none ∷ [], tt)) $
    let Told : Type 0 = (0 ≡ 0) × (x ≡ x) × (m ≡ m) in
    use0 𝓛 (raw (fact 𝓤 Told)) (fact_i 𝓤 Told (emp 𝓤) (refl, refl, refl)) $
    nothing ! $ nothing ! $ fjoin ! $
    returns ! (look_at ! 0 refl) $ free_all ! refl $ keep ! (3 ∷ 0 ∷ 2 ∷ 1 ∷ []) $
    by ! (leaves 𝓛 En hs c y u (d, e) (tt, tt) (tt, tt))))))
