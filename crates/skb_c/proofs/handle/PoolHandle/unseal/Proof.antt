-- The address again, of a value.
use Rattle.std.specs.Prelude.{Option, Some, None, IsSome}
use Rattle.std.proofs.Common.{◌≡◌, ℕ, [], ◌∷◌, refl, ap}
use Rattle.std.proofs.lemmas.Bool.{false≢true}
use mir.Val.{Val}
use base.Logic.{SProp, emp, guard_i}
use types.Logic.{sem}
use types.Kit.{‵, raw, ◌⊛◌, given, ◌$◌, ◌∵◌, !, qed, by, move, keep, split, fsplit, fjoin, learn, use0, use1}
use types.Kit.{rewrite}
use types.Run.{stop, fld, of_opd, no_more, and_then, returns, enter}
use types.ByLocal.{alloc_all, pass_all, free_all, look_at, get, get_in, sets, is}
use types.Part.{agg, sub, whole}
use contract.Running.{tables}
use contract.Monad.{fact, fact_i, fact_use}
use denote.Exit.{yes}
use denote.RattleType.{RattleType, owns}
use denote.Signature.{types_at, plain}
use denote.RawPtr.{Ptr, InBlock, block_ptr, ptr_val, block_of, count_of, at_block}
use denote.Steps.{nothing, heard}
use denote.Triple.Entry.{alive}
use denote.Triple.Walked.{Stays, stay_dropped, walk_of, Goes-dropped}
use Rattle.atomic_table.proofs.Walks.{proved, leaves}
use Rattle.on_heap.specs.Heap.{heap_owns, heap_owns_any}
use Rattle.skb_c.specs.contracts.depot.Depot as depots
use Rattle.on_heap.specs.contracts.heap.OnHeap as on_heap
use Rattle.skb_c.specs.contracts.handle.PoolHandle as handles
use Rattle.on_heap.proofs.Fields.{alone, typed, heap_made, heap_placed}
use Rattle.skb_c.proofs.Fields.{pool_told}
use Rattle.on_heap.proofs.Fields.{Heap_words}
use Rattle.skb_c.specs.contracts.handle.PoolHandle.unseal.{ended, clauses}
use Rattle.skb_c.specs.contracts.handle.PoolHandle.unseal.Key.{name as #self}
use Rattle.skb_c.proofs.handle.PoolHandle.unseal.Statement.{statement}
use Rattle.skb_c.proofs.handle.PoolHandle.unseal.Code as code

some_of : {A : Type 0} (o : Option A) → IsSome o → (x : A) × (o ≡ Some x)
some_of None s = absurd (false≢true s)
some_of (Some x) s = (x, refl)

pub unseal_spec : {M : Type 1} → statement M
unseal_spec 𝓤 𝓛 𝓜 𝓡 wired =
    let H = 𝓛.H in let 𝓣 = tables 𝓤 H 𝓜 𝓡 𝓡.env in let En = ended in let c = clauses 𝓛 𝓜.mem 𝓡.returns in
    let fn = code.function in let closed = code.unfolded 𝓤 H 𝓜 𝓡 wired in
    let Q : RattleType = depots.the_row in let Or : RattleType = on_heap.the_row Q in
    let Hr : RattleType = handles.the_row in let self = plain (λ _. Hr) in
    let hs : Stays En.signature.params En.kept = (stay_dropped self yes, tt) in
    proved 𝓛 En hs c 𝓜 𝓡 (Goes-dropped 𝓛 0 self yes (λ κs x f. refl), tt) #self fn closed
    (λ κs. ((λ x. alone x.at ∷ []), tt)) (λ κs. ((λ x vs so. pool_told x.at vs so.0), tt)) (λ κs qs bounds a gh are.
    let h : Hr.Denot = a.0 in let p : Ptr = h.at in let b : ℕ = block_of p in let o : ℕ = count_of p in
    let m : Option Q.Denot = h.value in
    let y : (walk_of 𝓛 En hs c).Ghost = ((κs, qs, bounds, a, (alone p ∷ [], tt)), gh) in
    let Post : Val → SProp 𝓤 = (walk_of 𝓛 En hs c).post y in
    qed 𝓛 ((raw (alive 𝓛 En.signature κs qs) ⊛ ‵ (owns (types_at En.signature.params κs) a y.0.4)) ∷ raw (fact 𝓤 (IsSome m)) ∷ []) ∵
    move ! (1 ∷ []) $ heard ! (IsSome m) (λ made. let v : Q.Denot = (some_of m made).0 in
    let same : m ≡ Some v = (some_of m made).1 in split ! $ move ! (1 ∷ []) $ fsplit ! $ fsplit ! $
    keep ! (1 ∷ 3 ∷ []) $
    rewrite ! 0 (λ (z : Option Q.Denot). ‵ (heap_owns_any Q p z)) same refl $
    use1 𝓛 (given (InBlock p) (‵ (heap_owns Q p v))) (fact_use 𝓤 _ (heap_placed 𝓛 Q p v) (guard_i 𝓤 (InBlock p) (sem 𝓛 (heap_owns Q p v)))) $
    learn ! (λ inb. let q : Ptr = block_ptr b o in let at : p ≡ q = at_block p inb in
    rewrite ! 0 (λ (z : Ptr). ‵ (heap_owns Q z v)) at refl $
    enter ! 𝓣.C 𝓣.Λ fn (alone p ∷ []) Post $ alloc_all ! (λ l. pass_all ! refl (typed p inb, tt) $
    sets ! (is ! (of_opd ! (get_in ! (fld ! refl (stop !)) (sub ! 0 refl (whole !)))) (ap ptr_val at)) refl (tt, tt) $
    sets ! (of_opd ! (get ! refl)) refl (tt, tt) $
    sets ! (agg ! (and_then ! (get ! refl) (no_more !))) refl (tt, (tt, tt)) $
    use0 𝓛 (‵ ((Heap_words Q).own_val (q, tt) (alone q ∷ []))) (heap_made Q 𝓛 q) $ fjoin ! $
    let d : Or.Denot = record { at = q; value = v } in
    let Told : Type 0 = m ≡ Some v in use0 𝓛 (raw (fact 𝓤 Told)) (fact_i 𝓤 Told (emp 𝓤) same) $ nothing ! $
    nothing ! $ fjoin ! $
    returns ! (look_at ! 0 refl) $ free_all ! refl $ keep ! (3 ∷ 0 ∷ 2 ∷ 1 ∷ []) $
    by ! (leaves 𝓛 En hs c y (alone q) d (tt, tt) (tt, tt))))))
