use Rattle.std.proofs.Common.{◌≡◌, ℕ, ◌+◌, [], ◌∷◌, refl, ap, w32}
use types.Kit.{‵, raw, ◌⊛◌, given, learn, later, ◌$◌, ◌∵◌, !, qed, by, move, keep, split, split3, join, fsplit, fsplit3}
use types.Kit.{fjoin}
use types.Kit.{fpick, use0, use1, await, rewrite, group}
use Rattle.raw_block.proofs.Walking.{dnil, a_type, Val, vint, inst_fn, SProp, emp, id⊢, guard_i, sem, Lft, Share, ftrue}
use Rattle.raw_block.proofs.Walking.{flft, stop, fld, of_opd, no_more, and_then, returns, enter, alloc_all, pass_all}
use Rattle.raw_block.proofs.Walking.{free_all, look_at, get, get_in}
use Rattle.raw_block.proofs.Walking.{sets, is, agg, sub, whole, tables, fact, fact_i, fact_use, ◌⊑◌, yes, no}
use Rattle.raw_block.proofs.Walking.{RattleType, owns, types_at, plain, Ptr, InBlock, block_ptr, ptr_val, block_of}
use Rattle.raw_block.proofs.Walking.{count_of, at_block, uint_vals, uint_Tells}
use Rattle.raw_block.proofs.Walking.{nothing, heard, param, layout, bounded, param_laws, Stays, stay_dropped, walk_of}
use Rattle.raw_block.proofs.Walking.{Goes-dropped, proved, leaves, full_weight, Member, word}
use denote.Builtin.{u32}
use Rattle.raw_block.specs.Shares.{block, content_at, whole_with}
use Rattle.raw_block.specs.Views.{Life}
use Rattle.raw_block.specs.contracts.held.Share as share
use Rattle.raw_block.specs.Heap.{heap_owns}
use Rattle.raw_block.specs.contracts.heap.OnHeap as on_heap
use Rattle.raw_block.specs.contracts.name.Name as name
use Rattle.raw_block.proofs.Fields.{alone, typed, Words, made, heap_told, heap_placed, none, name_told}
use Rattle.raw_block.proofs.Opening as opening
use Rattle.raw_block.specs.contracts.held.Share.begin.{ended, clauses}
use Rattle.raw_block.specs.contracts.held.Share.begin.Key.{name as #self}
use Rattle.raw_block.proofs.held.Share.begin.Statement.{statement}
use Rattle.raw_block.proofs.held.Share.begin.Code as code
use Rattle.raw_block.specs.contracts.block.Block as blocks

pub begin_spec : {M : Type 1} → statement M
begin_spec 𝓤 𝓛 𝓜 𝓡 wired X L =
    let H = 𝓛.H in let 𝓣 = tables 𝓤 H 𝓜 𝓡 𝓡.env in let R : RattleType = param 0 X in let En = ended X in
    let c = clauses X 𝓛 𝓜.mem 𝓡.returns in let LR = param_laws 0 X L in
    let inst = bounded (a_type ∷ []) (X, tt) dnil in let fn = inst_fn inst code.function in
    let closed = code.unfolded 𝓤 H 𝓜 𝓡 wired (X, tt) in
    let Sr : RattleType = share.the_row R in let Q : RattleType = blocks.the_row R in
    let Or : RattleType = on_heap.the_row Q in let m : Member = record { row = R; ty = layout X } in
    let item = plain (λ _. Or) in let number = plain (λ _. u32) in let named = plain (λ _. name.the_row) in
    let hs : Stays En.signature.params En.kept = (
      stay_dropped item no,
      (stay_dropped number yes, (stay_dropped named yes, tt)),
    ) in
    proved 𝓛 En hs c 𝓜 𝓡 (
      Goes-dropped 𝓛 1 item no (λ κs x f. refl),
      (Goes-dropped 𝓛 1 number yes (λ κs x f. refl), (Goes-dropped 𝓛 1 named yes (λ κs x f. refl), tt)),
    )
    (#self inst) fn closed
    (λ κs. ((λ x. alone x.at ∷ []), (uint_vals w32, ((λ x. none ∷ []), tt)))) (λ κs. (
      (λ x vs so. heap_told Q x.at vs so.0),
      (uint_Tells w32, ((λ x vs so. name_told vs so.0), tt)),
    )) (λ κs qs bounds a gh are.
    let κ : Lft = κs.0 in let s : Share = qs.0 in let v : Or.Denot = a.0 in let p : Ptr = v.at in let b = block_of p in
    let o = count_of p in let x : X.Denot = v.value.content in let mark : ℕ = a.1.0 in
    let id : ℕ = a.1.1.0.id in
    let y : (walk_of 𝓛 En hs c).Ghost = ((κs, qs, bounds, a, (alone p ∷ [], (vint w32 mark ∷ [], (none ∷ [], tt)))), gh) in
    let Post : Val → SProp 𝓤 = (walk_of 𝓛 En hs c).post y in let Asked : Type 0 = v.value.word ≡ full_weight in
    qed 𝓛 (((‵ (flft κ s) ⊛ ‵ ftrue) ⊛ ‵ (owns (types_at En.signature.params κs) a y.0.4)) ∷ raw (fact 𝓤 (κ ⊑ X.lives))
    ∷ raw (fact 𝓤 Asked) ∷ []) ∵
    move ! (1 ∷ []) $ heard ! (κ ⊑ X.lives) (λ within_X. move ! (1 ∷ []) $
    heard ! Asked (λ asked. split ! $ split ! $ move ! (2 ∷ []) $ fsplit ! $ fsplit ! $ move ! (2 ∷ []) $ fsplit3 ! $ move ! (1 ∷ []) $ fsplit ! $
    keep ! (5 ∷ 1 ∷ 6 ∷ []) $
    -- [the block on the heap; its name; the token]
    use1 𝓛 (given (InBlock p) (‵ (heap_owns Q p v.value))) (fact_use 𝓤 _ (heap_placed 𝓛 Q p v.value)
    (guard_i 𝓤 (InBlock p) (sem 𝓛 (heap_owns Q p v.value)))) $
    learn ! (λ inb. let q : Ptr = block_ptr b o in let at : p ≡ q = at_block p inb in
    rewrite ! 0 (λ (z : Ptr). ‵ (heap_owns Q z v.value)) at refl $ use1 𝓛 (‵ (block R b o v.value.word x)) (id⊢ 𝓤 _) $
    rewrite ! 0 (λ (k : ℕ). ‵ (block R b o k x)) asked refl $
    use1 𝓛 (‵ (word b (o + 0) full_weight) ⊛ ‵ (content_at R b o x) ⊛ ‵ (whole_with R b o x))
    (opening.apart 𝓛 m (LR.lawful 𝓛) b o full_weight x) $ split3 ! $
    -- [the word; the content; the way back; the name; the token]
    enter ! 𝓣.C 𝓣.Λ fn (alone p ∷ vint w32 mark ∷ none ∷ []) Post $ alloc_all ! (λ l. pass_all ! refl (
      typed p inb,
      ((tt, record { fits = are.1.0.1 }), ((tt, tt), tt)),
    ) $
    group ! 5 $ use1 𝓛 (later (‵ (opening.Begun 𝓛 R b o x mark id) ⊛ ‵ (flft κ s)))
    (opening.begins 𝓛 R b o x mark id X.lives (LR.shares 𝓛) κ s within_X) $ await ! tt $ split ! $ fpick ! (λ names.
    sets ! (is ! (of_opd ! (get_in ! (fld ! refl (stop !)) (sub ! 0 refl (whole !)))) (ap ptr_val at)) refl (tt, tt) $
    sets ! (agg ! (and_then ! (get ! refl) (no_more !))) refl (tt, (tt, tt)) $
    let γ : Life = record { names = names; block = id } in
    let d : Sr.Denot = record { at = q; weight = full_weight; life = γ; mark = mark; content = x } in
    use0 𝓛 (‵ ((Words R).own_val (q, tt) (alone q ∷ []))) (made R 𝓛 q) $ fjoin ! $ move ! (1 ∷ []) $ nothing ! $
    move ! (1 ∷ 0 ∷ []) $ join ! $ move ! (1 ∷ []) $
    let Told : Type 0 = (full_weight ≡ full_weight) × (mark ≡ mark) × (x ≡ x) × (id ≡ id) in
    use0 𝓛 (raw (fact 𝓤 Told)) (fact_i 𝓤 Told (emp 𝓤) (refl, refl, refl, refl)) $ nothing ! $ nothing ! $ fjoin ! $
    nothing ! $ fjoin ! $ nothing ! $ fjoin ! $
    -- [the parameters; the fact; the result; the token]
    returns ! (look_at ! 0 refl) $ free_all ! refl $ keep ! (3 ∷ 0 ∷ 2 ∷ 1 ∷ []) $
    by ! (leaves 𝓛 En hs c y (alone q) d (tt, (tt, (tt, tt))) (tt, (tt, (tt, tt))))))))))
