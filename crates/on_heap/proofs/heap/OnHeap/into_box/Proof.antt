-- `into_box` makes the box again.
use Rattle.std.proofs.Common.{◌≡◌, List, [], ◌∷◌, refl, sym, ap, subst}
use lib.Dec.{T as T'}
use mir.Syntax.{Dict, a_type, dcons, dnil, impl, tcons, tnil}
use mir.Raw.{raw as bare}
use mir.Val.{Val, vptr, has_ty, WT}
use mir.MapTy.{inst_fn}
use base.Fraction.{full_share}
use base.Logic.{SProp, emp, id⊢, guard_i}
use base.Fml.{Lft, Share, ftrue, flft}
use types.Logic.{sem}
use types.Kit.{Item, ‵, raw, ◌⊛◌, given, some, later, at_ret, ◌$◌, ◌∵◌, !, qed, by, move, keep, drop, split, split3}
use types.Kit.{join, fsplit, fjoin, fjoin3, pick, learn, use0, use1, await, feq_i}
use types.Run.{stop, fld, of_opd, no_more, and_then, first, blocks, exec, returns, enter}
use types.ByLocal.{alloc_all, pass_all, free_all, look_at, get, get_in, sets, lands_last, is, env}
use types.Part.{sub, whole}
use contract.Monad.{fact, fact_i, fact_use}
use contract.Running.{tables, tables_of}
use contract.BorrowLft.{◌⊑◌, ⊑_static}
use denote.Exit.{yes, no}
use denote.RattleType.{RattleType, owns}
use denote.RawPtr.{Ptr, InBlock, block_ptr, ptr_val, block_of, count_of, at_block}
use denote.Signature.{types_at, plain}
use denote.Steps.{nothing, only, heard}
use denote.Param.{param, arg, layout, bounded}
use denote.Param.Laws.{Laws, arg_laws}
use denote.Param.NoDrop.{glues}
use denote.Triple.Clauses.{Lasts, lasts}
use denote.Triple.Spec.{triple_of}
use denote.Triple.Call.{calls_at_last}
use denote.Triple.Walked.{Stays, stay_dropped, walk_of, Goes-dropped}
use Rattle.core.proofs.atomic.Steps.{tail}
use Rattle.atomic_table.proofs.Walks.{proved, leaves}
use Rattle.atomic_table.proofs.Calls.{fm}
use Rattle.std_alloc.proofs.BoxSteps.Form as box
use Rattle.std_alloc.proofs.BoxSteps.Steps.{box_out, box_in}
use Rattle.std_alloc.specs.contracts.boxed.Box as boxes
use Rattle.std_heap.specs.contracts.Global as heap
use Rattle.std_heap.proofs.Global.TheLaws as heap_laws
use Rattle.std_heap.proofs.GlobalAllocator.TheImpl.Met as allocator
use Rattle.std_heap.proofs.Handle.{heap_val, heap_Tells}
use Rattle.std_heap.specs.contracts.GlobalAllocator.TheImpl.{ghosts, dict}
use Rattle.on_heap.proofs.Destruct++none.drop.Code as no_drop
use Rattle.on_heap.specs.Heap.{heap_owns}
use Rattle.on_heap.specs.contracts.heap.OnHeap as on_heap
use Rattle.on_heap.proofs.Fields.{alone, typed, heap_told, heap_placed}
use Rattle.std_alloc.specs.contracts.boxed.Box.from_raw as callee
use Rattle.std_alloc.proofs.boxed.Box.from_raw.Met as callee_met
use Rattle.on_heap.specs.contracts.heap.OnHeap.into_box.{ended, clauses}
use Rattle.on_heap.specs.contracts.heap.OnHeap.into_box.Key.{name as #self}
use Rattle.on_heap.proofs.heap.OnHeap.into_box.Statement.{statement}
use Rattle.on_heap.proofs.heap.OnHeap.into_box.Code as code

pub into_box_spec : {M : Type 1} → statement M
unfolding tables_of no_drop.code
into_box_spec {M} 𝓤 𝓛 𝓜 𝓡 wired T L dx glue =
    let H = 𝓛.H in let 𝓣 = tables 𝓤 H 𝓜 𝓡 𝓡.env in let G : RattleType = heap.the_row in
    let Z : RattleType = arg (bare (layout G)) no G in let LZ : Laws Z =
    arg_laws (bare (layout G)) no G heap_laws.the_row_laws refl in let R : RattleType = param 0 T in
    let dd : Dict = impl ("on_heap::Destruct++none::drop" ∷ []) (tcons (layout Z) tnil) dnil in let E : box.Bx = record {
      row = T;
      laws = L;
      al = record { row = Z; laws = LZ; g = ghosts; d = dict; drops = dd };
    } in
    let Br : RattleType = boxes.the_row R G ghosts in let Or : RattleType = on_heap.the_row R in let En = ended T dx in
    let c = clauses T dx 𝓛 𝓜.mem 𝓡.returns in
    let inst = bounded (a_type ∷ []) (T, tt) (dcons dx dnil) in let fn = inst_fn inst code.function in
    let closed = code.unfolded 𝓤 H 𝓜 𝓡 wired (T, tt) dx in
    let passed = allocator.passed 𝓡.env (code.calls-std_heap::GlobalAllocator::allocate 𝓡.env wired)
    (code.calls-std_heap::GlobalAllocator::deallocate 𝓡.env wired)
    (code.calls-std_heap::GlobalAllocator::grow 𝓡.env wired)
    (code.calls-std_heap::GlobalAllocator::shrink 𝓡.env wired) M 𝓤 𝓛 𝓜 𝓡 in
    let drops = glues "on_heap::Destruct++none::drop" 𝓡.env (code.calls-on_heap::Destruct++none::drop 𝓡.env wired) Z LZ M 𝓤 𝓛 𝓜 𝓡 in
    let Call = triple_of 𝓛 (callee.signature T Z ghosts dict dd) (callee.spec T Z ghosts dict dd 𝓛 𝓜.mem 𝓡.returns) in
    let Ce = callee.ended T Z ghosts dict dd in
    let known = callee_met.met 𝓤 𝓛 𝓜 𝓡 (code.calls-std_alloc::boxed::Box::from_raw 𝓡.env wired) T Z L LZ ghosts dict dd passed drops in
    let self = plain (λ _. Or) in let handle = plain (λ _. G) in let hs : Stays En.signature.params En.kept =
    (stay_dropped self no, (stay_dropped handle yes, tt)) in
    proved 𝓛 En hs c 𝓜 𝓡 (Goes-dropped 𝓛 1 self no (λ κs x f. refl), (Goes-dropped 𝓛 1 handle yes (λ κs x f. refl), tt))
    (#self inst) fn closed
    (λ κs. ((λ x. alone x.at ∷ []), ((λ x. heap_val ∷ []), tt))) (λ κs. (
      (λ x vs so. heap_told R x.at vs so.0),
      (heap_Tells, tt),
    )) (λ κs qs bounds a gh are.
    let κ : Lft = κs.0 in let q : Share = qs.0 in let h : Or.Denot = a.0 in let x : T.Denot = h.value in
    let p : Ptr = h.at in let b = block_of p in let o = count_of p in let t : G.Denot = a.1.0 in
    let inT = κ ⊑ T.lives in let inZ = [] ⊑ Z.lives in
    let t₁ : Item 𝓤 = ‵ (flft κ q) in let t₂ : Item 𝓤 = ‵ (flft [] full_share) in
    let y : (walk_of 𝓛 En hs c).Ghost = ((κs, qs, bounds, a, (alone p ∷ [], (heap_val ∷ [], tt))), gh) in
    let Post : Val → SProp 𝓤 = (walk_of 𝓛 En hs c).post y in
    qed 𝓛 (((t₁ ⊛ ‵ ftrue) ⊛ ‵ (owns (types_at En.signature.params κs) a y.0.4)) ∷ raw (fact 𝓤 inT) ∷ ‵ ftrue ∷ []) ∵
    move ! (1 ∷ []) $ heard ! inT (λ within. split ! $ split ! $ move ! (2 ∷ []) $ fsplit ! $ fsplit ! $
    move ! (2 ∷ []) $ fsplit ! $ keep ! (3 ∷ 0 ∷ 4 ∷ []) $
    -- [the value on the heap; the handle; the token]
    use1 𝓛 (given (InBlock p) (‵ (heap_owns R p x))) (fact_use 𝓤 _ (heap_placed 𝓛 R p x)
    (guard_i 𝓤 (InBlock p) (sem 𝓛 (heap_owns R p x)))) $ learn ! (λ inb. let at : p
    ≡ block_ptr b o = at_block p inb in
    enter ! 𝓣.C 𝓣.Λ fn (alone p ∷ heap_val ∷ []) Post $ alloc_all ! (λ l. pass_all ! refl (
      typed p inb,
      ((tt, ((tt, tt), tt)), tt),
    ) $ let Ev = env fn.locals l in
    let made : Call.Ghost = (((κ, ([], tt)), (q, (full_share, tt)), tt, (t, (p, tt)), (heap_val ∷ [], (vptr b o ∷ [], tt))), x) in
    sets ! (is ! (of_opd ! (get_in ! (fld ! refl (stop !)) (sub ! 0 refl (whole !)))) (ap ptr_val at)) refl (tt, tt) $ first ! $ blocks ! $
    use0 𝓛 (raw (fact 𝓤 inZ)) (fact_i 𝓤 inZ (emp 𝓤) (⊑_static [])) $ join ! $
    use0 𝓛 (raw (fact 𝓤 inT)) (fact_i 𝓤 inT (emp 𝓤) within) $ join ! $
    -- [what the call asks; the handle; the token]
    nothing ! $ feq_i ! (List Val) (vptr b o ∷ []) (ptr_val p ∷ []) (ap (λ (z : Ptr). ptr_val z ∷ []) (sym at)) $
    move ! (3 ∷ 0 ∷ 1 ∷ []) $ fjoin3 ! $ move ! (2 ∷ []) $
    nothing ! $ use0 𝓛 t₂ (𝓛.lfts.lft-nil full_share) $ join ! $ move ! (1 ∷ 0 ∷ []) $ join ! $ move ! (0 ∷ 1 ∷ []) $
    join ! $ join ! $ use1 𝓛 (raw (Call.pre made)) (id⊢ 𝓤 _) $
    calls_at_last ! (fm 𝓛 𝓜 𝓡) Call known made (and_then ! (get ! refl) (and_then ! (get ! refl) (no_more !))) (λ u.
    use1 𝓛 (later (some (λ (r : Br.Denot). ((t₁ ⊛ t₂ ⊛ ‵ ftrue) ⊛ ‵ (Br.own_val r (u
    ∷ []))) ⊛ some (λ (ls : Lasts Ce (κ, ([], tt)) (t, (p, tt))). ‵ (lasts Ce (κ, ([], tt))
    (t, (p, tt)) ls) ⊛ (raw (fact 𝓤 (r.value ≡ x)) ⊛ raw (fact 𝓤 (r.alloc ≡ t))))))) (id⊢ 𝓤 _) $
    await ! tt $ pick ! (λ r. split ! $ move ! (1 ∷ []) $ pick ! (λ _. split3 ! $ drop ! $ move ! (1 ∷ []) $ drop ! $
    heard ! (r.value ≡ x) (λ same. split ! $ move ! (1 ∷ []) $
    box_out E ! r (u ∷ []) (λ b' o' hv e' eu fits. box_in E ! r b' o' r.value e' refl $
    let w : Val = box.word E hv b' o' in let good = box.box_typed E hv b' o' fits in
    let is_word : u ≡ w = ap only eu in
    lands_last ! refl (subst (λ (s : Val). T' (has_ty (box.box_ty E) s) × WT s) (sym is_word) good) $
    exec ! 𝓣.C 𝓣.Λ Ev (tail (tail fn.body)) (at_ret Ev Post) $
    sets ! (is ! (of_opd ! (get ! refl)) is_word) refl good $
    -- [the box; the tokens]
    move ! (1 ∷ []) $ split3 ! $ move ! (1 ∷ []) $ drop ! $ join ! $
    use0 𝓛 (raw (fact 𝓤 (r.value ≡ x))) (fact_i 𝓤 (r.value ≡ x) (emp 𝓤) same) $ nothing ! $ nothing ! $ fjoin ! $ nothing ! $ fjoin ! $
    -- [the parameters; the fact; the tokens; the box]
    returns ! (look_at ! 0 refl) $ free_all ! refl $ keep ! (2 ∷ 0 ∷ 3 ∷ 1 ∷ []) $
    by ! (leaves 𝓛 En hs c y w r (tt, (tt, tt)) (tt, (tt, tt))))))))))))
