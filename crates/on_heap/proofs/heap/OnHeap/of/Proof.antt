-- `of` takes the memory out of the box.
use Rattle.std.proofs.Common.{◌≡◌, List, [], ◌∷◌, ◌++◌, refl, sym, ap, ◌∙◌, subst}
use mir.Syntax.{Dict, a_type, dcons, dnil, impl, tcons, tnil}
use mir.Raw.{raw as bare}
use mir.Val.{Val}
use mir.MapTy.{inst_fn}
use base.Fraction.{full_share}
use base.Logic.{SProp, ent, emp, never, id⊢, fst∗}
use base.Fml.{Lft, Share, ftrue, flft}
use prog.Wp.{WpFn}
use types.Logic.{sem}
use types.Kit.{Item, ‵, raw, ◌⊛◌, some, later, ◌$◌, ◌∵◌, !, qed, by, move, keep, drop, split, split3, join, fsplit}
use types.Kit.{fjoin, pick, suffices, use0, use1, await, feq_l}
use types.Run.{of_opd, no_more, and_then, returns, enter}
use types.ByLocal.{alloc_all, pass_all, free_all, look_at, get, sets, lands_as}
use types.Part.{agg}
use contract.Monad.{fact, fact_i}
use contract.Running.{tables, tables_of}
use contract.BorrowLft.{◌⊑◌, ⊑_static}
use denote.Builtin.{RawPtr}
use denote.Exit.{no}
use denote.RattleType.{RattleType, owns}
use denote.RawPtr.{Ptr, block_ptr, null_ptr, ptr_val, in_a_block}
use denote.Signature.{types_at, plain}
use denote.Steps.{nothing, only, heard}
use denote.Param.{param, arg, layout, bounded}
use denote.Param.Laws.{Laws, arg_laws}
use denote.Param.NoDrop.{glues}
use denote.Triple.Clauses.{Lasts, lasts}
use denote.Triple.Spec.{triple_of}
use denote.Triple.Call.{calls_at}
use denote.Triple.Walked.{Stays, stay_dropped, walk_of}
use Rattle.core.proofs.alloc.Calls.{Goes-blank}
use Rattle.atomic_table.proofs.Walks.{proved_at, leaves}
use Rattle.atomic_table.proofs.Calls.{fm}
use Rattle.std_alloc.proofs.BoxSteps.Form as box
use Rattle.std_alloc.proofs.BoxSteps.Steps.{box_out, box_in}
use Rattle.std_alloc.specs.contracts.boxed.Box as boxes
use Rattle.std_heap.specs.contracts.Global as heap
use Rattle.std_heap.proofs.Global.TheLaws as heap_laws
use Rattle.std_heap.proofs.GlobalAllocator.TheImpl.Met as allocator
use Rattle.std_heap.specs.contracts.GlobalAllocator.TheImpl.{ghosts, dict}
use Rattle.on_heap.proofs.Destruct++none.drop.Code as no_drop
use Rattle.on_heap.specs.Heap.{may_free, heap_owns}
use Rattle.on_heap.specs.contracts.heap.OnHeap as on_heap
use Rattle.on_heap.proofs.Fields.{alone, Heap_words, heap_made}
use Rattle.std_alloc.specs.contracts.boxed.Box.into_raw as callee
use Rattle.std_alloc.proofs.boxed.Box.into_raw.Met as callee_met
use Rattle.on_heap.specs.contracts.heap.OnHeap.of.{ended, clauses}
use Rattle.on_heap.specs.contracts.heap.OnHeap.of.Key.{name as #self}
use Rattle.on_heap.proofs.heap.OnHeap.of.Statement.{statement}
use Rattle.on_heap.proofs.heap.OnHeap.of.Code as code

pub of_spec : {M : Type 1} → statement M
unfolding tables_of no_drop.code
of_spec {M} 𝓤 𝓛 𝓜 𝓡 wired T L dx glue =
    let H = 𝓛.H in let 𝓣 = tables 𝓤 H 𝓜 𝓡 𝓡.env in let G : RattleType = heap.the_row in
    let Z : RattleType = arg (bare (layout G)) no G in let LZ : Laws Z =
    arg_laws (bare (layout G)) no G heap_laws.the_row_laws refl in let R : RattleType = param 0 T in
    let dd : Dict = impl ("on_heap::Destruct++none::drop" ∷ []) (tcons (layout Z) tnil) dnil in let E : box.Bx = record {
      row = T;
      laws = L;
      al = record { row = Z; laws = LZ; g = ghosts; d = dict; drops = dd };
    } in
    let Br : RattleType = boxes.the_row R G ghosts in let Or : RattleType = on_heap.the_row R in let En = ended T dx in
    let c = clauses T dx 𝓛 𝓜.mem 𝓡.returns in
    let inst = bounded (a_type ∷ []) (T, tt) (dcons dx dnil) in let fn = inst_fn inst code.function in
    let closed = code.unfolded 𝓤 H 𝓜 𝓡 wired (T, tt) dx in
    let passed = allocator.passed 𝓡.env (code.calls-std_heap::GlobalAllocator::allocate 𝓡.env wired)
    (code.calls-std_heap::GlobalAllocator::deallocate 𝓡.env wired)
    (code.calls-std_heap::GlobalAllocator::grow 𝓡.env wired)
    (code.calls-std_heap::GlobalAllocator::shrink 𝓡.env wired) M 𝓤 𝓛 𝓜 𝓡 in
    let drops = glues "on_heap::Destruct++none::drop" 𝓡.env (code.calls-on_heap::Destruct++none::drop 𝓡.env wired) Z LZ M 𝓤 𝓛 𝓜 𝓡 in
    let Call = triple_of 𝓛 (callee.signature T Z ghosts dict dd dx)
    (callee.spec T Z ghosts dict dd dx 𝓛 𝓜.mem 𝓡.returns) in let Ce = callee.ended T Z ghosts dict dd dx in
    let known = callee_met.met 𝓤 𝓛 𝓜 𝓡 (code.calls-std_alloc::boxed::Box::into_raw 𝓡.env wired) T Z L LZ ghosts dict dd dx passed drops glue in
    let hs : Stays En.signature.params En.kept = (stay_dropped (plain (λ _. Br)) no, tt) in
    proved_at 𝓛 En hs c 𝓜 𝓡 (Goes-blank 𝓛 1 (plain (λ _. Br)) no (λ κs x f. tt), tt) (#self inst) fn closed (λ z are.
    let κ : Lft = z.0.0.0 in let q : Share = z.0.1.0 in let v : Br.Denot = z.0.3.0 in let x : T.Denot = v.value in
    let inT = κ ⊑ T.lives in let inZ = [] ⊑ Z.lives in
    let t₁ : Item 𝓤 = ‵ (flft κ q) in let t₂ : Item 𝓤 = ‵ (flft [] full_share) in
    let Post : Val → SProp 𝓤 = (walk_of 𝓛 En hs c).post z in let Run : List Val
    → SProp 𝓤 = λ ws. WpFn 𝓤 H 𝓣.C 𝓣.Λ fn ws Post in
    qed 𝓛 (((t₁ ⊛ ‵ ftrue) ⊛ ‵ (owns (types_at En.signature.params z.0.0) z.0.3 z.0.4)) ∷ raw (fact 𝓤 inT) ∷ ‵ ftrue ∷ []) ∵
    move ! (1 ∷ []) $ heard ! inT (λ within. split ! $ split ! $ move ! (2 ∷ []) $ fsplit ! $
    box_out E ! v z.0.4.0 (λ b o hv e ws fits. box_in E ! v b o x e refl $ keep ! (0 ∷ 2 ∷ []) $
    let w : Val = box.word E hv b o in let good = box.box_typed E hv b o fits in
    let y : Call.Ghost = (((κ, ([], tt)), (q, (full_share, tt)), tt, (v, tt), (w ∷ [], tt)), tt) in
    suffices ! (Run (w ∷ [])) (subst (λ (us : List Val). ent 𝓤 (Run (w ∷ [])) (Run us)) (sym (λ i. ws i ++ [])) (id⊢ 𝓤 (Run (w ∷ [])))) $
    enter ! 𝓣.C 𝓣.Λ fn (w ∷ []) Post $ alloc_all ! (λ l. pass_all ! refl (good, tt) $ sets ! (of_opd ! (get ! refl)) refl good $
    -- [the box; the token]
    nothing ! $ move ! (1 ∷ 0 ∷ []) $ fjoin ! $ move ! (1 ∷ []) $ nothing ! $ use0 𝓛 t₂ (𝓛.lfts.lft-nil full_share) $
    join ! $ move ! (1 ∷ 0 ∷ []) $ join ! $ move ! (0 ∷ 1 ∷ []) $ join ! $
    nothing ! $ use0 𝓛 (raw (fact 𝓤 inZ)) (fact_i 𝓤 inZ (emp 𝓤) (⊑_static [])) $ join ! $
    use0 𝓛 (raw (fact 𝓤 inT)) (fact_i 𝓤 inT (emp 𝓤) within) $ join ! $ move ! (1 ∷ 0 ∷ []) $ join ! $
    use1 𝓛 (raw (Call.pre y)) (id⊢ 𝓤 _) $
    calls_at ! (fm 𝓛 𝓜 𝓡) Call known y (and_then ! (get ! refl) (no_more !)) (λ u.
    use1 𝓛 (later (some (λ (r : Ptr). ((t₁ ⊛ t₂ ⊛ ‵ ftrue) ⊛ ‵ (RawPtr.own_val r (u
    ∷ []))) ⊛ some (λ (ls : Lasts Ce (κ, ([], tt)) (v, tt)). ‵ (lasts Ce (κ, ([], tt))
    (v, tt) ls) ⊛ ‵ (heap_owns R r x))))) (id⊢ 𝓤 _) $
    await ! tt $ pick ! (λ r. split ! $ move ! (1 ∷ []) $ pick ! (λ _. split ! $ drop ! $
    in_a_block ! r (λ p. heap_owns R p x) (fst∗ 𝓤 (never 𝓤) (sem 𝓛 (may_free (bare (layout T)) null_ptr)))
    (λ b' o' e'.
    move ! (1 ∷ []) $ split ! $ move ! (1 ∷ []) $ feq_l ! (λ eu. let p : Ptr = block_ptr b' o' in
    lands_as ! (ap only (eu ∙ ap (λ (z : Ptr). ptr_val z ∷ []) e')) refl (tt, tt) $
    sets ! (agg ! (and_then ! (get ! refl) (no_more !))) refl (tt, (tt, tt)) $
    -- [the tokens; the value on the heap]
    split3 ! $ move ! (1 ∷ []) $ drop ! $ move ! (2 ∷ 0 ∷ 1 ∷ []) $
    use0 𝓛 (‵ ((Heap_words R).own_val (p, tt) (alone p ∷ []))) (heap_made R 𝓛 p) $ fjoin ! $ move ! (1 ∷ 2 ∷ []) $
    join ! $
    let Told : Type 0 = x ≡ x in use0 𝓛 (raw (fact 𝓤 Told)) (fact_i 𝓤 Told (emp 𝓤) refl) $ nothing ! $ nothing ! $ fjoin ! $
    -- [the parameters; the fact; the tokens; the result]
    returns ! (look_at ! 0 refl) $ free_all ! refl $ keep ! (2 ∷ 0 ∷ 3 ∷ 1 ∷ []) $
    by ! (leaves 𝓛 En hs c z (alone p) (record { at = p; value = x }) (tt, tt) (tt, tt)))))))))))
