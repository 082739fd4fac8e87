use Rattle.std.proofs.Common.{◌≡◌, ℕ, ◌+◌, ◌<◌, ◌≤◌, [], ◌∷◌, sym, refl, ap, ◌∙◌, lit<, w64, arith}
use types.Kit.{join, ‵, raw, ◌⊛◌, given, mean, at_ret, ◌$◌, ◌∵◌, !, qed, by, move, keep, drop, split, fsplit, fsplit3}
use types.Kit.{fjoin, fpick, fpack, learn, use0, use1, use2, rewrite}
use Rattle.raw_block.proofs.Walking.{dnil, a_type, Val, vint, vptr, inst_fn, SProp, emp, via, guard_i, Fml, ftrue, sem}
use Rattle.raw_block.proofs.Walking.{stop, fld, addr, lit, of_opd, no_more, and_then, first, blocks, exec, Calls-last}
use Rattle.raw_block.proofs.Walking.{returns, enter, alloc_all, pass_all}
use Rattle.raw_block.proofs.Walking.{free_all, look_at, get, get_in, through, sets, lands_last, is, env, agg, sub}
use Rattle.raw_block.proofs.Walking.{whole, tables, fact, fact_i, fact_use, yes, no, RattleType, owns, types_at, plain}
use Rattle.raw_block.proofs.Walking.{Ptr, InBlock, block_ptr, ptr_val}
use Rattle.raw_block.proofs.Walking.{block_of, count_of, at_block, nothing, heard, param, bounded, u64, uint_vals}
use Rattle.raw_block.proofs.Walking.{uint_Tells, alive, Stays, stay_dropped, walk_of, Goes-dropped, tail, proved}
use Rattle.raw_block.proofs.Walking.{leaves, fm, found, finds, exchanges}
use Rattle.raw_block.proofs.Walking.{full_weight, ffalse}
use Rattle.raw_block.specs.Views.{Life}
use Rattle.raw_block.specs.Shares.{About, about, entry, share_owns, tells}
use Rattle.raw_block.specs.contracts.held.Share as share
use Rattle.raw_block.proofs.Fields.{alone, typed, told, owns_placed, Released_words, released_made, none, given_back_told}
use Rattle.raw_block.proofs.Steps as steps
use Rattle.raw_block.specs.contracts.held.AfterRelease as after_release
use Rattle.raw_block.proofs.Endings as endings
use Rattle.raw_block.specs.contracts.held.Share.reunite.{ended, clauses}
use Rattle.raw_block.specs.contracts.held.Share.reunite.Key.{name as #self}
use Rattle.raw_block.proofs.held.Share.reunite.Statement.{statement}
use Rattle.raw_block.proofs.held.Share.reunite.Code as code
use Rattle.raw_block.proofs.Entries.{entry_glue, entry_cut, Fit as steps_fit}
use Rattle.raw_block.specs.contracts.held.GivenBack as given_back

pub reunite_spec : {M : Type 1} → statement M
reunite_spec 𝓤 𝓛 𝓜 𝓡 wired X L =
    let H = 𝓛.H in let 𝓣 = tables 𝓤 H 𝓜 𝓡 𝓡.env in let R : RattleType = param 0 X in let En = ended X in
    let c = clauses X 𝓛 𝓜.mem 𝓡.returns in
    let inst = bounded (a_type ∷ []) (X, tt) dnil in let fn = inst_fn inst code.function in
    let closed = code.unfolded 𝓤 H 𝓜 𝓡 wired (X, tt) in
    let Sr : RattleType = share.the_row R in let Pr : RattleType = after_release.the_row R in
    let self = plain (λ _. Sr) in let item = plain (λ _. given_back.the_row) in let number = plain (λ _. u64) in
    let hs : Stays En.signature.params En.kept = (stay_dropped self no, (stay_dropped item yes, (stay_dropped number yes, tt))) in
    proved 𝓛 En hs c 𝓜 𝓡 (
      Goes-dropped 𝓛 1 self no (λ κs x f. refl),
      (Goes-dropped 𝓛 1 item yes (λ κs x f. refl), (Goes-dropped 𝓛 1 number yes (λ κs x f. refl), tt)),
    )
    (#self inst) fn closed
    (λ κs. ((λ x. alone x.at ∷ []), ((λ x. none ∷ []), (uint_vals w64, tt))))
    (λ κs. ((λ x vs so. told R x.at vs so.0), ((λ x vs so. given_back_told vs so.0), (uint_Tells w64, tt))))
    (λ κs qs bounds a gh are.
    let h : Sr.Denot = a.0 in let p : Ptr = h.at in let b : ℕ = block_of p in let o : ℕ = count_of p in
    let x : X.Denot = h.content in let mark : ℕ = h.mark in let γ : Life = h.life in let t = a.1.0 in
    let k : ℕ = a.1.1.0 in
    let y : (walk_of 𝓛 En hs c).Ghost = ((κs, qs, bounds, a, (alone p ∷ [], (none ∷ [], (vint w64 k ∷ [], tt)))), gh) in
    let Post : Val → SProp 𝓤 = (walk_of 𝓛 En hs c).post y in
    let Asked : Type 0 = (k ≡ h.weight) × (t.life ≡ γ) × (h.weight + t.weight ≡ full_weight) in
    qed 𝓛 ((raw (alive 𝓛 En.signature κs qs) ⊛ ‵ (owns (types_at En.signature.params κs) a y.0.4)) ∷ raw (fact 𝓤 _)
    ∷ raw (fact 𝓤 Asked) ∷ []) ∵
    keep ! (2 ∷ 0 ∷ []) $ heard ! Asked (λ asked. let total = asked.2 in let heavy = asked.0 in
    split ! $ move ! (1 ∷ []) $ fsplit ! $ fsplit ! $ move ! (2 ∷ []) $ fsplit ! $ fsplit ! $
    -- [its field; what was given back; the rest; my field; mine; the tokens]
    keep ! (4 ∷ 1 ∷ 5 ∷ []) $ move ! (1 ∷ []) $ fsplit ! $ drop ! $ fpick ! (λ f. let V : About = ((f.0, t.mark), f.1) in move ! (1 ∷ []) $
    use1 𝓛 (given (InBlock p) (‵ (share_owns R p γ x mark h.weight)))
    (fact_use 𝓤 _ (owns_placed 𝓛 R p γ x mark h.weight) (guard_i 𝓤 (InBlock p)
    (sem 𝓛 (share_owns R p γ x mark h.weight)))) $ learn ! (λ inb. let at : p ≡ block_ptr b o = at_block p inb in
    rewrite ! 0 (λ (z : Ptr × ℕ). ‵ (share_owns R z.0 γ x mark z.1)) (λ i. (at i, sym asked.0 i)) refl $
    rewrite ! 1 (λ (g : Life). ‵ (entry g.names.0 0 t.weight V)) asked.1 refl $
    enter ! 𝓣.C 𝓣.Λ fn (alone p ∷ none ∷ vint w64 k ∷ []) Post $ alloc_all ! (λ l. pass_all ! refl (
      typed p inb,
      ((tt, tt), ((tt, record { fits = are.1.1.0.1 }), tt)),
    ) $ let Ev = env fn.locals l in
    fsplit ! $ fpick ! (λ fit. drop ! $ fpick ! (λ u. fsplit3 ! $
    -- [the invariant; mine; what is seen; the receipt; the tokens]
    move ! (1 ∷ []) $ fsplit ! $ move ! (4 ∷ 0 ∷ []) $
    use2 𝓛 (given (steps_fit 𝓛 γ.names.0 V (about R x mark u) 0 k t.weight 0) (‵ (entry γ.names.0 (0 + k) (t.weight + 0) V)))
    (entry_glue 𝓛 γ.names.0 V (about R x mark u) 0 k t.weight 0) $ learn ! (λ agree.
    use1 𝓛 (‵ (entry γ.names.0 k 0 V) ⊛ ‵ (entry γ.names.0 0 t.weight V)) (entry_cut 𝓛 γ.names.0 V k 0 (0 + k) 0 t.weight (t.weight + 0)
    (omega arith) (omega arith) agree.1 agree.2) $ split ! $
    rewrite ! 0 (λ (z : About). ‵ (entry γ.names.0 k 0 z)) agree.0 refl $
    rewrite ! 1 (λ (z : About). ‵ (entry γ.names.0 0 t.weight z)) agree.0 refl $ move ! (0 ∷ 2 ∷ []) $ fjoin ! $
    move ! (0 ∷ 1 ∷ []) $ fjoin ! $ move ! (1 ∷ 0 ∷ []) $
    -- [the invariant; mine with the receipt; what is seen; the tokens]
    let after : ℕ → Fml = tells R b o γ x mark u k ffalse in
    sets ! (is ! (of_opd ! (get_in ! (fld ! refl (stop !)) (sub ! 0 refl (whole !)))) (ap ptr_val at)) refl (tt, tt) $
    first ! $ blocks ! $ sets ! (addr ! (through ! refl (fld ! refl (stop !)))) refl (tt, tt) $
    use2 𝓛 (raw (𝓣.C _ (vptr b (o + 0) ∷ vint w64 k ∷ vint w64 0 ∷ []) (λ r. mean 𝓛 (found after r))))
    (via 𝓤 _ (steps.reunites 𝓛 R b o γ x mark u k fit.0 fit.1 t.weight (omega arith))
    (exchanges 𝓛 𝓜 𝓡 (code.calls-atomic_table::exchange 𝓡.env wired)
    (block_ptr b (o + 0)) k 0 are.1.1.0.1 (lit< tt) after)) $
    Calls-last ! (fm 𝓛 𝓜 𝓡) (found after) (and_then ! (get ! refl)
    (and_then ! (get ! refl) (and_then ! (lit ! tt) (no_more !)))) (λ r. finds ! after (λ n fits.
    use1 𝓛 (given (n ≡ k) (‵ (tells R b o γ x mark u k (entry γ.names.0 0 k (about R x mark u)) n)))
    (endings.reunion_hits 𝓛 R γ x mark k n b o u) $ learn ! (λ hit.
    lands_last ! refl (tt, record { fits = fits }) $ exec ! 𝓣.C 𝓣.Λ Ev (tail (tail fn.body)) (at_ret Ev Post) $
    sets ! (of_opd ! (get ! refl)) refl (tt, record { fits = fits }) $
    sets ! (agg ! (and_then ! (get ! refl) (no_more !))) refl (tt, (tt, tt)) $
    fpack ! ℕ (λ v. tells R b o γ x mark v k (entry γ.names.0 0 k (about R x mark v)) n) u $ nothing ! $
    fpack ! ((0 < k) × (k ≤ full_weight)) (λ _. ftrue) fit $ fjoin ! $
    let q : Ptr = block_ptr b o in let d : Pr.Denot = record { at = q; found = n; weight = k; life = γ; content = x; mark = mark } in
    let Told : Type 0 = (n ≡ h.weight) × (k ≡ h.weight) × (γ ≡ γ) × (mark ≡ mark) × (x ≡ x) in let Agree : Type 0 = t.mark ≡ mark in
    use0 𝓛 (‵ ((Released_words R).own_val (q, tt) (alone q ∷ []))) (released_made R 𝓛 q) $ fjoin ! $
    use0 𝓛 (raw (fact 𝓤 Agree)) (fact_i 𝓤 Agree (emp 𝓤) (λ i. (agree.0 i).0.1)) $
    use0 𝓛 (raw (fact 𝓤 Told)) (fact_i 𝓤 Told (emp 𝓤) (hit ∙ asked.0, asked.0, refl, refl, refl)) $ join ! $
    nothing ! $ nothing ! $ fjoin ! $ nothing ! $ fjoin ! $ nothing ! $ fjoin ! $
    returns ! (look_at ! 0 refl) $ free_all ! refl $ keep ! (4 ∷ 0 ∷ 2 ∷ 1 ∷ []) $
    by ! (leaves 𝓛 En hs c y (alone q) d (tt, (tt, (tt, tt))) (tt, (tt, (tt, tt)))))))))))))))
