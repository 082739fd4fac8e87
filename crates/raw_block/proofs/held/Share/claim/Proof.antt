use Rattle.std.proofs.Common.{◌≡◌, ℕ, ◌+◌, ◌^◌, ◌<◌, ◌≤◌, List, [], ◌∷◌, ◌++◌, sym, refl, ap, lit<, w64}
use types.Kit.{‵, raw, ◌⊛◌, given, mean, at_ret, ◌$◌, ◌∵◌, !, qed, by, move, keep, drop, split, fsplit, fsplit3, fjoin}
use types.Kit.{fjoin3, fpick, fpack, learn, use0, use1, use2, rewrite, feq_i, flt_i}
use Rattle.raw_block.proofs.Walking.{finv, dnil, a_type, Val, vint, vptr, vstruct, vcons, vnil, of_list, inst_fn, SProp}
use Rattle.raw_block.proofs.Walking.{emp, via, guard_i, Fml, ftrue, fsep, feq, sem, stop, fld, addr, lit, of_opd}
use Rattle.raw_block.proofs.Walking.{no_more, and_then, first, blocks, exec}
use Rattle.raw_block.proofs.Walking.{Calls-last, returns, enter, alloc_all, pass_all, free_all, look_at, get, get_in}
use Rattle.raw_block.proofs.Walking.{through, sets, lands_last, is, env, agg, sub, whole, tables, fact, fact_i}
use Rattle.raw_block.proofs.Walking.{fact_use, yes, no, RattleType, Valss, owns}
use Rattle.raw_block.proofs.Walking.{types_at, plain, Ptr, InBlock, block_ptr, ptr_val, block_of, count_of, at_block}
use Rattle.raw_block.proofs.Walking.{nothing, heard, param, bounded, u64, uint_vals, uint_Tells, alive, Stays}
use Rattle.raw_block.proofs.Walking.{stay_dropped, walk_of, Goes-dropped, tail}
use Rattle.raw_block.proofs.Walking.{proved, leaves, fm, found, finds, exchanges, full_weight}
use Rattle.raw_block.specs.Views.{Life}
use Rattle.raw_block.specs.Shares.{was, seen, Inv, held, share_owns, tells}
use Rattle.raw_block.specs.contracts.held.Share as share
use Rattle.raw_block.proofs.Fields.{alone, typed, told, owns_placed, Claimed_words, claimed_made}
use Rattle.raw_block.proofs.Steps as steps
use Rattle.raw_block.specs.contracts.held.AfterClaim as after_claim
use Rattle.raw_block.specs.contracts.held.Share.claim.{ended, clauses}
use Rattle.raw_block.specs.contracts.held.Share.claim.Key.{name as #self}
use Rattle.raw_block.proofs.held.Share.claim.Statement.{statement}
use Rattle.raw_block.proofs.held.Share.claim.Code as code

pub claim_spec : {M : Type 1} → statement M
claim_spec 𝓤 𝓛 𝓜 𝓡 wired X L =
    let H = 𝓛.H in let 𝓣 = tables 𝓤 H 𝓜 𝓡 𝓡.env in let R : RattleType = param 0 X in let En = ended X in
    let c = clauses X 𝓛 𝓜.mem 𝓡.returns in
    let inst = bounded (a_type ∷ []) (X, tt) dnil in let fn = inst_fn inst code.function in
    let closed = code.unfolded 𝓤 H 𝓜 𝓡 wired (X, tt) in
    let Sr : RattleType = share.the_row R in let Pr : RattleType = after_claim.the_row R in
    let self = plain (λ _. Sr) in let number = plain (λ _. u64) in
    let hs : Stays En.signature.params En.kept = (stay_dropped self no, (stay_dropped number yes, tt)) in
    proved 𝓛 En hs c 𝓜 𝓡 (Goes-dropped 𝓛 1 self no (λ κs x f. refl), (Goes-dropped 𝓛 1 number yes (λ κs x f. refl), tt))
    (#self inst) fn closed
    (λ κs. ((λ x. alone x.at ∷ []), (uint_vals w64, tt))) (λ κs. (
      (λ x vs so. told R x.at vs so.0),
      (uint_Tells w64, tt),
    )) (λ κs qs bounds a gh are.
    let h : Sr.Denot = a.0 in let p : Ptr = h.at in let b : ℕ = block_of p in let o : ℕ = count_of p in
    let x : X.Denot = h.content in let mark : ℕ = h.mark in let γ : Life = h.life in let k : ℕ = a.1.0 in
    let y : (walk_of 𝓛 En hs c).Ghost = ((κs, qs, bounds, a, (alone p ∷ [], (vint w64 k ∷ [], tt))), gh) in
    let Post : Val → SProp 𝓤 = (walk_of 𝓛 En hs c).post y in
    qed 𝓛 ((raw (alive 𝓛 En.signature κs qs) ⊛ ‵ (owns (types_at En.signature.params κs) a y.0.4)) ∷ raw (fact 𝓤 _)
    ∷ raw (fact 𝓤 (k ≡ h.weight)) ∷ []) ∵
    keep ! (2 ∷ 0 ∷ []) $ heard ! (k ≡ h.weight) (λ asked. split ! $ move ! (1 ∷ []) $ fsplit ! $ fsplit ! $ keep ! (1 ∷ 3 ∷ []) $
    use1 𝓛 (given (InBlock p) (‵ (share_owns R p γ x mark h.weight)))
    (fact_use 𝓤 _ (owns_placed 𝓛 R p γ x mark h.weight) (guard_i 𝓤 (InBlock p)
    (sem 𝓛 (share_owns R p γ x mark h.weight)))) $ learn ! (λ inb. let at : p ≡ block_ptr b o = at_block p inb in
    rewrite ! 0 (λ (z : Ptr × ℕ). ‵ (share_owns R z.0 γ x mark z.1)) (λ i. (at i, sym asked i)) refl $
    enter ! 𝓣.C 𝓣.Λ fn (alone p ∷ vint w64 k ∷ []) Post $ alloc_all ! (λ l. pass_all ! refl (
      typed p inb,
      ((tt, record { fits = are.1.0.1 }), tt),
    ) $ let Ev = env fn.locals l in
    fsplit ! $ fpick ! (λ fit. drop ! $ fpick ! (λ u. fsplit3 ! $ let I : Fml = Inv R b o γ x mark u in
    let Mine : Fml = held R b o γ x mark u k in
    use1 𝓛 (‵ (finv I) ⊛ ‵ (finv I)) (𝓛.invs.inv_dup I) $ split ! $ move ! (0 ∷ 2 ∷ []) $
    -- [the invariant; mine; the invariant; what is seen; the tokens]
    let after : ℕ → Fml = λ n. tells R b o γ x mark u k (fsep Mine (was γ.names.1 n)) n in
    sets ! (is ! (of_opd ! (get_in ! (fld ! refl (stop !)) (sub ! 0 refl (whole !)))) (ap ptr_val at)) refl (tt, tt) $
    first ! $ blocks ! $ sets ! (addr ! (through ! refl (fld ! refl (stop !)))) refl (tt, tt) $
    use2 𝓛 (raw (𝓣.C _ (vptr b (o + 0) ∷ vint w64 k ∷ vint w64 0 ∷ []) (λ r. mean 𝓛 (found after r))))
    (via 𝓤 _ (steps.claims 𝓛 R b o γ x mark u k fit.0 fit.1)
    (exchanges 𝓛 𝓜 𝓡 (code.calls-atomic_table::exchange 𝓡.env wired)
    (block_ptr b (o + 0)) k 0 are.1.0.1 (lit< tt) after)) $
    Calls-last ! (fm 𝓛 𝓜 𝓡) (found after) (and_then ! (get ! refl)
    (and_then ! (get ! refl) (and_then ! (lit ! tt) (no_more !)))) (λ r. finds ! after (λ n fits.
    lands_last ! refl (tt, record { fits = fits }) $ exec ! 𝓣.C 𝓣.Λ Ev (tail (tail fn.body)) (at_ret Ev Post) $
    sets ! (of_opd ! (get ! refl)) refl (tt, record { fits = fits }) $
    sets ! (agg ! (and_then ! (get ! refl) (no_more !))) refl (tt, (tt, tt)) $
    sets ! (agg ! (and_then ! (get ! refl) (and_then ! (get ! refl) (no_more !)))) refl (
      tt,
      (record { fits = fits }, ((tt, tt), tt)),
    ) $
    move ! (1 ∷ 2 ∷ 0 ∷ []) $ fjoin3 ! $ fpack ! ℕ (λ v. fsep (finv (Inv R b o γ x mark v))
    (fsep (seen R b o x (v ∷ [])) (tells R b o γ x mark v k (fsep (held R b o γ x mark v k) (was γ.names.1 n)) n))) u $
    nothing ! $ fpack ! ((0 < k) × (k ≤ full_weight)) (λ _. ftrue) fit $ fjoin ! $
    let q : Ptr = block_ptr b o in let d : Pr.Denot = record {
      at = q;
      found = n;
      weight = k;
      life = γ;
      content = x;
      mark = mark;
    } in let v : Val = vstruct (vcons (vint w64 n) (vcons (alone q) vnil)) in
    let Told : Type 0 = (n ≡ n) × (k ≡ h.weight) × (γ ≡ γ) × (mark ≡ mark) × (x ≡ x) in
    use0 𝓛 (‵ ((Claimed_words R).own_val (q, tt) (alone q ∷ []))) (claimed_made R 𝓛 q) $ fjoin ! $ nothing ! $
    flt_i ! n (2 ^ 64) fits $ feq_i ! (List Val) (vint w64 n ∷ []) (vint w64 n ∷ []) refl $ fjoin ! $
    move ! (0 ∷ 2 ∷ 1 ∷ []) $ fjoin3 ! $ feq_i ! (List Val) (v ∷ []) (v ∷ []) refl $ fjoin ! $
    fpack ! (Valss (u64 ∷ Pr ∷ [])) (λ uss. fsep (feq (List Val) (v ∷ [])
    (vstruct (of_list (uss.0 ++ (uss.1.0 ++ []))) ∷ [])) (owns (u64 ∷ Pr ∷ []) (n, (d, tt)) uss))
    (vint w64 n ∷ [], (alone q ∷ [], tt)) $
    use0 𝓛 (raw (fact 𝓤 Told)) (fact_i 𝓤 Told (emp 𝓤) (refl, asked, refl, refl, refl)) $ nothing ! $ nothing ! $
    fjoin ! $ nothing ! $ fjoin ! $
    returns ! (look_at ! 0 refl) $ free_all ! refl $ keep ! (3 ∷ 0 ∷ 2 ∷ 1 ∷ []) $
    by ! (leaves 𝓛 En hs c y v (n, d) (tt, (tt, tt)) (tt, (tt, tt)))))))))))
