-- `head_mut` lends the head's bytes on in an `Option`. The borrow checker shows no write-back clause for an `Option` of a slice,
-- so this walks the code by hand.
use Rattle.std.proofs.Common.{◌≡◌, ℕ, List, [], ◌∷◌, Bool, true, false, length, refl, ap, sym, ◌∙◌, lit<}
use Rattle.std.proofs.raw_atomic.Walks.{proved}
use lib.Dec.{T}
use mathlib.Core.Bool.{not}
use mir.Syntax.{named}
use mir.Val.{Val, of_list}
use base.Fraction.{full_share}
use base.Logic.{SProp, emp, id⊢}
use base.Fml.{ftrue, flft, fres}
use types.Match.{live}
use types.Kit.{‵, raw, ◌⊛◌, some, later, at_ret, ◌$◌, ◌∵◌, !, qed, done, drop, move, keep, use0, use1, use2, use3}
use types.Kit.{split, split3, join, fsplit, fsplit3, fjoin, feq_l, pick, await, rewrite, suffices, frame}
use types.Run.{enter, of_opd, lit, addr, stop, no_more, and_then, first, branches, exec, returns}
use types.ByLocal.{alloc_all, pass_all, free_all, look_at, get, through, sets, sets_last, lands_as, env}
use types.Part.{agg}
use types.Tokens.{lft_new, lft_end}
use contract.Monad.{fact, fact_i}
use contract.Running.{tables}
use denote.Array.{Array}
use denote.Builtin.{RefMutOf, u8, bool}
use denote.Exit.{no}
use denote.Follow.{follows}
use denote.Laws.{shows}
use denote.Lend.{lends_again, comes_back, LentAgain}
use denote.RattleType.{RattleType}
use denote.Ref.{MutRef, MutBor, mut_vals, mut_Tells}
use denote.Signature.{plain}
use denote.Slice.{MutSlice, slice_val}
use denote.Steps.{nothing, heard, only, peeks}
use denote.Triple.Call.{calls_at}
use denote.Triple.Clauses.{lasts}
use denote.Triple.Spec.{triple_of}
use denote.Triple.Table.{framed}
use denote.Triple.Walked.{says, Stays, stay_dropped, walk_of, ends_at, Goes-spent_ref}
use Rattle.core.specs.declared.option.Option.TheVariants.{Some, None}
use Rattle.core.specs.contracts.option.Option as option
use Rattle.std_alloc.proofs.VecSteps.Element.{Some-of, none_of}
use Rattle.skb.specs.SkbState.{is_sole, head_bytes}
use Rattle.skb.specs.Lending.{with_head}
use Rattle.skb.specs.contracts.skb.Skb.{the_row as R}
use Rattle.skb.specs.contracts.skb.Skb.has_sole_head as asks
use Rattle.skb.proofs.skb.Skb.has_sole_head.Met as asks_met
use Rattle.skb.specs.contracts.skb.Skb.head_bytes_mut as lends
use Rattle.skb.proofs.skb.Skb.head_bytes_mut.Met as lends_met
use Rattle.skb.specs.contracts.skb.Skb.head_mut as F
use Rattle.skb.specs.contracts.skb.Skb.head_mut.Key.{name as #self}
use Rattle.skb.proofs.skb.Skb.head_mut.Statement.{statement}
use Rattle.skb.proofs.skb.Skb.head_mut.Code as code

is_on : (t : Bool) → T t → t ≡ true
is_on true h = refl
is_on false h = absurd h

is_off : (t : Bool) → T (not t) → t ≡ false
is_off true h = absurd h
is_off false h = refl

abbrev stayed : Stays F.ended.signature.params F.ended.kept
stayed = (stay_dropped (RefMutOf (0 ∷ []) tt (plain (λ _. R)) (λ _. tt)) no, tt)

pub head_mut_spec : {M : Type 1} → statement M
unfolding denote.Follow.follows_by
head_mut_spec 𝓤 𝓛 𝓜 𝓡 wired =
    let 𝓣 = tables 𝓤 𝓛.H 𝓜 𝓡 𝓡.env in let c = F.clauses 𝓛 𝓜.mem 𝓡.returns in
    proved 𝓛 F.ended stayed c 𝓜 𝓡 (Goes-spent_ref 𝓛 1 (0 ∷ []) tt (plain (λ _. R)), tt) #self code.function (code.unfolded 𝓤 𝓛.H 𝓜 𝓡 wired)
    (λ κs. (mut_vals, tt)) (λ κs. (mut_Tells (named 0) κs.0 R, tt)) (λ κs qs bounds a gh are.
    let κ = κs.0 in let q = qs.0 in let s = a.0 in let b = s.ref_ptr.0 in let o = s.ref_ptr.1 in
    let d : R.Denot = s.now in let vs = mut_vals s in
    let Ref = λ (κ' : List ℕ) (x : MutBor R.Denot). (MutRef (named 0) κ' R).own_val x vs in
    let Slice : RattleType = MutSlice (named 0) κ u8 in
    let y : (walk_of 𝓛 F.ended stayed c).Ghost = ((κs, qs, bounds, a, (vs, tt)), gh) in
    let Post : Val → SProp 𝓤 = (walk_of 𝓛 F.ended stayed c).post y in
    qed 𝓛 (((‵ (flft κ q) ⊛ ‵ ftrue) ⊛ ‵ (Ref κ s) ⊛ ‵ ftrue) ∷ ‵ ftrue ∷ []) ∵
    split ! $ split ! $ move ! (2 ∷ []) $ split ! $ keep ! (0 ∷ 2 ∷ []) $
    enter ! _ _ _ _ _ $ alloc_all ! (λ l. pass_all ! refl ((tt, tt), tt) $
    -- [self; the token]
    sets ! (addr ! (through ! refl (stop !))) refl (tt, tt) $
    lft_new ! tt (λ α. move ! (1 ∷ 2 ∷ []) $
    use2 𝓛 (later (some (λ (δ : ℕ). ‵ (Ref (α ∷ []) (record s { ghost_name = δ })) ⊛ ‵ (LentAgain R κ (α ∷ []) q s.ghost_name b o δ d))))
    (lends_again 𝓛 R (named 0) κ (α ∷ []) q s.ghost_name b o (named 0) d) $ await ! tt $ pick ! (λ δ. split ! $
    -- [the loan; what the lender keeps; the token of α]
    let A = triple_of 𝓛 asks.signature (asks.spec 𝓛 𝓜.mem 𝓡.returns) in
    let z : A.Ghost = (((α ∷ [], tt), (full_share, tt), tt, (record s { ghost_name = δ }, tt), (vs, tt)), tt) in
    nothing ! $ move ! (1 ∷ 0 ∷ []) $ join ! $ nothing ! $ move ! (3 ∷ 0 ∷ []) $ join ! $ join ! $
    nothing ! $ move ! (1 ∷ 0 ∷ []) $ use2 𝓛 (raw (A.pre z)) (id⊢ 𝓤 _) $
    calls_at ! (framed 𝓤 𝓛.H 𝓜 (tables 𝓤 𝓛.H 𝓜 𝓡 𝓡.env)) A (asks_met.met 𝓤 𝓛 𝓜 𝓡 (code.calls-skb::skb::Skb::has_sole_head 𝓡.env wired)) z
    (and_then ! (get ! refl) (no_more !)) (λ v.
    use1 𝓛 (later (some (λ (u : Bool). ((‵ (flft (α ∷ []) full_share) ⊛ ‵ ftrue) ⊛ ‵ (bool.own_val u (v ∷ []))) ⊛
    some (λ (ws : R.Denot × Unit {0}). ‵ (lasts asks.ended z.0.0 z.0.3 ws) ⊛ raw (fact 𝓤 (u
    ≡ is_sole d.head)) ⊛ raw (fact 𝓤 (ws.0 ≡ d)))))) (id⊢ 𝓤 _) $
    await ! tt $ pick ! (λ u. split ! $ split ! $ split ! $ lft_end ! tt $ move ! (2 ∷ []) $ feq_l ! (λ is_bool.
    lands_as ! (ap only is_bool) refl (tt, tt) $
    move ! (2 ∷ []) $ pick ! (λ ws. split3 ! $ move ! (1 ∷ []) $ heard ! _ (λ answer. move ! (1 ∷ []) $
    heard ! _ (λ same. fsplit ! $ fsplit ! $
    rewrite ! 0 (λ (m : R.Denot). ‵ (fres δ (R.coded.code m))) same refl $
    -- [the loan's last value; its borrow; nothing; α is over; nothing; what the lender keeps]
    move ! (3 ∷ 5 ∷ 0 ∷ []) $ use3 𝓛 (later (‵ (Ref κ s) ⊛ ‵ (flft κ q)))
    (comes_back 𝓛 R (named 0) κ (α ∷ []) q s.ghost_name b o δ d d) $ await ! tt $ split ! $
    -- [self; the token; ..]
    first ! $ branches ! (get ! refl)
    (λ t. let on : is_sole d.head ≡ true = sym answer ∙ is_on u t in
    sets ! (addr ! (through ! refl (stop !))) refl (tt, tt) $
    let L = triple_of 𝓛 lends.signature (lends.spec 𝓛 𝓜.mem 𝓡.returns) in
    let z' : L.Ghost = ((κs, qs, bounds, (s, tt), (vs, tt)), tt) in
    nothing ! $ move ! (1 ∷ 0 ∷ []) $ join ! $ nothing ! $ move ! (2 ∷ 0 ∷ []) $ join ! $ join ! $
    use0 𝓛 (raw (fact 𝓤 (is_sole d.head ≡ true))) (fact_i 𝓤 (is_sole d.head ≡ true) (emp 𝓤) on) $ move ! (1 ∷ 0 ∷ []) $
    use2 𝓛 (raw (L.pre z')) (id⊢ 𝓤 _) $
    calls_at ! (framed 𝓤 𝓛.H 𝓜 (tables 𝓤 𝓛.H 𝓜 𝓡 𝓡.env)) L (lends_met.met 𝓤 𝓛 𝓜 𝓡 (code.calls-skb::skb::Skb::head_bytes_mut 𝓡.env wired)) z'
    (and_then ! (get ! refl) (no_more !)) (λ w.
    use1 𝓛 (later (some (λ (x : MutBor (List ℕ)). ((‵ (flft κ q) ⊛ ‵ ftrue) ⊛ ‵ (Slice.own_val x (w ∷ []))) ⊛
    some (λ (ws' : Unit {0} × Unit {0}). ‵ (lasts lends.ended z'.0.0 z'.0.3 ws') ⊛ ‵ (follows R (Array u8 0) s.ghost_name x.ghost_name (with_head d)) ⊛ raw (fact 𝓤 (x.now ≡ head_bytes d))))))
    (id⊢ 𝓤 _) $
    await ! tt $ pick ! (λ x. split ! $ split ! $ split ! $
    -- [the token; nothing; the bytes; what they say; ..]
    move ! (3 ∷ []) $ pick ! (λ ws'. split3 ! $ drop ! $ move ! (1 ∷ []) $ heard ! _ (λ value. move ! (3 ∷ []) $
    peeks ! Slice _ (shows 𝓛 Slice) x (w ∷ []) (λ is.
    -- [the bytes; what the lender ends as; the token; nothing; ..]
    let e : w ≡ slice_val x.ref_ptr (length x.now) = ap only is.0.0 in
    rewrite ! 0 (λ (u' : Val). ‵ (Slice.own_val x (u' ∷ []))) e refl $
    lands_as ! e refl (tt, (tt, (record { fits = is.0.1.0 }, tt))) $
    sets_last ! (agg ! (and_then ! (lit ! tt) (and_then ! (get ! refl) (no_more !)))) refl (
      tt,
      (record { fits = lit< tt }, ((tt, (record { fits = is.0.1.0 }, tt)), tt)),
    ) $
    exec ! 𝓣.C 𝓣.Λ (env code.Mir.locals l) code.Mir.t-4 (at_ret _ Post) $
    sets ! (of_opd ! (get ! refl)) refl (tt, (record { fits = lit< tt }, ((tt, (record { fits = is.0.1.0 }, tt)), tt))) $
    returns ! (look_at ! 0 refl) $ free_all ! refl $ keep ! (0 ∷ 2 ∷ 1 ∷ []) $
    let v' : Val = slice_val x.ref_ptr (length x.now) in
    use1 𝓛 (‵ ((option.the_row Slice).own_val (Some x) (live 1 (of_list (v' ∷ [])) ∷ []))) (Some-of 𝓛 Slice x v') $
    suffices ! _ (ends_at 𝓛 F.ended stayed c y (live 1 (of_list (v' ∷ []))) (Some x) (tt, tt) (tt, tt)) $
    nothing ! $ nothing ! $ fjoin ! $ join ! $ nothing ! $ move ! (2 ∷ 0 ∷ []) $ join ! $ join ! $ frame ! $
    says ! (on, value) $ done !))))))
    (λ t. let off : is_sole d.head ≡ false = sym answer ∙ is_off u t in
    sets_last ! (agg ! (and_then ! (lit ! tt) (no_more !))) refl (tt, (record { fits = lit< tt }, tt)) $
    exec ! 𝓣.C 𝓣.Λ (env code.Mir.locals l) code.Mir.t-4 (at_ret _ Post) $
    sets ! (of_opd ! (get ! refl)) refl (tt, (record { fits = lit< tt }, tt)) $
    returns ! (look_at ! 0 refl) $ free_all ! refl $ keep ! (0 ∷ 1 ∷ []) $
    fsplit3 ! $ keep ! (1 ∷ 3 ∷ []) $ use1 𝓛 (‵ (fres s.ghost_name (R.coded.code d)))
    (𝓛.names.obs-res s.ghost_name (R.coded.code d)) $ move ! (1 ∷ []) $
    use0 𝓛 (‵ ((option.the_row Slice).own_val None (live 0 (of_list []) ∷ []))) (none_of 𝓛 Slice) $
    suffices ! _ (ends_at 𝓛 F.ended stayed c y (live 0 (of_list [])) None (tt, tt) (tt, tt)) $
    nothing ! $ nothing ! $ fjoin ! $ join ! $ nothing ! $ move ! (2 ∷ 0 ∷ []) $ join ! $ join ! $ frame ! $ says ! off $ done !)))))))))))
