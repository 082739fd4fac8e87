-- `range_mut` lends a range of the bytes. The borrow checker shows no write-back clause for a part of an array, so this walks the code by hand.
use Rattle.std.proofs.Common.{ℕ, ◌+◌, ◌-◌, ◌≤◌, [], ◌∷◌, refl, arith, w64}
use types.Kit.{‵, raw, ◌⊛◌, given, learn, some, later, ◌$◌, ◌∵◌, !, qed, move, keep, split, split3, join, fsplit, fjoin}
use types.Kit.{use2, await, pick, suffices, frame, done}
use Rattle.raw_block.proofs.Walking.{named, Val, vptr, vint, SProp, GName, ftrue, flft, stop, fld, addr, no_more}
use Rattle.raw_block.proofs.Walking.{and_then, returns, enter, alloc_all, pass_all, free_all, look_at, get, through}
use Rattle.raw_block.proofs.Walking.{sets, agg, fact, tables, no, yes, uint_vals}
use Rattle.raw_block.proofs.Walking.{uint_Tells, MutRef, mut_vals, mut_Tells, owns, plain, nothing, heard, Stays}
use Rattle.raw_block.proofs.Walking.{stay_dropped, walk_of, Goes-dropped, proved, slice_val}
use types.Run.{bin}
use denote.Builtin.{RefMutOf, usize}
use denote.Triple.Walked.{says, ends_at, Goes-spent_ref}
use Rattle.raw_block.proofs.Ranges.{S, Sized, lent_at, lends}
use Rattle.raw_block.specs.contracts.block.Bytes.range_mut as F
use Rattle.raw_block.specs.contracts.block.Bytes.range_mut.Key.{name as #self}
use Rattle.raw_block.proofs.block.Bytes.range_mut.Statement.{statement}
use Rattle.raw_block.proofs.block.Bytes.range_mut.Code as code

pub range_mut_spec : {M : Type 1} → statement M
range_mut_spec 𝓤 𝓛 𝓜 𝓡 wired =
    let 𝓣 = tables 𝓤 𝓛.H 𝓜 𝓡 𝓡.env in let En = F.ended in let c = F.clauses 𝓛 𝓜.mem 𝓡.returns in let number = plain (λ _. usize) in
    let hs : Stays En.signature.params En.kept = (
      stay_dropped (RefMutOf (0 ∷ []) tt (plain (λ _. S)) (λ _. tt)) no,
      (stay_dropped number yes, (stay_dropped number yes, tt)),
    ) in
    proved 𝓛 En hs c 𝓜 𝓡 (
      Goes-spent_ref 𝓛 1 (0 ∷ []) tt (plain (λ _. S)),
      (
        Goes-dropped 𝓛 1 number yes (λ κs x f. refl),
        (
          Goes-dropped 𝓛 1 number yes (λ κs x f. refl),
          tt,
        ),
      ),
    ) #self code.function (code.unfolded 𝓤 𝓛.H 𝓜 𝓡 wired)
    (λ κs. (mut_vals, (uint_vals w64, (uint_vals w64, tt)))) (λ κs. (
      mut_Tells (named 0) κs.0 S,
      (uint_Tells w64, (uint_Tells w64, tt)),
    )) (λ κs qs bounds a gh are.
    let κ = κs.0 in let q = qs.0 in let b = a.0.ref_ptr.0 in let o = a.0.ref_ptr.1 in let γ : GName = a.0.ghost_name in
    let d : S.Denot = a.0.now in let from : ℕ = a.1.0 in let to : ℕ = a.1.1.0 in
    let y : (walk_of 𝓛 En hs c).Ghost = (
      (
        κs,
        qs,
        bounds,
        a,
        (
          mut_vals a.0,
          (vint w64 from ∷ [], (vint w64 to ∷ [], tt)),
        ),
      ),
      gh,
    ) in let Post : Val → SProp 𝓤 = (walk_of 𝓛 En hs c).post y in
    let Asked : Type 0 = (from ≤ to) × (to ≤ 2048) in
    qed 𝓛 (((‵ (flft κ q) ⊛ ‵ ftrue) ⊛ ‵ (owns (MutRef (named 0) κ S ∷ usize ∷ usize ∷ []) a y.0.4))
    ∷ raw (fact 𝓤 Asked) ∷ []) ∵ move ! (1 ∷ []) $ heard ! Asked (λ asked. let ordered = asked.0 in
    let within = asked.1 in
    split ! $ split ! $ move ! (2 ∷ []) $ fsplit ! $ keep ! (0 ∷ 2 ∷ []) $
    enter ! 𝓣.C 𝓣.Λ code.function (vptr b o ∷ vint w64 from ∷ vint w64 to ∷ []) Post $
    alloc_all ! (λ l. pass_all ! refl (
      (tt, tt),
      (
        (tt, record { fits = are.1.0.1 }),
        ((tt, record { fits = are.1.1.0.1 }), tt),
      ),
    ) $
    sets ! (addr ! (through ! refl (fld ! refl (stop !)))) refl (tt, tt) $
    sets ! (bin ! (get ! refl) (get ! refl) tt) refl (tt, tt) $
    sets ! (bin ! (get ! refl) (get ! refl) ordered) refl (tt, record { fits = omega arith }) $
    sets ! (addr ! (through ! refl (stop !))) refl (tt, tt) $
    sets ! (agg ! (and_then ! (get ! refl) (and_then ! (get ! refl) (no_more !)))) refl (tt, (tt, (record { fits = omega arith }, tt))) $
    use2 𝓛 (later (some (λ (δ : GName). given (Sized 𝓛 b o κ q γ d from to ordered within)
    (lent_at 𝓛 b o κ q γ d from to ordered within (to - from) δ))))
    (lends 𝓛 b o κ q γ d from to ordered within (mut_vals a.0)) $ await ! tt $ pick ! (λ δ. learn ! (λ sized.
    returns ! (look_at ! 0 refl) $ free_all ! refl $ keep ! (0 ∷ []) $ split3 ! $
    suffices ! _ (ends_at 𝓛 En hs c y (slice_val (b, from + (o + 0)) (to - from))
    (record {
      ref_ptr = (b, from + (o + 0));
      ghost_name = δ;
      now = Rattle.std.specs.Prelude.slice_range d.bytes from to;
    }) (tt, (tt, (tt, tt))) (tt, (tt, (tt, tt)))) $
    nothing ! $ nothing ! $ fjoin ! $ nothing ! $ fjoin ! $ nothing ! $ fjoin ! $ join ! $ move ! (1 ∷ 3 ∷ []) $
    join ! $ join ! $ frame ! $ says ! (refl, sized) $ done !)))))
