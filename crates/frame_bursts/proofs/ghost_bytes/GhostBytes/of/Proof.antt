-- Bytes that are known and not stored.
use Rattle.std.proofs.Common.{◌≡◌, ℕ, ◌<◌, ◌^◌, List, [], ◌∷◌, length, refl}
use mir.Val.{Val}
use base.Logic.{SProp, emp}
use types.Kit.{‵, raw, ◌⊛◌, ◌$◌, ◌∵◌, !, qed, by, keep, split, fjoin, use0}
use types.Run.{no_more, returns, enter}
use types.ByLocal.{alloc_all, pass_all, free_all, look_at, sets}
use types.Part.{agg}
use contract.Running.{tables}
use contract.Monad.{fact, fact_i}
use mir.Syntax.{named}
use denote.Builtin.{u8, SliceRefOf}
use denote.Exit.{yes}
use denote.RattleType.{RattleType, owns}
use denote.Signature.{types_at, plain}
use denote.Slice.{slice_val, shr_slice_vals, shr_slice_Tells}
use denote.Steps.{nothing}
use denote.Struct.Struct.{Struct}
use denote.Struct.Owning.{shape}
use denote.Triple.Entry.{alive}
use denote.Triple.Walked.{Stays, stay_dropped, walk_of, Goes-dropped}
use Rattle.atomic_table.proofs.Walks.{proved, leaves}
use Rattle.frame_bursts.specs.contracts.ghost_bytes.GhostBytes as ghost_bytes
use Rattle.frame_bursts.proofs.Fields.{none, ghost_bytes_made}
use Rattle.frame_bursts.specs.contracts.ghost_bytes.GhostBytes.of.{ended, clauses}
use Rattle.frame_bursts.specs.contracts.ghost_bytes.GhostBytes.of.Key.{name as #self}
use Rattle.frame_bursts.proofs.ghost_bytes.GhostBytes.of.Statement.{statement}
use Rattle.frame_bursts.proofs.ghost_bytes.GhostBytes.of.Code as code

pub of_spec : {M : Type 1} → statement M
of_spec 𝓤 𝓛 𝓜 𝓡 wired =
    let H = 𝓛.H in let 𝓣 = tables 𝓤 H 𝓜 𝓡 𝓡.env in let En = ended in let c = clauses 𝓛 𝓜.mem 𝓡.returns in
    let fn = code.function in let closed = code.unfolded 𝓤 H 𝓜 𝓡 wired in
    let Sr : RattleType = ghost_bytes.the_row in let slice = SliceRefOf (0 ∷ []) tt (plain (λ _. u8)) (λ _. tt) in
    let hs : Stays En.signature.params En.kept = (stay_dropped slice yes, tt) in
    proved 𝓛 En hs c 𝓜 𝓡 (Goes-dropped 𝓛 1 slice yes (λ κs x f. refl), tt) #self fn closed
    (λ κs. (shr_slice_vals, tt)) (λ κs. (shr_slice_Tells (named 0) κs.0 u8, tt)) (λ κs qs bounds a gh are.
    let bytes : List ℕ = a.0.now in let v : Val = slice_val a.0.ref_ptr (length bytes) in
    let count : length bytes < 2 ^ 64 = are.0.0.1.0 in
    let y : (walk_of 𝓛 En hs c).Ghost = ((κs, qs, bounds, a, (v ∷ [], tt)), gh) in
    let Post : Val → SProp 𝓤 = (walk_of 𝓛 En hs c).post y in
    qed 𝓛 ((raw (alive 𝓛 En.signature κs qs) ⊛ ‵ (owns (types_at En.signature.params κs) a y.0.4)) ∷ raw ((c κs a).requires gh) ∷ []) ∵
    keep ! (0 ∷ []) $ split ! $ keep ! (0 ∷ []) $
    enter ! 𝓣.C 𝓣.Λ fn (v ∷ []) Post $ alloc_all ! (λ l. pass_all ! refl ((tt, (tt, (record { fits = count }, tt))), tt) $
    sets ! (agg ! (no_more !)) refl (tt, tt) $
    let d : Sr.Denot = record { bytes = bytes } in
    nothing ! $ use0 𝓛 (‵ ((Struct (shape ghost_bytes.the_type)).own_val tt (none ∷ []))) (ghost_bytes_made 𝓛) $ fjoin ! $
    let Told : Type 0 = bytes ≡ bytes in
    use0 𝓛 (raw (fact 𝓤 Told)) (fact_i 𝓤 Told (emp 𝓤) refl) $ nothing ! $ nothing ! $ fjoin ! $
    returns ! (look_at ! 0 refl) $ free_all ! refl $ keep ! (3 ∷ 0 ∷ 2 ∷ 1 ∷ []) $
    by ! (leaves 𝓛 En hs c y none d (tt, tt) (tt, tt))))
