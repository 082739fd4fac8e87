-- No address.
use Rattle.std.specs.Prelude.{Option, None}
use Rattle.std.proofs.Common.{◌≡◌, [], ◌∷◌, refl, lit<}
use mir.Val.{Val}
use base.Logic.{SProp, emp}
use base.Fml.{ftrue}
use types.Kit.{‵, raw, ◌⊛◌, ◌$◌, ◌∵◌, !, qed, by, keep, split, fjoin, use0}
use types.Run.{lit, no_more, and_then, returns, enter}
use types.ByLocal.{alloc_all, pass_all, free_all, look_at, sets}
use types.Part.{agg}
use contract.Running.{tables}
use contract.Monad.{fact, fact_i}
use denote.RattleType.{RattleType}
use denote.RawPtr.{null_ptr}
use denote.Steps.{nothing}
use denote.Triple.Entry.{alive}
use denote.Triple.Walked.{walk_of}
use Rattle.atomic_table.proofs.Walks.{proved, leaves}
use Rattle.skb_c.specs.contracts.depot.Depot as depots
use Rattle.skb_c.specs.contracts.handle.PoolHandle as handles
use Rattle.on_heap.proofs.Fields.{alone}
use Rattle.skb_c.proofs.Fields.{pool_made, Pool_words}
use Rattle.skb_c.specs.contracts.handle.PoolHandle.none.{ended, clauses}
use Rattle.skb_c.specs.contracts.handle.PoolHandle.none.Key.{name as #self}
use Rattle.skb_c.proofs.handle.PoolHandle.none.Statement.{statement}
use Rattle.skb_c.proofs.handle.PoolHandle.none.Code as code

pub none_spec : {M : Type 1} → statement M
none_spec 𝓤 𝓛 𝓜 𝓡 wired =
    let H = 𝓛.H in let 𝓣 = tables 𝓤 H 𝓜 𝓡 𝓡.env in let En = ended in let c = clauses 𝓛 𝓜.mem 𝓡.returns in
    let fn = code.function in let closed = code.unfolded 𝓤 H 𝓜 𝓡 wired in
    let Q : RattleType = depots.the_row in let Hr : RattleType = handles.the_row in
    proved 𝓛 En tt c 𝓜 𝓡 tt #self fn closed (λ κs. tt) (λ κs. tt) (λ κs qs bounds a gh are.
    let y : (walk_of 𝓛 En tt c).Ghost = ((κs, qs, bounds, a, tt), gh) in
    let Post : Val → SProp 𝓤 = (walk_of 𝓛 En tt c).post y in
    qed 𝓛 ((raw (alive 𝓛 En.signature κs qs) ⊛ ‵ ftrue) ∷ raw ((c κs a).requires gh) ∷ []) ∵ split ! $
    keep ! (1 ∷ 0 ∷ []) $
    enter ! 𝓣.C 𝓣.Λ fn [] Post $ alloc_all ! (λ l. pass_all ! refl tt $
    sets ! (agg ! (and_then ! (lit ! tt) (no_more !))) refl (tt, (record { fits = lit< tt }, tt)) $
    let d : Hr.Denot = record { at = null_ptr; value = None } in
    use0 𝓛 (‵ (Pool_words.own_val (null_ptr, tt) (alone null_ptr ∷ []))) (pool_made 𝓛 null_ptr) $ fjoin ! $
    let absent : Option Q.Denot = None in let Told : Type 0 = absent ≡ absent in
    use0 𝓛 (raw (fact 𝓤 Told)) (fact_i 𝓤 Told (emp 𝓤) refl) $ nothing ! $
    returns ! (look_at ! 0 refl) $ free_all ! refl $ keep ! (3 ∷ 0 ∷ 2 ∷ 1 ∷ []) $
    by ! (leaves 𝓛 En tt c y (alone null_ptr) d tt tt)))
