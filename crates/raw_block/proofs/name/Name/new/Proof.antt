use Rattle.std.proofs.Common.{◌-◌, [], ◌∷◌, refl}
use Rattle.raw_block.specs.Shares.{about_nothing, name_owns}
use Rattle.raw_block.proofs.Entries.{entry_new}
use types.Kit.{‵, raw, ◌⊛◌, ◌$◌, ◌∵◌, !, qed, by, keep, split, fjoin, use0, later, some, await, pick}
use Rattle.raw_block.proofs.Walking.{ex, basic, via, full_weight, Val, SProp, GName, sem, no_more, returns, enter}
use Rattle.raw_block.proofs.Walking.{alloc_all, pass_all, free_all, look_at, sets, agg, tables, RattleType, owns}
use Rattle.raw_block.proofs.Walking.{types_at, nothing, alive, Stays, walk_of}
use Rattle.raw_block.proofs.Walking.{proved, leaves}
use Rattle.raw_block.specs.contracts.name.Name as name
use Rattle.raw_block.proofs.Fields.{none, name_made}
use Rattle.raw_block.specs.contracts.name.Name.new.{ended, clauses}
use Rattle.raw_block.specs.contracts.name.Name.new.Key.{name as #self}
use Rattle.raw_block.proofs.name.Name.new.Statement.{statement}
use Rattle.raw_block.proofs.name.Name.new.Code as code
use denote.Struct.Struct
use denote.Struct.Owning

pub new_spec : {M : Type 1} → statement M
new_spec 𝓤 𝓛 𝓜 𝓡 wired =
    let H = 𝓛.H in let 𝓣 = tables 𝓤 H 𝓜 𝓡 𝓡.env in let En = ended in let c = clauses 𝓛 𝓜.mem 𝓡.returns in
    let fn = code.function in let closed = code.unfolded 𝓤 H 𝓜 𝓡 wired in
    let Nr : RattleType = name.the_row in let hs : Stays En.signature.params En.kept = tt in
    proved 𝓛 En hs c 𝓜 𝓡 tt #self fn closed (λ κs. tt) (λ κs. tt) (λ κs qs bounds a gh are.
    let y : (walk_of 𝓛 En hs c).Ghost = ((κs, qs, bounds, a, tt), gh) in let Post : Val → SProp 𝓤 = (walk_of 𝓛 En hs c).post y in
    qed 𝓛 ((raw (alive 𝓛 En.signature κs qs) ⊛ ‵ (owns (types_at En.signature.params κs) a y.0.4)) ∷ raw ((c κs a).requires gh) ∷ []) ∵
    keep ! (0 ∷ []) $ split ! $ keep ! (0 ∷ []) $
    enter ! 𝓣.C 𝓣.Λ fn [] Post $ alloc_all ! (λ l. pass_all ! refl tt $
    use0 𝓛 (later (some (λ (γ : GName). ‵ (name_owns γ))))
    (via 𝓤 _ (entry_new 𝓛 full_weight (full_weight - 1) about_nothing)
    (basic 𝓛 (ex 𝓤 (λ (γ : GName). sem 𝓛 (name_owns γ))))) $ await ! tt $ pick ! (λ g.
    sets ! (agg ! (no_more !)) refl (tt, tt) $ let d : Nr.Denot = record { id = g } in
    use0 𝓛 (‵ ((denote.Struct.Struct.Struct (denote.Struct.Owning.shape name.the_type)).own_val tt (none ∷ [])))
    (name_made 𝓛) $ fjoin ! $ nothing ! $ nothing ! $
    returns ! (look_at ! 0 refl) $ free_all ! refl $ keep ! (3 ∷ 0 ∷ 2 ∷ 1 ∷ []) $ by ! (leaves 𝓛 En hs c y none d tt tt))))
