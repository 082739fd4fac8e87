-- The data field of what C holds. Assumes `Logic`.
use Rattle.std.proofs.Common.{◌≡◌, List, [], ◌∷◌, ◌++◌, refl, ap, ◌∙◌}
use seplogic.Ra.Ura.{Ura}
use mir.Val.{Val, vstruct, of_list}
use base.Logic.{ent, emp}
use types.Logic.{Logic, sem}
use denote.RattleType.{RattleType}
use denote.Laws.{Is}
use denote.RawPtr.{Ptr, ptr_val}
use denote.Shadow.{makes_shadow}
use denote.Struct.Struct.{Struct}
use denote.Struct.Owning.{shape}
use Rattle.on_heap.proofs.Fields.{alone}
use Rattle.skb_c.specs.contracts.handle.PoolHandle as pools
use Rattle.skb_c.specs.contracts.handle.SkbHandle as skbs

abbrev pub Pool_words : RattleType
Pool_words = Struct (shape pools.the_type)

pub pool_told : (p : Ptr) (vs : List Val) → Is Pool_words (p, tt) vs → vs ≡ alone p ∷ []
pool_told p vs is = is.1.0 ∙ ap (λ (ws : List Val). vstruct (of_list (ws ++ [])) ∷ []) is.1.1.0

pub pool_made : {M : Type 1} {𝓤 : Ura M} (𝓛 : Logic 𝓤) (p : Ptr) → ent 𝓤 (emp 𝓤) (sem 𝓛 (Pool_words.own_val (p, tt) (alone p ∷ [])))
pool_made 𝓛 p = makes_shadow 𝓛 (Pool_words.own_val (p, tt) (alone p ∷ [])) (λ vss. (tt, (tt, tt))) ((ptr_val p ∷ [], tt), (refl, (refl, tt)))

-- the same of a buffer
abbrev pub Skb_words : RattleType
Skb_words = Struct (shape skbs.the_type)

pub skb_told : (p : Ptr) (vs : List Val) → Is Skb_words (p, tt) vs → vs ≡ alone p ∷ []
skb_told p vs is = is.1.0 ∙ ap (λ (ws : List Val). vstruct (of_list (ws ++ [])) ∷ []) is.1.1.0

pub skb_made : {M : Type 1} {𝓤 : Ura M} (𝓛 : Logic 𝓤) (p : Ptr) → ent 𝓤 (emp 𝓤) (sem 𝓛 (Skb_words.own_val (p, tt) (alone p ∷ [])))
skb_made 𝓛 p = makes_shadow 𝓛 (Skb_words.own_val (p, tt) (alone p ∷ [])) (λ vss. (tt, (tt, tt))) ((ptr_val p ∷ [], tt), (refl, (refl, tt)))
