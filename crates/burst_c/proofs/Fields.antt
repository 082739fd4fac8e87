-- The data field of what C holds. Assumes `Logic`.
use Rattle.std.proofs.Common.{◌≡◌, List, [], ◌∷◌, ◌++◌, refl, ap, ◌∙◌}
use seplogic.Ra.Ura.{Ura}
use mir.Val.{Val, vstruct, of_list}
use base.Logic.{ent, emp}
use types.Logic.{Logic, sem}
use denote.RattleType.{RattleType}
use denote.Laws.{Is}
use denote.RawPtr.{Ptr, ptr_val}
use denote.Shadow.{makes_shadow}
use denote.Struct.Struct.{Struct}
use denote.Struct.Owning.{shape}
use Rattle.on_heap.proofs.Fields.{alone}
use Rattle.burst_c.specs.contracts.handle.Handle as handles

abbrev pub Handle_words : RattleType
Handle_words = Struct (shape handles.the_type)

pub handle_told : (p : Ptr) (vs : List Val) → Is Handle_words (p, tt) vs → vs ≡ alone p ∷ []
handle_told p vs is = is.1.0 ∙ ap (λ (ws : List Val). vstruct (of_list (ws ++ [])) ∷ []) is.1.1.0

pub handle_made : {M : Type 1} {𝓤 : Ura M} (𝓛 : Logic 𝓤) (p : Ptr) → ent 𝓤 (emp 𝓤) (sem 𝓛 (Handle_words.own_val (p, tt) (alone p ∷ [])))
handle_made 𝓛 p = makes_shadow 𝓛 (Handle_words.own_val (p, tt) (alone p ∷ [])) (λ vss. (tt, (tt, tt))) ((ptr_val p ∷ [], tt), (refl, (refl, tt)))
