-- Bytes that only contracts have have no data. Assumes `Logic`.
use Rattle.std.proofs.Common.{[], ◌∷◌, refl}
use seplogic.Ra.Ura.{Ura}
use mir.Val.{Val, vstruct, vnil}
use base.Logic.{ent, emp}
use types.Logic.{Logic, sem}
use denote.Shadow.{makes_shadow}
use denote.Struct.Struct.{Struct}
use denote.Struct.Owning.{shape}
use Rattle.frame_bursts.specs.contracts.ghost_bytes.GhostBytes as ghost_bytes

abbrev pub none : Val
none = vstruct vnil

pub ghost_bytes_made : {M : Type 1} {𝓤 : Ura M} (𝓛 : Logic 𝓤) → ent 𝓤 (emp 𝓤) (sem 𝓛 ((Struct (shape ghost_bytes.the_type)).own_val tt (none ∷ [])))
ghost_bytes_made 𝓛 = makes_shadow 𝓛 ((Struct (shape ghost_bytes.the_type)).own_val tt (none ∷ [])) (λ vss. (tt, tt)) (tt, (refl, tt))
