-- The places that items need, made before anything moves.
use Rattle.std.specs.Prelude.{ℕ, ◌≡◌, ◌≤◌, List, [], ◌∷◌, length}
use Rattle.std.specs.List.{AllByRecursion}
use Rattle.frags.specs.OutcomesState.{OutcomesState, IsBare}
use Rattle.gro_table.specs.declared.packet.Packet.{Packet as Held}
use Rattle.gro_table.specs.declared.places.Places.{Places}
use Rattle.gro_table.specs.declared.places.Places.TheVariants.{Alone, Several}
use Rattle.gro_table.specs.Build.{pieces_in, free_in}

abbrev pub AreBare : List OutcomesState → Type 0
AreBare outs = AllByRecursion IsBare outs

abbrev pub IsEmpty : Places → Type 0
IsEmpty (Alone out) = IsBare out
IsEmpty (Several pieces out) = (pieces.pieces ≡ []) × IsBare out

abbrev pub AreEmpty : List Places → Type 0
AreEmpty ps = AllByRecursion IsEmpty ps

-- empty, with room for so many pieces, and for so many blocks beside them
abbrev pub AreSeveral : ℕ → ℕ → Places → Type 0
AreSeveral count free (Alone out) = ⊥
AreSeveral count free (Several pieces out) = IsEmpty (Several pieces out) × (count ≤ pieces.room) × (free ≤ out.spare)

-- empty, with the places that the item of these packets needs
abbrev pub IsPlaceOf : List Held → Places → Type 0
IsPlaceOf ps (Alone out) = (length ps ≤ 1) × IsBare out × (2 ≤ out.spare)
IsPlaceOf ps (Several pieces out) = (2 ≤ length ps) × AreSeveral (pieces_in ps) (free_in ps) (Several pieces out)

abbrev pub ArePlacesOf : List (List Held) → List Places → Type 0
ArePlacesOf [] ps = ps ≡ []
ArePlacesOf (r ∷ rs) [] = ⊥
ArePlacesOf (r ∷ rs) (p ∷ ps) = IsPlaceOf r p × ArePlacesOf rs ps
