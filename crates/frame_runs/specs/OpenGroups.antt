-- The open groups, as a contract sees them.
use Rattle.std.specs.Prelude.{ℕ, Option, List}
use Rattle.slab.specs.Slab.{Slab}
use Rattle.frame_runs.specs.declared.flows.Group.{Group}

-- the groups, each under its key of the slab; the entries of the map from a flow's key to that, and how many more fit;
-- and what stands at each place of the table, counted from 1
pub record OpenGroups : Type 0 where
  pub groups : Slab Group
  pub entries : List (Option (List ℕ) × ℕ)
  pub room : ℕ
  pub places : List ℕ
