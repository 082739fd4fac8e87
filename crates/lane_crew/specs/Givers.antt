-- A giver that is divided among tasks: what is at hand of it, and what is away.
use Rattle.std.specs.Prelude.{ℕ, ◌≡◌, ◌⊎◌, ◌+◌, ◌-◌, ◌*◌, ◌^◌, ◌<◌, ◌≤◌, min, Option, None, Some}
use Rattle.std.specs.Prelude.{List, [], ◌∷◌, ◌++◌, length}
use Rattle.std.specs.List.{sum_by, AllByRecursion}
use Rattle.raw_block.specs.Views.{SoleState}
use Rattle.block_pool.specs.PoolState.{home}
use Rattle.block_pool.specs.Giving.{GiverState, given, lying, Joined}
use Rattle.lane_crew.specs.declared.tasks.LaneTask.{LaneTask}
use Rattle.lane_crew.specs.declared.tasks.LaneTask.TheVariants as asked
use Rattle.lane_crew.specs.declared.tasks.LaneDone.{LaneDone}
use Rattle.lane_crew.specs.declared.tasks.LaneDone.TheVariants as answered

-- the giver, where there is one
abbrev pub found : Option GiverState → List GiverState
found None = []
found (Some g) = g ∷ []

-- what they gave back together, and with what lies in their lists
abbrev pub given_of : (SoleState → ℕ) → List GiverState → ℕ
given_of h gs = sum_by (given h) gs

abbrev pub lying_of : (SoleState → ℕ) → List GiverState → ℕ
lying_of h gs = sum_by (lying h) gs

-- the blocks that lie in their lists, and the parts of their passes
abbrev pub blocks_of : List GiverState → ℕ
blocks_of gs = sum_by (λ (g : GiverState). home g.list) gs

abbrev pub parts_of : List GiverState → ℕ
parts_of gs = sum_by (λ (g : GiverState). g.pass.parts) gs

-- how many puts of theirs found no place
abbrev pub fulls_of : List GiverState → ℕ
fulls_of gs = sum_by (λ (g : GiverState). g.pass.fulls) gs

-- what a task carries, and what comes back with what is done
abbrev pub part_of : LaneTask → Option GiverState
part_of (asked.Queue t) = t.giver
part_of (asked.Tap t) = t.giver

abbrev pub carried : List LaneTask → List GiverState
carried [] = []
carried (t ∷ ts) = found (part_of t) ++ carried ts

abbrev pub back_of : LaneDone → Option GiverState
back_of (answered.Queue d) = d.giver
back_of (answered.Tap d) = d.giver

abbrev pub returned : List LaneDone → List GiverState
returned [] = []
returned (d ∷ ds) = found (back_of d) ++ returned ds

-- it gives to the same pool
abbrev pub IsAlike : GiverState → GiverState → Type 0
IsAlike g other = (other.pool ≡ g.pool) × (other.pass.pool ≡ g.pass.pool) × (other.pass.size ≡ g.pass.size)

-- for what is away there is room at hand
abbrev pub HasRoom : GiverState → List GiverState → Type 0
HasRoom here away = 1 ≤ length away → home here.list + blocks_of away ≤ here.list.made

-- of all that gave at first: nothing of it is lost
pub record IsDivided (g here : GiverState) (away : List GiverState) : Type 0 where
  pub pool : AllByRecursion (IsAlike g) (here ∷ away)
  pub parts : parts_of (here ∷ away) ≡ g.pass.parts
  pub blocks : (h : SoleState → ℕ) → lying_of h (here ∷ away) ≡ lying h g
  pub least : (h : SoleState → ℕ) → given h g ≤ given_of h (here ∷ away)
  pub fulls : min g.pass.fulls (2 ^ 64 - 1) ≤ fulls_of (here ∷ away)
  pub room : HasRoom here away

abbrev pub Divided : Option GiverState → Option GiverState → List GiverState → Type 0
Divided None here away = (here ≡ None) × (away ≡ [])
Divided (Some g) None away = ⊥
Divided (Some g) (Some here) away = IsDivided g here away

-- ---- how it is divided

-- the blocks that a task carries
abbrev pub carried_in : Option GiverState → ℕ
carried_in None = 0
carried_in (Some g) = home g.list

-- evenly divided among n, what stays at hand is no more than this part; or no part of the pass is left for another
abbrev pub HasShare : ℕ → Option GiverState → Option GiverState → Type 0
HasShare n None part = Unit {0}
HasShare n (Some here) part = (home here.list < (carried_in part + 1) * n) ⊎ (here.pass.parts ≤ 1)

abbrev pub HaveShares : ℕ → Option GiverState → List LaneTask → Type 0
HaveShares n here ts = AllByRecursion (λ t. HasShare n here (part_of t)) ts

-- there is no more at hand than there was
abbrev pub IsLess : Option GiverState → Option GiverState → Type 0
IsLess None now = now ≡ None
IsLess (Some g) now = (g' : GiverState) × (now ≡ Some g') × (home g'.list ≤ home g.list)
    × (g'.pass.parts ≤ g.pass.parts)

-- one of n tasks that are still to go was given this part, or none
pub record Carries (n : ℕ) (here now part : Option GiverState) : Type 0 where
  pub divided : (old : Option GiverState) (away : List GiverState) → Divided old here away
      → Divided old now (away ++ found part)
  pub share : HasShare n now part
  pub less : IsLess here now

-- one of those that are away may come back
abbrev pub MayReturn : Option GiverState → List GiverState → Type 0
MayReturn here away = (old : Option GiverState) × Divided old here away

abbrev pub MayJoin : Option GiverState → Option GiverState → Type 0
MayJoin here None = Unit {0}
MayJoin None (Some other) = ⊥
MayJoin (Some g) (Some other) = (other.pool ≡ g.pool) × (home g.list + home other.list ≤ g.list.made)

-- it came back, or there was none
abbrev pub Rejoined : Option GiverState → Option GiverState → Option GiverState → Type 0
Rejoined here None new = new ≡ here
Rejoined None (Some other) new = ⊥
Rejoined (Some g) (Some other) new = (g' : GiverState) × (new ≡ Some g') × Joined g other g'
