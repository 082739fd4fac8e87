-- What a contract sees of who gives blocks back that nobody wants any more, and what it may have given.
use Rattle.std.specs.Prelude.{ℕ, ◌≡◌, ◌⊎◌, ◌+◌, ◌-◌, ◌^◌, ◌≤◌, min, Option, None, Some}
use Rattle.std.specs.List.{sum_by}
use Rattle.raw_block.specs.Views.{SoleState}
use Rattle.block_pool.specs.Listed.{listed, blocks_in}
use Rattle.block_pool.specs.PassState.{risen, SharedState, PassState, IsSame, IsNew, LostPart, Put, FoundFull, Gathered}
use Rattle.block_pool.specs.PoolState.{PoolState, home}

-- the pool, the pass with which lists go there, and the list
pub record GiverState : Type 0 where
  pub pool : SharedState
  pub pass : PassState PoolState
  pub list : PoolState

-- what was given back so far, by any weight of blocks
abbrev pub given : (SoleState → ℕ) → GiverState → ℕ
given h g = listed h g.pass.put

-- and how many blocks that is
abbrev pub given_in : GiverState → ℕ
given_in g = blocks_in g.pass.put

-- with what still lies in its list
abbrev pub lying : (SoleState → ℕ) → GiverState → ℕ
lying h g = given h g + sum_by h g.list.blocks

-- it gave some of its list back, or nothing; nothing is lost, and no put that found no place is forgotten
pub record Gave (old new : GiverState) : Type 0 where
  pub pool : new.pool ≡ old.pool
  pub pass : IsSame old.pass new.pass
  pub blocks : (h : SoleState → ℕ) → lying h new ≡ lying h old
  pub least : (h : SoleState → ℕ) → given h old ≤ given h new
  pub fulls : min old.pass.fulls (2 ^ 64 - 1) ≤ new.pass.fulls

-- nothing is left in its list, or a put found no place: the count of these rose, or stands at its last value
abbrev pub GaveAll : GiverState → GiverState → Type 0
GaveAll old new = (home new.list ≡ 0) ⊎ (risen old.pass.fulls ≤ new.pass.fulls)

-- one step of the pool: the whole list went there; or it stays, since it has no block, or since all places were taken
abbrev pub PutOnce : GiverState → GiverState → Type 0
PutOnce old new =
    (Put old.pass old.list new.pass × (home new.list ≡ 0))
    ⊎ ((new.list ≡ old.list) × (((home old.list ≡ 0) × (new.pass ≡ old.pass)) ⊎ FoundFull old.pass new.pass))

-- one is two: a part of the pass, which has done nothing, and some of the list; for which there was a place, and is
pub record Split (g other new : GiverState) : Type 0 where
  pub pool : (new.pool ≡ g.pool) × (other.pool ≡ g.pool)
  pub pass : LostPart g.pass new.pass × IsNew g.pass 1 other.pass
  pub parts : new.pass.parts + 1 ≡ g.pass.parts
  pub blocks : (h : SoleState → ℕ) → lying h new + lying h other ≡ lying h g
  pub list : home new.list + home other.list ≡ home g.list
  pub made : new.list.made ≡ g.list.made
  pub room : home g.list ≤ g.list.made

-- two are one: both passes' parts and counts, and what is left of both lists in the places of the first one's
pub record Joined (g other new : GiverState) : Type 0 where
  pub pool : new.pool ≡ g.pool
  pub pass : Gathered g.pass other.pass new.pass
  pub blocks : (h : SoleState → ℕ) → lying h new ≡ lying h g + lying h other
  pub list : home new.list ≡ home g.list + home other.list
  pub made : new.list.made ≡ g.list.made

-- where there is one
abbrev pub MayGive : Option GiverState → Option GiverState → Type 0
MayGive None new = new ≡ None
MayGive (Some g) new = (g' : GiverState) × (new ≡ Some g') × Gave g g'

abbrev pub LeavesNone : Option GiverState → Option GiverState → Type 0
LeavesNone None new = new ≡ None
LeavesNone (Some g) new = (g' : GiverState) × (new ≡ Some g') × GaveAll g g'

abbrev pub given_by : Option GiverState → ℕ
given_by None = 0
given_by (Some g) = given_in g

-- and what that weighs together, each block by its name
abbrev pub weights_given : Option GiverState → (ℕ → ℕ) → ℕ
weights_given None h = 0
weights_given (Some g) h = given (λ (s : SoleState). h s.block) g
