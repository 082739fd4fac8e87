-- The side of rounds that works: what it needs so that blocks may come home, and what is so once they have.
use Rattle.std.specs.Prelude.{ℕ, ◌≡◌, ◌⊎◌, ◌+◌, ◌-◌, ◌^◌, ◌≤◌, min, Option, None, Some, List, [], length}
use Rattle.std.specs.Prelude.{map, true, Bool, IfErr, IfOk, Result}
use Rattle.std.specs.List.{AllByRecursion}
use Rattle.raw_block.specs.Views.{SoleState}
use Rattle.block_pool.specs.Giving.{GiverState, given_by, given_in, weights_given}
use Rattle.block_pool.specs.PassState.{risen, IsSame}
use Rattle.block_pool.specs.PoolState.{PoolState, home, weighed}
use Rattle.offload_model.specs.Captured.{IsCaptured}
use Rattle.offload_model.specs.Written.{Options}
use Rattle.gro.specs.Slots.{packet_of}
use Rattle.lanes.specs.Work.{options_by}
use Rattle.rounds.specs.Fresh.{NumberedFrom}
use Rattle.rounds.specs.RoundsState.{BenchState, IntakeState, RestState, RoundState, WorkedState}
use Rattle.rounds.specs.Lanes.{WorksAs}
use Rattle.rounds.specs.Weights.{weights_left, weights_of, weights_worked}

abbrev pub options_at : BenchState → Options
options_at bench = options_by bench.plan bench.budget

-- nothing differs but the places
abbrev pub IsSameBench : BenchState → BenchState → Type 0
IsSameBench old new = new ≡ record old { room = new.room }

-- Both sides are of the same rounds. What is out may come home: as a packet, and as a clone that is kept of it.
pub record AreOne (intake : IntakeState) (bench : BenchState) : Type 0 where
  pub blocks : bench.blocks ≡ intake.blocks
  pub budget : bench.budget ≡ intake.budget
  pub few : (1 ≤ intake.budget) × (intake.budget ≤ 4096)
  pub room : intake.blocks + intake.blocks ≤ bench.room + (length intake.stock + length intake.stock)

-- there are places for what may be given back of all blocks, but n that came home since they were made
abbrev pub HasRoom : ℕ → BenchState → Type 0
HasRoom n bench = bench.blocks + bench.blocks ≤ bench.room + (n + n)

-- n blocks of a round may come home to this pool
pub record MayBring (n : ℕ) (bench : BenchState) (pool : PoolState) : Type 0 where
  pub out : home pool + n ≤ pool.made
  pub few : n ≤ bench.blocks
  pub room : n + n ≤ bench.room

-- They came home, just these by what their names weigh, and nothing was taken.
pub record Brings (n : ℕ) (weights : (ℕ → ℕ) → ℕ) (bench bench' : BenchState) (pool pool' : PoolState) : Type 0 where
  pub count : home pool' ≡ home pool + n
  pub named : (h : ℕ → ℕ) → weighed h pool'.blocks ≡ weighed h pool.blocks + weights h
  pub made : pool'.made ≡ pool.made
  pub taken : pool'.taken ≡ pool.taken
  pub room : bench.room ≤ bench'.room + (n + n)
  pub same : IsSameBench bench bench'

-- the same, but that some of them went to others by a giver; so the places are those of what came home
pub record BringsBeside (n : ℕ) (weights : (ℕ → ℕ) → ℕ) (bench bench' : BenchState) (pool pool' : PoolState)
    (giver giver' : Option GiverState) : Type 0 where
  pub count : home pool' + given_by giver' ≡ home pool + n + given_by giver
  pub named : (h : ℕ → ℕ) → weighed h pool'.blocks + weights_given giver' h
      ≡ weighed h pool.blocks + weights h + weights_given giver h
  pub made : pool'.made ≡ pool.made
  pub taken : pool'.taken ≡ pool.taken
  pub room : bench.room + (home pool + home pool) ≤ bench'.room + (home pool' + home pool')
  pub same : IsSameBench bench bench'

-- a giver that may be lent for a round: its list has no block
abbrev pub IsLent : Option GiverState → Type 0
IsLent None = Unit {0}
IsLent (Some g) = home g.list ≡ 0

-- it is back: of the same pool, with as many parts, and without blocks; what it gave it gave, and no put that found no
-- place is forgotten
pub record IsBack (old new : GiverState) : Type 0 where
  pub pool : new.pool ≡ old.pool
  pub pass : IsSame old.pass new.pass
  pub none : home new.list ≡ 0
  pub least : given_in old ≤ given_in new
  pub fulls : min old.pass.fulls (2 ^ 64 - 1) ≤ new.pass.fulls

abbrev pub Lends : Option GiverState → Option GiverState → Type 0
Lends None new = new ≡ None
Lends (Some g) new = (g' : GiverState) × (new ≡ Some g') × IsBack g g'

-- A round of so many blocks was worked, or is left: the giver is back, and what it gave is the round's no more.
pub record LendsWork (blocks : ℕ) (weights : (ℕ → ℕ) → ℕ) (from to : Option GiverState)
    (result : Result WorkedState RestState) : Type 0 where
  pub worked : IfOk result (λ w. w.blocks + given_by to ≡ blocks + given_by from)
  pub named : IfOk result (λ w. (h : ℕ → ℕ) → weights_worked w h + weights_given to h
      ≡ weights h + weights_given from h)
  pub rest : IfErr result (λ r. r.blocks + given_by to ≡ blocks + given_by from)
  pub named_back : IfErr result (λ r. (h : ℕ → ℕ) → weights_left r h + weights_given to h
      ≡ weights h + weights_given from h)
  pub gave : Lends from to

-- where somebody gives, none of these stays with a round, or a put found no place: the count of these rose, or stands
-- at its last value
abbrev pub LeavesNoSpare : Option GiverState → Option GiverState → List SoleState → Type 0
LeavesNoSpare None new spares = Unit {0}
LeavesNoSpare (Some g) new spares =
    (g' : GiverState) × (new ≡ Some g') × ((spares ≡ []) ⊎ (risen g.pass.fulls ≤ g'.pass.fulls))

-- how many puts of who gives found no place
abbrev pub fulls_by : Option GiverState → ℕ
fulls_by None = 0
fulls_by (Some g) = g.pass.fulls

-- Where somebody gives this holds, or a put found no place: the count of these rose, or stands at its last value.
abbrev pub UnlessFull : Option GiverState → Option GiverState → Type 0 → Type 0
UnlessFull None new P = Unit {0}
UnlessFull (Some g) new P = P ⊎ (risen g.pass.fulls ≤ fulls_by new)

-- so many blocks more were given
abbrev pub GivesSpares : ℕ → Option GiverState → Option GiverState → Type 0
GivesSpares n old new = UnlessFull old new (given_by old + n ≤ given_by new)

-- The round that lay there was worked beside others, or what is left of it is there for want of memory. Nothing of it
-- lies there any more, and who gives gave its spares.
pub record WorksLent (gives : Bool) (bench bench' : BenchState) (round round' : RoundState)
    (giver giver' : Option GiverState) (result : Result WorkedState RestState) : Type 0 where
  pub works : WorksAs (options_at bench) bench.keep (map packet_of round.packets) result
  pub lends : LendsWork round.blocks (weights_of round) giver giver' result
  pub spent : (round'.packets ≡ []) × (round'.spares ≡ [])
  pub gives_spares : gives ≡ true → IfOk result (λ _. GivesSpares (length round.spares) giver giver')
  pub same : bench' ≡ bench

-- a list against the giver's, where there is one
abbrev pub Swaps : Option GiverState → Option GiverState → PoolState → PoolState → Type 0
Swaps None new list list' = (new ≡ None) × (list' ≡ list)
Swaps (Some g) new list list' = (new ≡ Some (record g { list = list })) × (list' ≡ g.list)

-- a round as it is read
pub record IsAsRead (round : RoundState) : Type 0 where
  pub few : length round.packets ≤ 4096
  pub captured : AllByRecursion IsCaptured (map packet_of round.packets)
  pub numbers : (k : ℕ) × NumberedFrom k round.packets
