-- What a contract sees of rounds: which blocks are home, how many were made and were taken, how often a take found no
-- list while a round was read beside work, how often such a round was paused, and of a round what it holds.
use Rattle.std.specs.Prelude.{ℕ, Bool, List, Option}
use Rattle.raw_block.specs.Views.{SoleState}
use Rattle.pcap_io.specs.declared.heads.RecHead.{RecHead}
use Rattle.gro.specs.declared.slot.Slot.{Slot}
use Rattle.taps.specs.declared.clones.TapClone.{TapClone}
use Rattle.lanes.specs.declared.lane.Lanes.{Lanes}
use Rattle.lanes.specs.declared.plan.LanePlan.{LanePlan}
use Rattle.rounds.specs.declared.spares.Spares.{Spares}

-- what became of spares while their rounds were worked, how many packets a round may have, how its work is divided, and
-- whether a clone of each packet is kept
pub record RoundsState : Type 0 where
  pub stock : List SoleState
  pub blocks : ℕ
  pub taken : ℕ
  pub empties : ℕ
  pub pauses : ℕ
  pub spares : Spares
  pub budget : ℕ
  pub plan : LanePlan
  pub keep : Bool

-- of the side that reads: its blocks, and how many packets a round may have
pub record IntakeState : Type 0 where
  pub stock : List SoleState
  pub blocks : ℕ
  pub taken : ℕ
  pub empties : ℕ
  pub pauses : ℕ
  pub budget : ℕ

-- of the side that works: how many places it has for what is given back, for how many blocks, how many packets a round
-- may have, how its work is divided, and whether a clone of each packet is kept
pub record BenchState : Type 0 where
  pub room : ℕ
  pub blocks : ℕ
  pub budget : ℕ
  pub plan : LanePlan
  pub keep : Bool

pub record RoundState : Type 0 where
  pub packets : List Slot
  pub spares : List SoleState
  pub blocks : ℕ

-- a round that is read, the header that is kept behind it, and for how many packets its lists have room
pub record ReadingState : Type 0 where
  pub round : RoundState
  pub head : Option RecHead
  pub size : ℕ

-- the lanes, and the clones that were kept
pub record WorkedState : Type 0 where
  pub lanes : Lanes
  pub clones : List TapClone
  pub spares : List SoleState
  pub blocks : ℕ

-- what is left of a round, at whichever point it ends
pub record RestState : Type 0 where
  pub packets : List Slot
  pub lanes : Lanes
  pub spares : List SoleState
  pub blocks : ℕ
