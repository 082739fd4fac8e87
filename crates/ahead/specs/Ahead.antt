-- What is said of a round that is read beside the work of another.
use Rattle.std.specs.Prelude.{ℕ, ◌≡◌, ◌≢◌, ◌+◌, ◌-◌, ◌^◌, ◌<◌, ◌≤◌, List, length, map, min, Option, Some, Ok}
use Rattle.std.specs.List.{AllByRecursion}
use Rattle.block_pool.specs.PoolState.{weighed}
use Rattle.off_io.specs.Faults.{Rose}
use Rattle.off_io.specs.Told.{Told}
use Rattle.pcap_io.specs.declared.heads.RecHead.{RecHead}
use Rattle.pcap_io.specs.declared.place.Place.{Place}
use Rattle.pcap_io.specs.Reading.{GivesHead}
use Rattle.offload_model.specs.Captured.{IsCaptured}
use Rattle.offload_model.specs.Need.{need_of, round_need}
use Rattle.gro.specs.declared.slot.Slot.{Slot as Held}
use Rattle.gro.specs.Slots.{packet_of}
use Rattle.rounds.specs.Fresh.{NumberedFrom}
use Rattle.rounds.specs.Filling.{Reached}
use Rattle.rounds.specs.Reading.{GivesRound, PassesRound}
use Rattle.reading.specs.Reading.{KeepsHead, Passes}
use Rattle.rounds.specs.RoundOf.{Brought, Came, TakesBlocks}
use Rattle.rounds.specs.RoundsState.{IntakeState, ReadingState, RoundState}
use Rattle.rounds.specs.Weights.{weights_of}
use Rattle.rounds.specs.declared.round_stages.Halt.{Halt}
use Rattle.rounds.specs.declared.round_stages.Halt.TheVariants as halts
use Rattle.ahead.specs.PausedState.{PausedState as Paused}
use Rattle.ahead.specs.declared.paused.ReadAhead.{ReadAhead}
use Rattle.ahead.specs.declared.paused.ReadAhead.TheVariants as aheads
use Rattle.rounds.specs.declared.round_stages.RoundEnd.{RoundEnd}
use Rattle.rounds.specs.declared.round_stages.RoundEnd.TheVariants as ends
use Rattle.rounds.specs.declared.round_stages.RoundRead.{RoundRead}

-- what was read, whole or not
abbrev pub round_of : ReadAhead → RoundState
round_of (aheads.Read read) = read.round
round_of (aheads.Paused paused) = paused.round

-- of a round that has an end
abbrev pub IfRead : ReadAhead → (RoundRead → Type 0) → Type 0
IfRead (aheads.Read read) P = P read
IfRead (aheads.Paused paused) P = Unit {0}

-- of a round that goes on
abbrev pub IfPaused : ReadAhead → (Paused → Type 0) → Type 0
IfPaused (aheads.Read read) P = Unit {0}
IfPaused (aheads.Paused paused) P = P paused

-- packets with numbers in turn, up to this one
abbrev pub NumberedTo : ℕ → List Held → Type 0
NumberedTo n round = (k : ℕ) × NumberedFrom k round × (k + length round ≡ n)

-- with whatever number the first packets begin
abbrev pub NumbersOn : ℕ → List Held → List Held → Type 0
NumbersOn n first round = (k : ℕ) → NumberedFrom k first → k + length first ≡ n → NumberedFrom k round

-- from wherever the first packets were taken, the whole round was, and the next one may be
abbrev pub FillsRound : Place → Place → List Held → List Held → ℕ → Type 0
FillsRound mid new first round budget = (from : Place) → PassesRound from mid first (length first)
    → PassesRound from new round budget

-- The reader stands behind the header of a record of a round that goes on, which is kept: up to the place of that
-- header the packets stand. What the source had left before is `from`, and `to` what it has left.
pub record Waits (budget : ℕ) (old new : Place) (from to : Option (List ℕ)) (p : Paused) : Type 0 where
  pub at : Place
  pub goes : PassesRound old at p.round.packets (length p.round.packets)
  pub keeps : KeepsHead at new p.head
  pub fewer : length p.round.packets < budget
  pub numbers : NumberedTo at.number p.round.packets
  pub given : Told from to (λ bytes left. (opened : List ℕ)
      × (Passes old at (map packet_of p.round.packets) bytes opened × GivesHead at (Ok (Some p.head)) opened left))

-- Fewer blocks are home than the record needs whose header is kept, and with it the round doesn't exceed the blocks.
-- The counts of takes, before and after, say what the read took until then.
pub record Lacks (home blocks before after : ℕ) (p : Paused) : Type 0 where
  pub short : home < need_of p.head.captured
  pub fits : p.round.blocks + need_of p.head.captured ≤ blocks
  pub took : after ≡ min (before + p.empty.takes) (2 ^ 64 - 1)
  pub below : p.empty.takes < p.round.blocks + need_of p.head.captured

-- of wherever the first packets were read, and whatever bytes the header behind them was taken of, the whole round is
-- what its end says
abbrev pub GivesBehind : ℕ → Place → Place → RecHead → List Held → List Held → RoundEnd → List ℕ → List ℕ → Type 0
GivesBehind blocks at new head first round end bytes left =
    (from : Place) → (before opened : List ℕ) → Passes from at (map packet_of first) before opened
    → GivesHead at (Ok (Some head)) opened bytes → GivesRound blocks from new round end before left

-- the round that was read, from one place to another
pub record ReadsAhead (budget : ℕ) (old new : Place) (ahead : ReadAhead) : Type 0 where
  pub size : length (round_of ahead).packets ≤ budget
  pub fewer : IfRead ahead (λ read. read.end ≢ ends.Full → read.end ≢ ends.NoMemory
      → length read.round.packets < budget)
  pub full : IfRead ahead (λ read. read.end ≡ ends.Full → PassesRound old new read.round.packets budget)
  pub captured : AllByRecursion IsCaptured (map packet_of (round_of ahead).packets)
  pub numbers : NumberedFrom old.number (round_of ahead).packets
  pub need : (round_of ahead).blocks ≡ round_need (map packet_of (round_of ahead).packets)

-- what a round that was read so far comes to
abbrev pub IsAheadOf : ReadingState → Halt → ReadAhead → Type 0
IsAheadOf reading (halts.Ended end) (aheads.Read read) = (read.round ≡ reading.round) × (read.end ≡ end)
IsAheadOf reading (halts.Ended end) (aheads.Paused paused) = ⊥
IsAheadOf reading halts.Lacking (aheads.Read read) = ⊥
IsAheadOf reading halts.Lacking (aheads.Paused paused) =
    (paused.round ≡ reading.round) × (reading.head ≡ Some paused.head) × (paused.empty.takes ≡ reading.round.blocks)

-- a whole round, or one that is paused
pub record FillsAhead (blocks budget : ℕ) (from to : Reached) (ahead : ReadAhead) : Type 0 where
  pub given : IfRead ahead (λ read. Told from.left to.left
      (GivesRound blocks from.place to.place read.round.packets read.end))
  pub reads : ReadsAhead budget from.place to.place ahead
  pub waits : IfPaused ahead (Waits budget from.place to.place from.left to.left)
  pub later : from.faults ≤ to.faults
  pub failed : IfRead ahead (λ read. read.end ≡ ends.ReadFault → Rose from.faults to.faults)

-- The next round was read as far as its blocks came: what it is, what it lacks where it goes on, and what was brought
-- and taken meanwhile.
pub record ReadsNext (from to : Reached) (old new : IntakeState) (before after : Brought) (ahead : ReadAhead) : Type 0 where
  pub fills : FillsAhead old.blocks old.budget from to ahead
  pub paused : IfPaused ahead (Lacks (length new.stock) old.blocks old.taken new.taken)
  pub refused : IfPaused ahead (λ _. min (before.refusals + 1) (2 ^ 64 - 1) ≤ after.refusals)
  pub came : Came before after (length old.stock) (length new.stock + (round_of ahead).blocks)
      (λ h. weighed h old.stock) (λ h. weighed h new.stock + weights_of (round_of ahead) h)
  pub same : (new.blocks ≡ old.blocks) × (new.budget ≡ old.budget) × (new.empties ≡ old.empties)
      × (new.pauses ≡ old.pauses)
  pub budget : (1 ≤ old.budget) × (old.budget ≤ 4096)
  pub takes : TakesBlocks old.blocks old.taken new.taken 0 (round_of ahead).blocks
