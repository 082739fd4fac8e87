-- What merging says of the rounds that were read, one after another.
use Rattle.std.specs.Prelude.{ℕ, ◌≡◌, ◌≤◌, Bool, true, false, Option, None, Some, IfSome, List, length, map}
use Rattle.block_pool.specs.PoolState.{weighed}
use Rattle.off_io.specs.Content.{SaysFlushed}
use Rattle.off_io.specs.Faults.{Rose}
use Rattle.off_io.specs.Told.{Told}
use Rattle.pcap_io.specs.declared.heads.FileHead.{FileHead}
use Rattle.pcap_io.specs.declared.place.Place.{Place}
use Rattle.offload_model.specs.Passing.{merging, Passes, PrefixUnless, flushes}
use Rattle.offload_model.specs.Steps.{round_output}
use Rattle.offload_model.specs.Written.{Options}
use Rattle.gro.specs.Slots.{packet_of}
use Rattle.rounds.specs.declared.round_writer.MergeEnd.{MergeEnd}
use Rattle.rounds.specs.declared.round_writer.MergeEnd.TheVariants as ends
use Rattle.rounds.specs.declared.round_writer.Step.{Step}
use Rattle.rounds.specs.declared.round_writer.Step.TheVariants as steps
use Rattle.rounds.specs.declared.round_stages.RoundRead.{RoundRead}
use Rattle.rounds.specs.Merging.{ending_of, options_of, is_worked, Puts, GivesUp, Ahead, TakesTo, HoldsCaptured}
use Rattle.rounds.specs.Handled.{Drawn, FewPauses}
use Rattle.rounds.specs.Reads.{Spot}
use Rattle.rounds.specs.RoundsState.{RoundsState}

-- where merging began: the place, what the source had left and the sink held, and the blocks that were taken
pub record Start : Type 0 where
  pub place : Place
  pub left : Option (List ℕ)
  pub held : Option (List ℕ)
  pub taken : ℕ

-- k rounds are gone and written, up to here
pub record Behind (blocks : ℕ) (options : Options) (file : FileHead) (start : Start) (k : ℕ) (at : Spot)
    (held : Option (List ℕ)) : Type 0 where
  pub told : Told start.left at.left (Ahead blocks options k start.place at.place start.held held start.taken at.taken)
  pub same : at.place.file ≡ file

-- merging ended so, with the source here
pub record MergingEnded (blocks : ℕ) (options : Options) (start : Start) (from to : Spot) (held : Option (List ℕ))
    (end : MergeEnd) : Type 0 where
  pub given : Told start.left to.left (Passes (merging blocks options start.place) start.held held (ending_of end))
  pub captured : Told start.left to.left (HoldsCaptured blocks options.budget start.place end)
  pub taken : Told start.left to.left (TakesTo blocks options.budget start.place start.taken to.taken (ending_of end))
  pub read : end ≡ ends.ReadFault → Rose from.faults to.faults
  pub prefix : PrefixUnless (Rose from.faults to.faults) (merging blocks options start.place) start.left to.left
      start.held held

-- a round was worked and written behind k others, or given up
pub record WroteRound (options : Options) (file : FileHead) (old new : Option (List ℕ)) (read : RoundRead) (k : ℕ)
    (step : Step) : Type 0 where
  pub puts : is_worked read.end ≡ true
      → Puts old new (round_output options file.order (map packet_of read.round.packets)) read.end step
  pub gives : is_worked read.end ≡ false
      → (end : MergeEnd) × (step ≡ steps.Ends end) × GivesUp old new k read.end end

-- ---- the sink

-- what a sink holds where it tells, whether that is flushed, and its faults
pub record Sunk : Type 0 where
  pub held : Option (List ℕ)
  pub flushed : Bool
  pub faults : ℕ

abbrev pub sink_at : {K : Type 0} → (K → Option (List ℕ)) → (K → Bool) → (K → ℕ) → K → Sunk
sink_at held is_flushed faults sink = record { held = held sink; flushed = is_flushed sink; faults = faults sink }

-- a round was written behind k others: more may follow, or merging ended
abbrev pub step_of : Option MergeEnd → Step
step_of None = steps.Goes
step_of (Some end) = steps.Ends end

-- a round was worked and written, or given up, and what the sink says of that
pub record PutRound (options : Options) (file : FileHead) (old new : Sunk) (read : RoundRead) (k : ℕ)
    (end : Option MergeEnd) : Type 0 where
  pub wrote : WroteRound options file old.held new.held read k (step_of end)
  pub flushed : IfSome end (λ e. flushes (ending_of e) ≡ true → SaysFlushed new.held new.flushed true)
  pub later : old.faults ≤ new.faults
  pub rose : IfSome end (λ e. e ≡ ends.WriteFault → Rose old.faults new.faults)

-- ---- the whole of a capture

-- Merging began at this place and ended so: what the source had left and has left, and what the sink held and holds.
pub record Merged (old new : RoundsState) (place : Place) (from to : Drawn) (before after : Sunk) (end : MergeEnd)
    : Type 0 where
  -- of each ending, what was read and written
  pub given : Told from.left to.left
      (Passes (merging old.blocks (options_of old) place) before.held after.held (ending_of end))
  -- a prefix of what comes of all the bytes that were given, unless the source failed
  pub prefix : PrefixUnless (Rose from.faults to.faults) (merging old.blocks (options_of old) place) from.left to.left
      before.held after.held
  pub flushed : flushes (ending_of end) ≡ true → SaysFlushed after.held after.flushed true
  pub home : length new.stock ≡ new.blocks
  pub named : (h : ℕ → ℕ) → weighed h new.stock ≡ weighed h old.stock
  pub same : (new.blocks ≡ old.blocks) × (options_of new ≡ options_of old) × (new.keep ≡ old.keep)
  pub taken : Told from.left to.left (TakesTo old.blocks old.budget place old.taken new.taken (ending_of end))
  pub least : old.taken ≤ new.taken
  pub pauses : FewPauses old.empties old.pauses new.empties new.pauses
  -- the packets that are merged are such as a capture may hold
  pub captured : Told from.left to.left (HoldsCaptured old.blocks old.budget place end)
  pub later : from.faults ≤ to.faults
  pub later_sink : before.faults ≤ after.faults
  pub read : end ≡ ends.ReadFault → Rose from.faults to.faults
  pub write : end ≡ ends.WriteFault → Rose before.faults after.faults
