-- How a command ends, as its caller sees it.
use Rattle.std.specs.declared.alloc.Global.{Global}
use Rattle.std.specs.Prelude.{◌≡◌, ℕ, List, Option, Result, Ok, Err, Vec}
use Rattle.pcap_io.specs.declared.faults.InFault.{InFault}
use Rattle.pcap_io.specs.declared.faults.InFault.TheVariants as faults
use Rattle.offload_model.specs.Passing.{Ending, Stopped, Nowhere, AtFault, AtRound, Passed, ReadFault, WriteFault}
use Rattle.offload_model.specs.Passing.{NoMemory, Passes}
use Rattle.rounds.specs.declared.round_writer.MergeEnd.{MergeEnd}
use Rattle.rounds.specs.declared.round_writer.MergeEnd.TheVariants as merges
use Rattle.segmenting.specs.declared.segment.SegFault.{SegFault}
use Rattle.segmenting.specs.declared.segment.SegFault.TheVariants as segments
use Rattle.offload_c.specs.declared.memory.Outcome.{Outcome}
use Rattle.offload_c.specs.declared.memory.Outcome.TheVariants as outcomes

-- ---- merging

abbrev pub IsMergeFault : InFault → MergeEnd → Type 0
IsMergeFault (faults.Cap fault) end = end ≡ merges.Malformed fault
IsMergeFault faults.ReadFault end = end ≡ merges.ReadFault

-- what the end and what was written come to
abbrev pub IsOutcomeOf : MergeEnd → Vec ℕ Global → Outcome → Type 0
IsOutcomeOf merges.Done bytes outcome = outcome ≡ outcomes.Whole bytes
IsOutcomeOf (merges.Malformed fault) bytes outcome = outcome ≡ outcomes.Refused bytes
IsOutcomeOf (merges.PoolEmpty round need) bytes outcome = outcome ≡ outcomes.Empty bytes
IsOutcomeOf _ bytes outcome = outcome ≡ outcomes.NoMemory

-- ---- segmenting

abbrev pub IsSegFault : InFault → SegFault → Type 0
IsSegFault (faults.Cap fault) end = end ≡ segments.Malformed fault
IsSegFault faults.ReadFault end = end ≡ segments.ReadFault

-- a record that exceeds the blocks is told by its need, and the round by how many records went before it
abbrev pub IsEndingFor : Result (Unit {0}) SegFault → Ending → Type 0
IsEndingFor (Ok _) ending = ending ≡ Stopped Nowhere
IsEndingFor (Err (segments.Malformed fault)) ending = ending ≡ Stopped (AtFault fault)
IsEndingFor (Err (segments.PoolEmpty need)) ending = (round : ℕ) × (ending ≡ Stopped (AtRound round need))
IsEndingFor (Err segments.ReadFault) ending = ending ≡ ReadFault
IsEndingFor (Err segments.WriteFault) ending = ending ≡ WriteFault
IsEndingFor (Err segments.NoMemory) ending = ending ≡ NoMemory

-- segmenting ends so
abbrev pub EndsAs : (List ℕ → Passed) → Option (List ℕ) → Option (List ℕ) → Result (Unit {0}) SegFault → List ℕ → List ℕ
    → Type 0
EndsAs passing old new result bytes left = (ending : Ending) × IsEndingFor result ending
    × Passes passing old new ending bytes left

abbrev pub IsSegOutcome : Result (Unit {0}) SegFault → Vec ℕ Global → Outcome → Type 0
IsSegOutcome (Ok _) bytes outcome = outcome ≡ outcomes.Whole bytes
IsSegOutcome (Err (segments.Malformed fault)) bytes outcome = outcome ≡ outcomes.Refused bytes
IsSegOutcome (Err (segments.PoolEmpty need)) bytes outcome = outcome ≡ outcomes.Empty bytes
IsSegOutcome (Err _) bytes outcome = outcome ≡ outcomes.NoMemory
