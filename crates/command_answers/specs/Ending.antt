-- How a command that reads a capture and writes one ended, by its status.
use Rattle.std.specs.Prelude.{◌≡◌, ◌≤◌, ℕ, Bool, true, List, ◌++◌, Option, Some, None, ⊤}
use Rattle.off_io.specs.Content.{SaysFlushed}
use Rattle.off_io.specs.Faults.{Rose}
use Rattle.pcap_io.specs.declared.faults.InFault.{InFault}
use Rattle.pcap_io.specs.declared.faults.InFault.TheVariants as faults
use Rattle.offload_model.specs.Passing.{Ending, Stopped, Nowhere, AtFault, AtRound, ReadFault, WriteFault, NoMemory}
use Rattle.offload_model.specs.Passing.{flushes}
use Rattle.command_answers.specs.declared.status.Status.{Status}
use Rattle.command_answers.specs.declared.status.Status.TheVariants as statuses

-- words that are no command end nothing
abbrev pub ending_of : Status → Option Ending
ending_of statuses.Ok = Some (Stopped Nowhere)
ending_of statuses.Usage = None
ending_of (statuses.Malformed fault) = Some (Stopped (AtFault fault))
ending_of (statuses.PoolEmpty round need blocks) = Some (Stopped (AtRound round need))
ending_of statuses.ReadFault = Some ReadFault
ending_of statuses.WriteFault = Some WriteFault
ending_of statuses.NoMemory = Some NoMemory

-- there is an ending, and this holds of it
abbrev pub Ends : (Ending → List ℕ → List ℕ → Type 0) → Option Ending → List ℕ → List ℕ → Type 0
Ends P None given left = ⊥
Ends P (Some ending) given left = P ending given left

-- after which endings a sink that tells says that all is flushed
abbrev pub FlushesAt : Option (List ℕ) → Bool → Option Ending → Type 0
FlushesAt held is_flushed None = ⊤
FlushesAt held is_flushed (Some ending) = flushes ending ≡ true → SaysFlushed held is_flushed true

-- an empty pool is one of this many blocks
abbrev pub HasBlocks : ℕ → Status → Type 0
HasBlocks blocks (statuses.PoolEmpty round need made) = made ≡ blocks
HasBlocks blocks _ = ⊤

-- the status for a fault of the file header
abbrev pub IsStatusFor : InFault → Status → Type 0
IsStatusFor (faults.Cap fault) status = status ≡ statuses.Malformed fault
IsStatusFor faults.ReadFault status = status ≡ statuses.ReadFault

-- This holds of the bytes that were given, where they end the command; where the source failed, of those that are gone.
-- Where the sink failed or memory ran out, nothing is said.
abbrev pub OfRead : (List ℕ → Type 0) → Status → List ℕ → List ℕ → Type 0
OfRead P statuses.Ok given left = P given
OfRead P (statuses.Malformed fault) given left = P given
OfRead P (statuses.PoolEmpty round need blocks) given left = P given
OfRead P statuses.ReadFault given left = (gone : List ℕ) × (given ≡ gone ++ left) × P gone
OfRead P statuses.Usage given left = ⊤
OfRead P statuses.WriteFault given left = ⊤
OfRead P statuses.NoMemory given left = ⊤

-- A command ended so, by the counts of faults of the source and of the sink: these never fall, and one that the status
-- blames rose.
pub record IsCaused (source source' sink sink' : ℕ) (status : Status) : Type 0 where
  pub not_usage : status ≡ statuses.Usage → ⊥
  pub later : source ≤ source'
  pub later_sink : sink ≤ sink'
  pub read : status ≡ statuses.ReadFault → Rose source source'
  pub write : status ≡ statuses.WriteFault → Rose sink sink'
