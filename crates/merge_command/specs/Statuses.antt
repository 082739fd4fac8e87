-- The status that merging ends with.
use Rattle.std.specs.Prelude.{ℕ}
use Rattle.rounds.specs.declared.round_writer.MergeEnd.{MergeEnd}
use Rattle.rounds.specs.declared.round_writer.MergeEnd.TheVariants as ends
use Rattle.command_answers.specs.declared.status.Status.{Status}
use Rattle.command_answers.specs.declared.status.Status.TheVariants as statuses

-- over this many blocks
abbrev pub status_by : MergeEnd → ℕ → Status
status_by ends.Done blocks = statuses.Ok
status_by (ends.Malformed fault) blocks = statuses.Malformed fault
status_by (ends.PoolEmpty round need) blocks = statuses.PoolEmpty round need blocks
status_by ends.ReadFault blocks = statuses.ReadFault
status_by ends.WriteFault blocks = statuses.WriteFault
status_by ends.NoMemory blocks = statuses.NoMemory
