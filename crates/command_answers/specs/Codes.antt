-- The codes that the program ends with.
use Rattle.std.specs.Prelude.{ℕ}
use Rattle.command_answers.specs.declared.status.Status.{Status}
use Rattle.command_answers.specs.declared.status.Status.TheVariants as statuses

abbrev pub code_of : Status → ℕ
code_of statuses.Ok = 0
code_of statuses.Usage = 2
code_of (statuses.Malformed _) = 3
code_of (statuses.PoolEmpty _ _ _) = 4
code_of statuses.ReadFault = 5
code_of statuses.WriteFault = 6
code_of statuses.NoMemory = 7
