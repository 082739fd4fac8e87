-- The lines of the log. Each ends with one line feed. Numbers are decimal, without leading zeros.
use Rattle.std.specs.Prelude.{◌++◌, ℕ, List, Option, codes, decimal}
use Rattle.std.specs.Io.KnownBytes.{Appends}
use Rattle.off_io.specs.Faults.{Rose}

abbrev pub usage_line : List ℕ
usage_line = codes "usage: offload merge, segment, check or make, with options\n"

-- of the kind's name, the fault's place in the file, and the record's number
unfoldable pub malformed_line : List ℕ → ℕ → ℕ → List ℕ
malformed_line kind offset number = codes "malformed: " ++ kind ++ codes " at " ++ decimal offset ++ codes " in record "
    ++ decimal number ++ codes "\n"

-- of the round's number, its need, and the blocks that there are
unfoldable pub pool_empty_line : ℕ → ℕ → ℕ → List ℕ
pool_empty_line round need blocks = codes "pool empty: round " ++ decimal round ++ codes " needs " ++ decimal need
    ++ codes " of " ++ decimal blocks ++ codes " blocks\n"

abbrev pub read_fault_line : List ℕ
read_fault_line = codes "read fault\n"

abbrev pub write_fault_line : List ℕ
write_fault_line = codes "write fault\n"

abbrev pub no_memory_line : List ℕ
no_memory_line = codes "no memory\n"

-- where the log tells what it holds and its count of faults didn't rise, it holds its old content followed by the line
abbrev pub Logs : Option (List ℕ) → Option (List ℕ) → ℕ → ℕ → List ℕ → Type 0
Logs old new before now line = (Rose before now → ⊥) → Appends old new line
