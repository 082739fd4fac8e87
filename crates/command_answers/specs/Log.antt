-- The line that the log gets of a status.
use Rattle.std.specs.Prelude.{ℕ, List, [], codes}
use Rattle.status_log.specs.Lines.{malformed_line, no_memory_line, pool_empty_line, read_fault_line, usage_line}
use Rattle.status_log.specs.Lines.{write_fault_line}
use Rattle.pcap_io.specs.declared.faults.CapKind.{CapKind}
use Rattle.pcap_io.specs.declared.faults.CapKind.TheVariants as kinds
use Rattle.command_answers.specs.declared.status.Status.{Status}
use Rattle.command_answers.specs.declared.status.Status.TheVariants as statuses

-- the name of a kind
abbrev pub kind_name : CapKind → List ℕ
kind_name kinds.ShortHeader = codes "ShortHeader"
kind_name kinds.BadMagic = codes "BadMagic"
kind_name kinds.BadVersion = codes "BadVersion"
kind_name kinds.BadLinkType = codes "BadLinkType"
kind_name kinds.ShortRecordHeader = codes "ShortRecordHeader"
kind_name kinds.TooMany = codes "TooMany"
kind_name kinds.TooLong = codes "TooLong"
kind_name kinds.BadOriginal = codes "BadOriginal"
kind_name kinds.BadOffload = codes "BadOffload"
kind_name kinds.ShortRecord = codes "ShortRecord"

-- the line of a status, with its line feed; none for a good one
abbrev pub log_line : Status → List ℕ
log_line statuses.Ok = []
log_line statuses.Usage = usage_line
log_line (statuses.Malformed fault) = malformed_line (kind_name fault.kind) fault.offset fault.number
log_line (statuses.PoolEmpty round need blocks) = pool_empty_line round need blocks
log_line statuses.ReadFault = read_fault_line
log_line statuses.WriteFault = write_fault_line
log_line statuses.NoMemory = no_memory_line
