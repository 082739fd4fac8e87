-- What `check` says of each answer: of a capture that is read, and of a generated one, whose lines begin with one of
-- its own.
use Rattle.std.specs.Prelude.{◌≡◌, ℕ, ◌++◌, Bool, true, List, length, Option, None, Some, ⊤}
use Rattle.std.specs.Io.KnownBytes.{Appends, Keeps}
use Rattle.off_io.specs.Content.{AppendsPrefix, SaysFlushed}
use Rattle.pcap_io.specs.declared.heads.Link.TheVariants.{Ethernet}
use Rattle.cap_make.specs.Capture.{made}
use Rattle.offload_model.specs.Passing.{Passed, Nowhere, AtRound}
use Rattle.offload_model.specs.Passing as passing
use Rattle.offload_words.specs.declared.merge.MergeOptions.{MergeOptions}
use Rattle.offload_words.specs.declared.check.CheckOptions.{CheckOptions}
use Rattle.check_totals.specs.Lines.{made_line}
use Rattle.check_totals.specs.Checking.{checking_whole}
use Rattle.command_answers.specs.declared.status.Status.{Status}
use Rattle.command_answers.specs.declared.status.Status.TheVariants as statuses
use Rattle.command_answers.specs.Ending.{ending_of, Ends}
use Rattle.command_answers.specs.Output.{options}

-- ---- a capture that is read

-- for want of memory nothing is written
abbrev pub KeepsAt : Option (List ℕ) → Option (List ℕ) → Status → Type 0
KeepsAt old new statuses.NoMemory = Keeps old new
KeepsAt old new _ = ⊤

-- `untouched` says that the sink is as it was
abbrev pub ReadAnswers : MergeOptions → Option (List ℕ) → Option (List ℕ) → Bool → Type 0 → Status → List ℕ → List ℕ
    → Type 0
ReadAnswers o old new is_flushed untouched status given left =
    Ends (passing.Answers Ethernet (checking_whole o.blocks (options o)) old new is_flushed untouched)
    (ending_of status) given left × KeepsAt old new status

-- ---- a generated capture

-- what checking it writes, and where it stops: the line of the capture comes first
abbrev pub checking_made : ℕ → ℕ → MergeOptions → Passed
checking_made seed count o =
    let checked = checking_whole o.blocks (options o) (made seed count) in
    record { output = made_line count (length (made seed count)) ++ checked.output; stop = checked.stop }

-- It has no fault, and it is read from no source. Where the sink failed a prefix of the lines was written, and for want
-- of memory none.
abbrev pub ChecksTo : Passed → Option (List ℕ) → Option (List ℕ) → Bool → Status → Type 0
ChecksTo passed old new is_flushed statuses.Ok = (passed.stop ≡ Nowhere) × Appends old new passed.output
    × SaysFlushed new is_flushed true
ChecksTo passed old new is_flushed (statuses.PoolEmpty round need blocks) =
    (passed.stop ≡ AtRound round need) × Appends old new passed.output × SaysFlushed new is_flushed true
ChecksTo passed old new is_flushed statuses.WriteFault = AppendsPrefix old new passed.output
ChecksTo passed old new is_flushed statuses.NoMemory = Keeps old new
ChecksTo passed old new is_flushed _ = ⊥

-- ---- either, by the seed

abbrev pub CheckAnswers : Option ℕ → CheckOptions → Option (List ℕ) → Option (List ℕ) → Bool → Type 0 → Status → List ℕ
    → List ℕ → Type 0
CheckAnswers None o old new is_flushed untouched status given left = ReadAnswers o.merge old new is_flushed untouched
    status given left
CheckAnswers (Some seed) o old new is_flushed untouched status given left = ChecksTo
    (checking_made seed o.count o.merge) old new is_flushed status × (left ≡ given)

-- the same of a generated capture, whatever a source tells; `untouched` says that the source is as it was
abbrev pub ChecksMade : Option ℕ → CheckOptions → Option (List ℕ) → Option (List ℕ) → Bool → Type 0 → Status → Type 0
ChecksMade None o old new is_flushed untouched status = ⊤
ChecksMade (Some seed) o old new is_flushed untouched status = ChecksTo
    (checking_made seed o.count o.merge) old new is_flushed status × untouched
