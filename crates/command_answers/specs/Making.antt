-- What the commands that read no source say of each answer: `make`, and `check` of a generated capture.
use Rattle.std.specs.Prelude.{ℕ, List, Bool, true, Option, ⊤}
use Rattle.std.specs.Io.KnownBytes.{Appends}
use Rattle.off_io.specs.Content.{AppendsPrefix, SaysFlushed}
use Rattle.offload_words.specs.declared.make.MakeOptions.{MakeOptions}
use Rattle.offload_words.specs.declared.words.Command.{Command}
use Rattle.offload_words.specs.declared.words.Command.TheVariants.{Check, Make}
use Rattle.cap_make.specs.Capture.{made}
use Rattle.command_answers.specs.Checking.{ChecksMade}
use Rattle.command_answers.specs.declared.status.Status.{Status}
use Rattle.command_answers.specs.declared.status.Status.TheVariants as statuses

-- the whole generated capture was written and flushed; where the sink failed or memory ran out, a prefix of it was
-- written
abbrev pub MakeAnswers : MakeOptions → Option (List ℕ) → Option (List ℕ) → Bool → Status → Type 0
MakeAnswers options old new is_flushed statuses.Ok = Appends old new (made options.seed options.count)
    × SaysFlushed new is_flushed true
MakeAnswers options old new is_flushed statuses.WriteFault = AppendsPrefix old new (made options.seed options.count)
MakeAnswers options old new is_flushed statuses.NoMemory = AppendsPrefix old new (made options.seed options.count)
MakeAnswers options old new is_flushed _ = ⊥

-- the same where the command reads no source, whatever one tells; `untouched` says that the source is as it was
abbrev pub Makes : Command → Option (List ℕ) → Option (List ℕ) → Bool → Type 0 → Status → Type 0
Makes (Make options) old new is_flushed untouched status = MakeAnswers options old new is_flushed status × untouched
Makes (Check o) old new is_flushed untouched status = ChecksMade o.seed o old new is_flushed untouched status
Makes _ old new is_flushed untouched status = ⊤
