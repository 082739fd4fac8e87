-- What `check` writes, by what was counted behind a file header.
use Rattle.std.specs.Prelude.{◌≡◌, ◌⊎◌, ℕ, ◌++◌, Bool, true, List, [], Option, None, Some}
use Rattle.std.specs.Io.KnownBytes.{Appends, Keeps}
use Rattle.off_io.specs.Content.{AppendsPrefix, SaysFlushed}
use Rattle.pcap_io.specs.declared.place.Place.{Place}
use Rattle.offload_model.specs.Written.{Options}
use Rattle.check_totals.specs.Counts.{Counts, totals_of}
use Rattle.check_totals.specs.Lines.{check_lines, made_line}
use Rattle.check_totals.specs.Checking.{counting}
use Rattle.check_totals.specs.Tallies.{Tallies}
use Rattle.checking.specs.declared.counting.CheckEnd.{CheckEnd}
use Rattle.checking.specs.declared.counting.CheckEnd.TheVariants as ends
use Rattle.checking.specs.Handling.{ending_of as check_ending}
use Rattle.command_answers.specs.declared.status.Status.{Status}
use Rattle.command_answers.specs.declared.status.Status.TheVariants as statuses
use Rattle.check_command.specs.declared.check.MadeLine.{MadeLine}

-- the line of a generated capture, if it is one
abbrev pub first_line : Option MadeLine → List ℕ
first_line None = []
first_line (Some line) = made_line line.count line.len

-- the status that checking ends with over this many blocks; none for want of memory
abbrev pub status_if : CheckEnd → ℕ → Option Status
status_if ends.Done blocks = Some statuses.Ok
status_if (ends.Malformed fault) blocks = Some (statuses.Malformed fault)
status_if (ends.PoolEmpty round need) blocks = Some (statuses.PoolEmpty round need blocks)
status_if ends.ReadFault blocks = Some statuses.ReadFault
status_if ends.NoMemory blocks = None

-- the lines were written and flushed, or the sink failed and a prefix of them was
abbrev pub LinesEnd : Option (List ℕ) → Option (List ℕ) → Bool → List ℕ → Status → Status → Type 0
LinesEnd old new is_flushed lines end status =
    ((status ≡ end) × Appends old new lines × SaysFlushed new is_flushed true)
    ⊎ ((status ≡ statuses.WriteFault) × AppendsPrefix old new lines)

-- what is written when checking is to end so: nothing where there was no memory
abbrev pub Tells : Option (List ℕ) → Option (List ℕ) → Bool → List ℕ → Option Status → Status → Type 0
Tells old new is_flushed lines None status = (status ≡ statuses.NoMemory) × Keeps old new
Tells old new is_flushed lines (Some end) status = LinesEnd old new is_flushed lines end status

-- Some totals were counted and then told. `rose` says that the source's count of faults rose.
pub record Checked (first : List ℕ) (blocks : ℕ) (o : Options) (place : Place) (old new : Option (List ℕ))
    (is_flushed : Bool) (rose : Type 0) (status : Status) (bytes left : List ℕ) : Type 0 where
  pub end : CheckEnd
  pub totals : Counts
  pub counted : Tallies (counting blocks o place) (totals_of o []) totals (check_ending end) bytes left
  pub told : Tells old new is_flushed (first ++ check_lines totals) (status_if end blocks) status
  pub read : end ≡ ends.ReadFault → rose
