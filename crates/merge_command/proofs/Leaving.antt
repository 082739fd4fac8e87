-- What is left where nothing was merged, and what is told of that which was.
use Rattle.std.proofs.Common.{◌≡◌, ◌≤◌, ◌+◌, ◌-◌, ◌^◌, ℕ, List, Option, None, min, sym}
use Rattle.std.proofs.Common.{subst, arith}
use Rattle.off_io.specs.Told.{Told}
use Rattle.off_io.proofs.Telling.{Told-weaker}
use Rattle.pcap_io.specs.declared.place.Place.{Place}
use Rattle.pcap_io.specs.declared.faults.InFault.{InFault}
use Rattle.pcap_io.specs.declared.faults.InFault.TheVariants.{Cap, ReadFault}
use Rattle.rounds.specs.RoundsState.{RoundsState}
use Rattle.rounds.specs.Merging.{HoldsCaptured}
use Rattle.rounds.specs.declared.round_writer.MergeEnd.{MergeEnd}
use Rattle.rounds.specs.declared.round_writer.MergeEnd.TheVariants as ends
use Rattle.command_answers.specs.declared.status.Status.{Status}
use Rattle.command_answers.specs.declared.status.Status.TheVariants as statuses
use Rattle.command_answers.specs.Ending.{HasBlocks, IsStatusFor, OfRead}
use Rattle.command_answers.specs.Output.{AreCapturedWithin}
use Rattle.command_rounds.specs.Leaving.{IsMergeHome, LeavesMerge}
use Rattle.merge_command.specs.Statuses.{status_by}

module _ (n : ℕ) (need : List ℕ → ℕ) (left : Option RoundsState) (a b : Option (List ℕ)) (none : left ≡
    None) where
  pub none_left : (status : Status) → HasBlocks n status → (status ≡ statuses.Ok → ⊥)
      → LeavesMerge n need status left a b
  none_left status blocks off = record {
    blocks = blocks;
    engine = λ ok. absurd (off ok);
    home = subst (IsMergeHome n)
        (sym none) tt;
  }

  -- a file header that is refused or can't be read
  pub none_left_refused : (fault : InFault) (status : Status) → IsStatusFor fault status
      → LeavesMerge n need status left a b
  none_left_refused (Cap fault) status is = subst (λ (s : Status). LeavesMerge n need s left a b) (sym is) (none_left
      (statuses.Malformed fault) tt (λ e. cc))
  none_left_refused ReadFault status is = subst (λ (s : Status). LeavesMerge n need s left a b) (sym is) (none_left
      statuses.ReadFault tt (λ e. cc))

  pub none_left_unwritten : LeavesMerge n need statuses.WriteFault left a b
  none_left_unwritten = none_left statuses.WriteFault tt (λ e. cc)

-- what merging read, by the status that it ends with
pub captured_by : (n budget : ℕ) (place : Place) (end : MergeEnd) (a b : Option (List ℕ))
    → Told a b (HoldsCaptured n budget place end)
    → Told a b (OfRead (AreCapturedWithin n budget place) (status_by end n))
captured_by n budget place ends.Done a b told = told
captured_by n budget place (ends.Malformed fault) a b told = told
captured_by n budget place (ends.PoolEmpty round need) a b told = told
captured_by n budget place ends.ReadFault a b told = told
captured_by n budget place ends.WriteFault a b told = told
captured_by n budget place ends.NoMemory a b told = told

-- rounds that had taken no block
pub taken_first : (need : List ℕ → ℕ) (old now : ℕ) (a b : Option (List ℕ)) → old ≡ 0
    → Told a b (λ rest left. min (old + need rest) (2 ^ 64 - 1) ≤ now)
    → Told a b (λ rest left. min (need rest) (2 ^ 64 - 1) ≤ now)
taken_first need old now a b none told =
    Told-weaker a b (λ rest left. min (old + need rest) (2 ^ 64 - 1) ≤ now) (λ rest left. min (need rest) (2 ^ 64 -
    1) ≤ now)
    (λ rest left low. omega (arith, low, none)) told
