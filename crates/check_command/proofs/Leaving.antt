-- What is left where nothing was counted, and what is told of that which was.
use Rattle.std.proofs.Common.{◌≡◌, ◌≤◌, ◌+◌, ◌-◌, ◌^◌, ℕ, List, Option, None, Some, min, sym, subst, arith}
use Rattle.off_io.specs.Told.{Told}
use Rattle.off_io.proofs.Telling.{Told-weaker}
use Rattle.pcap_io.specs.declared.faults.InFault.{InFault}
use Rattle.pcap_io.specs.declared.faults.InFault.TheVariants.{Cap, ReadFault}
use Rattle.rounds.specs.RoundsState.{RoundsState}
use Rattle.command_answers.specs.declared.status.Status.{Status}
use Rattle.command_answers.specs.declared.status.Status.TheVariants as statuses
use Rattle.command_answers.specs.Ending.{HasBlocks, IsStatusFor}
use Rattle.command_rounds.specs.Leaving.{HasMerged, IsMergeHome, LeavesMerge}

module _ (n : ℕ) (need : List ℕ → ℕ) (left : Option RoundsState) where
  module _ (a b : Option (List ℕ)) (none : left ≡ None) where
    none_left : (status : Status) → HasBlocks n status → (status ≡ statuses.Ok → ⊥)
        → LeavesMerge n need status left a b
    none_left status blocks off = record {
      blocks = blocks;
      engine = λ ok. absurd (off ok);
      home = subst (IsMergeHome n) (sym none) tt;
    }

    pub none_left_memory : LeavesMerge n need statuses.NoMemory left a b
    none_left_memory = none_left statuses.NoMemory tt (λ e. cc)

    pub none_left_refused : (fault : InFault) (status : Status) → IsStatusFor fault status
        → LeavesMerge n need status left a b
    none_left_refused (Cap fault) status is =
        subst (λ (s : Status). LeavesMerge n need s left a b) (sym is)
        (none_left (statuses.Malformed fault) tt (λ e. cc))
    none_left_refused ReadFault status is =
        subst (λ (s : Status). LeavesMerge n need s left a b) (sym is) (none_left statuses.ReadFault tt (λ e. cc))

-- what is left of the source isn't told
pub merged_to : (n : ℕ) (need : List ℕ → ℕ) (left : Option RoundsState) (x y z : List ℕ)
    → HasMerged n need left (Some x) (Some y) → HasMerged n need left (Some x) (Some z)
merged_to n need (Some rounds) x y z has = has
merged_to n need None x y z has = has

-- rounds that had taken no block
pub taken_first : (need : List ℕ → ℕ) (old now : ℕ) (a b : Option (List ℕ)) → old ≡ 0
    → Told a b (λ rest left. min (old + need rest) (2 ^ 64 - 1) ≤ now)
    → Told a b (λ rest left. min (need rest) (2 ^ 64 - 1) ≤ now)
taken_first need old now a b none told =
    Told-weaker a b (λ rest left. min (old + need rest) (2 ^ 64 - 1) ≤ now)
    (λ rest left. min (need rest) (2 ^ 64 - 1) ≤ now) (λ rest left low. omega (arith, low, none)) told
