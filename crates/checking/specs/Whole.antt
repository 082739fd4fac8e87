-- What a check of a whole capture says, as one fact.
use Rattle.std.specs.Prelude.{◌≡◌, ℕ, ◌≤◌, ◌^◌, length}
use Rattle.block_pool.specs.PoolState.{weighed}
use Rattle.off_io.specs.Faults.{Rose}
use Rattle.off_io.specs.Told.{Told}
use Rattle.pcap_io.specs.declared.place.Place.{Place}
use Rattle.check_totals.specs.Counts.{Counts, HasLanes, IsWithin}
use Rattle.check_totals.specs.Checking.{counting}
use Rattle.check_totals.specs.Tallies.{Tallies}
use Rattle.rounds.specs.Handled.{Drawn, FewPauses}
use Rattle.rounds.specs.Merging.{options_of, TakesTo}
use Rattle.rounds.specs.RoundsState.{RoundsState}
use Rattle.checking.specs.declared.counting.CheckEnd.{CheckEnd}
use Rattle.checking.specs.declared.counting.CheckEnd.TheVariants as ends
use Rattle.checking.specs.Handling.{ending_of}

-- Checking began at this place and ended so: what the source had left and has left, and what was counted.
pub record Checked (old new : RoundsState) (place : Place) (from to : Drawn) (before after : Counts) (end : CheckEnd)
    : Type 0 where
  -- of each ending, what was read and counted
  pub given : Told from.left to.left (Tallies (counting old.blocks (options_of old) place) before after (ending_of end))
  pub lanes : HasLanes (options_of old) after
  pub within : IsWithin (2 ^ 50) (2 ^ 62) after
  pub home : length new.stock ≡ new.blocks
  pub named : (h : ℕ → ℕ) → weighed h new.stock ≡ weighed h old.stock
  pub same : (new.blocks ≡ old.blocks) × (options_of new ≡ options_of old) × (new.keep ≡ old.keep)
  pub taken : Told from.left to.left (TakesTo old.blocks old.budget place old.taken new.taken (ending_of end))
  pub least : old.taken ≤ new.taken
  pub pauses : FewPauses old.empties old.pauses new.empties new.pauses
  pub later : from.faults ≤ to.faults
  pub read : end ≡ ends.ReadFault → Rose from.faults to.faults
