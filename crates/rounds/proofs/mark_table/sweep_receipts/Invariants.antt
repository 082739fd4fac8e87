use Rattle.std.proofs.Common.{◌≡◌, ℕ, ◌≤◌, length}
use Rattle.frags.specs.Account.{both, of_outcomes}
use Rattle.frags.specs.RoundAccount.{Settles}
use Rattle.rounds.specs.Table.{of_places, AreOwed, missing, missing_weight}
use Rattle.rounds.proofs.mark_table.sweep_receipts.Given as goal

abbrev pub invariant-loop-receipt : goal.invariant-loop-receipt
invariant-loop-receipt l = record {
  settles : Settles (length l.fn.places) (both (of_places l.fn.places) (of_outcomes l.fn.out)) (both (of_places l.places) (of_outcomes l.out));
  count : missing l.places ≡ missing l.fn.places;
  named : (w : ℕ → ℕ) → missing_weight w 0 l.places ≡ missing_weight w 0 l.fn.places;
  size : length l.places ≡ length l.fn.places;
  owed : AreOwed l.places;
  soles : l.out.soles ≡ l.fn.out.soles;
  spare : l.fn.out.spare ≤ l.out.spare;
}

abbrev pub decreases-loop-receipt : goal.decreases-loop-receipt
decreases-loop-receipt l = length l.out.receipts
