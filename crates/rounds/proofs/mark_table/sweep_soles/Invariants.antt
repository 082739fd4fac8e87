use Rattle.std.proofs.Common.{◌≡◌, ℕ, ◌+◌, ◌≤◌, length}
use Rattle.block_pool.specs.PoolState.{home}
use Rattle.frags.specs.Account.{both, of_outcomes}
use Rattle.frags.specs.RoundAccount.{Settles}
use Rattle.rounds.specs.Marks.{IsNamed}
use Rattle.rounds.specs.Table.{of_places, AreOwed, missing, weighed_at_end}
use Rattle.rounds.proofs.mark_table.sweep_soles.Given as goal

abbrev pub invariant-loop-sole : goal.invariant-loop-sole
invariant-loop-sole l = record {
  settles : Settles (length l.fn.places) (both (of_places l.fn.places) (of_outcomes l.fn.out)) (both (of_places l.places) (of_outcomes l.out));
  count : home l.pool + missing l.places ≡ home l.fn.pool + missing l.fn.places;
  named : (names h : ℕ → ℕ) → IsNamed names (of_outcomes l.fn.out)
      → IsNamed names (of_outcomes l.out) × (weighed_at_end names h l.pool l.places ≡ weighed_at_end names h l.fn.pool l.fn.places);
  size : length l.places ≡ length l.fn.places;
  owed : AreOwed l.fn.places → AreOwed l.places;
  made : l.pool.made ≡ l.fn.pool.made;
  taken : l.pool.taken ≡ l.fn.pool.taken;
  receipts : l.out.receipts ≡ l.fn.out.receipts;
  spare : l.fn.out.spare ≤ l.out.spare;
}

abbrev pub decreases-loop-sole : goal.decreases-loop-sole
decreases-loop-sole l = length l.out.soles
