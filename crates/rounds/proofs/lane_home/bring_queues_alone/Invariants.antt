use Rattle.std.proofs.Common.{◌≡◌, ℕ, ◌+◌, drop}
use Rattle.block_pool.specs.PoolState.{home, weighed}
use Rattle.lanes.specs.declared.lane.QueueLane.{QueueLane}
use Rattle.lanes.specs.Lanes.{counts_of_queues, weighed_queues, IsIdleQueue}
use Rattle.lanes.proofs.Listing.{DidUpTo}
use Rattle.rounds.proofs.lane_home.bring_queues_alone.Given as goal

abbrev pub invariant-loop-i : goal.invariant-loop-i
invariant-loop-i l = record {
  count : home l.pool + counts_of_queues (drop l.i l.fn.lanes) ≡ home l.fn.pool + counts_of_queues l.fn.lanes;
  named : (h : ℕ → ℕ) → weighed h l.pool.blocks + weighed_queues h (drop l.i l.fn.lanes) ≡ weighed h l.fn.pool.blocks + weighed_queues h l.fn.lanes;
  made : (l.pool.made ≡ l.fn.pool.made) × (l.pool.taken ≡ l.fn.pool.taken);
  idle : DidUpTo (λ (old new : QueueLane). IsIdleQueue new) l.i l.fn.lanes l.lanes;
}
