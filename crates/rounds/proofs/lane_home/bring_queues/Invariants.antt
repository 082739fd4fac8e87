use Rattle.std.proofs.Common.{◌+◌, ◌≤◌, drop}
use Rattle.frags.specs.OutcomesState.{IsBare}
use Rattle.lanes.specs.declared.lane.QueueLane.{QueueLane}
use Rattle.lanes.specs.Lanes.{of_queues, counts_of_queues, IsIdleQueue}
use Rattle.lanes.proofs.Listing.{DidUpTo}
use Rattle.rounds.specs.Table.{Comes}
use Rattle.rounds.proofs.lane_home.bring_queues.Given as goal

abbrev pub invariant-loop-i : goal.invariant-loop-i
invariant-loop-i l = record {
  comes : Comes (of_queues l.fn.lanes) (of_queues (drop l.i l.fn.lanes)) l.fn.pool l.fn.places l.pool l.places;
  idle : DidUpTo (λ (old new : QueueLane). IsIdleQueue new) l.i l.fn.lanes l.lanes;
  bare : IsBare l.out;
  room : counts_of_queues (drop l.i l.fn.lanes) ≤ l.out.spare;
  spare : l.fn.out.spare + counts_of_queues (drop l.i l.fn.lanes) ≤ l.out.spare + counts_of_queues l.fn.lanes;
}
