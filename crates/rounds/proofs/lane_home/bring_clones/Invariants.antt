use Rattle.std.proofs.Common.{◌+◌, ◌≤◌, length}
use Rattle.taps.specs.Clones.{of_clones}
use Rattle.taps.specs.Clones.{blocks_of}
use Rattle.frags.specs.OutcomesState.{IsBare}
use Rattle.rounds.specs.Table.{Comes}
use Rattle.rounds.proofs.lane_home.bring_clones.Given as goal

abbrev pub invariant-loop-clone : goal.invariant-loop-clone
invariant-loop-clone l = record {
  comes : Comes (of_clones l.fn.clones.items) (of_clones l.clones.items) l.fn.pool l.fn.places l.pool l.places;
  bare : IsBare l.out;
  room : blocks_of l.clones.items ≤ l.out.spare;
  spare : l.fn.out.spare + blocks_of l.clones.items ≤ l.out.spare + blocks_of l.fn.clones.items;
}

abbrev pub decreases-loop-clone : goal.decreases-loop-clone
decreases-loop-clone l = length l.clones.items
