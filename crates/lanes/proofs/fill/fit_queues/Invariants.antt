use Rattle.std.proofs.Common.{◌≡◌, ◌≤◌, length}
use Rattle.std.specs.Prelude.{All, vec_capacity}
use Rattle.lanes.specs.Lanes.{IsIdleQueue}
use Rattle.lanes.proofs.fill.fit_queues.Given as goal

abbrev pub invariant-loop-queue : goal.invariant-loop-queue
invariant-loop-queue l = record {
  idle : All IsIdleQueue l.fitting.items;
  size : length l.fitting.items ≡ l.queue;
  room : l.queues ≤ vec_capacity l.fitting;
}
