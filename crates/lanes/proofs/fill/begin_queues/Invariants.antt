use Rattle.std.proofs.Common.{◌≡◌, ◌<◌, ℕ, List, length, get_or}
use Rattle.std.specs.Prelude.{All}
use Rattle.gro.specs.declared.slot.Slot.{Slot as Packet}
use Rattle.offload_model.specs.Rounds.{Spread}
use Rattle.lanes.specs.declared.lane.QueueLane.{QueueLane}
use Rattle.lanes.specs.Lanes.{IsIdleQueue}
use Rattle.lanes.specs.Sharing.{IsSharing}
use Rattle.lanes.proofs.fill.begin_queues.Given as goal

abbrev pub invariant-loop-i : goal.invariant-loop-i
invariant-loop-i l = record {
  idle : All IsIdleQueue l.lanes;
  begun : (n : Spread) (every : List Packet) (k : ℕ) (d : QueueLane) → k < l.i → k < length l.lanes → IsSharing n every every k (get_or l.lanes k d);
  size : length l.lanes ≡ length l.fn.lanes;
}
