use Rattle.std.proofs.Common.{◌<◌, ℕ, length, get_or}
use Rattle.lanes.specs.declared.lane.QueueLane.{QueueLane}
use Rattle.lanes.specs.Sharing.{HasMemory, StaysAs}
use Rattle.lanes.proofs.Listing.{DidUpTo}
use Rattle.lanes.proofs.share.start_all.Given as goal

abbrev pub invariant-loop-i : goal.invariant-loop-i
invariant-loop-i l = record {
  stay : DidUpTo StaysAs l.i l.fn.lanes l.lanes;
  memory : (k : ℕ) (d : QueueLane) → k < l.i → k < length l.lanes → HasMemory (get_or l.lanes k d);
}
