use Rattle.std.proofs.Common.{◌≡◌, ◌<◌, ℕ, length, get_or}
use Rattle.std.specs.Prelude.{All}
use Rattle.skb.specs.SkbState.{IsApartFrom}
use Rattle.gro.specs.declared.slot.Slot.{Slot as Held}
use Rattle.lanes.specs.declared.lane.QueueLane.{QueueLane}
use Rattle.lanes.proofs.soles.differ_from_queues.Given as goal

-- nothing changes, and the first i queues have no block of the Sole's
abbrev pub invariant-loop-i : goal.invariant-loop-i
invariant-loop-i l = record {
  others : (k : ℕ) (d : QueueLane) → k < l.i
      → All (λ (p : Held). IsApartFrom l.fn.sole.block p.skb) (get_or l.fn.lanes k d).packets.items;
  same : l.lanes ≡ l.fn.lanes;
  sole : l.sole ≡ l.fn.sole;
  end : l.i-end ≡ length l.fn.lanes;
}
