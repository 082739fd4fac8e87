use Rattle.std.proofs.Common.{◌≡◌, ◌≤◌, length, map, drop, vec_len, vec_capacity}
use Rattle.lanes.specs.Work.{merged_in}
use Rattle.taps.specs.Clones.{packet_of}
use Rattle.comparing.specs.KeptFlows.{AreFlows}
use Rattle.comparing.proofs.Laning.{LanesSoFar}
use Rattle.comparing.proofs.lane_totals.check_queues.Given as goal

abbrev pub invariant-loop-i : goal.invariant-loop-i
invariant-loop-i l = record {
  flows : AreFlows (map packet_of l.kept) l.flows;
  so_far : LanesSoFar (map packet_of l.kept) (map merged_in l.lanes) (drop l.i (map merged_in l.lanes)) l.flows l.totals.items;
  size : vec_len l.totals ≡ l.i;
  room : length l.lanes ≤ vec_capacity l.totals;
}
