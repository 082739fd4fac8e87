use Rattle.std.proofs.Common.{drop}
use Rattle.lanes.specs.declared.lane.TapLane.{TapLane}
use Rattle.lanes.specs.Lanes.{of_taps, IsIdleTap}
use Rattle.lanes.proofs.Listing.{DidUpTo}
use Rattle.rounds.specs.Table.{Comes}
use Rattle.rounds.proofs.lane_home.bring_taps.Given as goal

abbrev pub invariant-loop-i : goal.invariant-loop-i
invariant-loop-i l = record {
  comes : Comes (of_taps l.fn.lanes) (of_taps (drop l.i l.fn.lanes)) l.fn.pool l.fn.places l.pool l.places;
  idle : DidUpTo (λ (old new : TapLane). IsIdleTap new) l.i l.fn.lanes l.lanes;
}
