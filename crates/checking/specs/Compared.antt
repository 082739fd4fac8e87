-- What comparing makes of a round that was worked, whatever its lanes hold.
use Rattle.std.specs.Prelude.{map}
use Rattle.std.specs.List.{AllByRecursion}
use Rattle.offload_model.specs.Captured.{IsCaptured}
use Rattle.taps.specs.Clones.{packet_of}
use Rattle.rounds.specs.RoundsState.{WorkedState}
use Rattle.comparing.specs.Compared.{compared_lanes, AreShortTaps}
use Rattle.check_totals.specs.Counts.{Counts}
use Rattle.comparing.specs.Items.{MayCompare}

-- with the clones that were kept
abbrev pub compared_work : WorkedState → Counts
compared_work w = compared_lanes w.lanes (map packet_of w.clones)

-- Its packets are merged, its clones were captured, and what is counted fits: of what the lanes hold it says no more.
pub record MayCompareWork (w : WorkedState) : Type 0 where
  pub captured : AllByRecursion IsCaptured (map packet_of w.clones)
  pub queues : AllByRecursion MayCompare w.lanes.queues.items
  pub taps : AreShortTaps w.lanes.taps.items
