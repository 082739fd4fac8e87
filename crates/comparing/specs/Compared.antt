-- What comparing makes of lanes, whatever they hold.
use Rattle.std.specs.Prelude.{List, map, IfSome}
use Rattle.std.specs.List.{AllByRecursion}
use Rattle.pcap_io.specs.Capture.{Packet}
use Rattle.lanes.specs.declared.lane.Lanes.{Lanes}
use Rattle.lanes.specs.declared.lane.TapLane.{TapLane}
use Rattle.lanes.specs.Work.{merged_in}
use Rattle.check_totals.specs.Counts.{Counts}
use Rattle.check_totals.specs.Returned.{flows_of}
use Rattle.comparing.specs.Items.{totals_by}
use Rattle.comparing.specs.Texts.{IsShort, totals_of_texts}

-- The totals of lanes: what their runs stand for is compared with these packets, flow by flow, and what their taps have
-- read is counted.
abbrev pub compared_lanes : Lanes → List Packet → Counts
compared_lanes lanes ps = record {
  queues = totals_by (flows_of ps) (map merged_in lanes.queues.items);
  taps = map (λ (l : TapLane). totals_of_texts l.texts) lanes.taps.items;
}

abbrev pub AreShortTaps : List TapLane → Type 0
AreShortTaps taps = AllByRecursion (λ (l : TapLane). IfSome l.texts IsShort) taps
