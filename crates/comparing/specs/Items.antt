-- Items that are compared with the packets that went in: what the runs of a list of packets come to, as they lie.
use Rattle.std.specs.Prelude.{ℕ, ◌≡◌, ◌≤◌, Option, List, [], ◌∷◌, length, map, nat_le, if◌then◌else◌}
use Rattle.std.specs.List.{AllByRecursion}
use Rattle.skb.specs.Checksum.{AreBytes}
use Rattle.skb.specs.SkbState.{buffer_bytes}
use Rattle.pcap_io.specs.Capture.{Packet}
use Rattle.offload_model.specs.Merged.{Merged, merged_of}
use Rattle.frame_runs.specs.declared.run.Run.{Run}
use Rattle.gro.specs.declared.slot.Slot.{Slot}
use Rattle.frame_runs.specs.Chains.{run_of}
use Rattle.frame_runs.specs.Engine.{IsChain}
use Rattle.gro.specs.Slots.{packet_of, AreHeld}
use Rattle.lanes.specs.declared.lane.QueueLane.{QueueLane}
use Rattle.lanes.specs.Lanes.{IsMerged}
use Rattle.check_totals.specs.declared.totals.QueueTotals.{QueueTotals}
use Rattle.check_totals.specs.Counts.{queue_plus}
use Rattle.check_totals.specs.Returned.{Lefts, packets_in, flow_in, equal_in, behind_item, behind_items}
use Rattle.comparing.specs.declared.kept_flows.KeptFlows.{KeptFlows}
use Rattle.comparing.specs.KeptFlows.{left_in}

-- what a run of a list of packets comes to
abbrev pub item_at : List Slot → List ℕ → Run → Merged
item_at slots next run = merged_of (run_of (map packet_of slots) next run)

-- what packets hold are bytes
abbrev pub AreInBytes : List Slot → Type 0
AreInBytes slots = AllByRecursion (λ (s : Slot). AreBytes (buffer_bytes s.skb)) slots

-- a run of packets of a list, whose merged frame may be cut
pub record IsToCompare (slots : List Slot) (next : List ℕ) (run : Run) : Type 0 where
  pub are : AreHeld slots
  pub linked : length slots ≤ length next
  pub is : IsChain (map packet_of slots) next run
  pub in_bytes : AreInBytes slots

-- the packets that weren't compared, flow by flow
pub record AreLeft (ps : List Packet) (f : KeptFlows) (lefts : Lefts) : Type 0 where
  pub are : (q : Option (List ℕ)) → left_in ps f q ≡ lefts q

-- What is counted of an item, whatever it is: the packets that it says it is, and those of them that are the next ones
-- of its flow.
abbrev pub totals_of_item : Lefts → Merged → QueueTotals
totals_of_item left r = record {
  records = r.n;
  items = 1;
  merged = if nat_le 2 r.n then 1
      else 0;
  returned = equal_in (packets_in r) (left (flow_in r));
}

abbrev pub no_totals : QueueTotals
no_totals = record { records = 0; items = 0; merged = 0; returned = 0 }

-- of items, one after the other
abbrev pub totals_of_items : Lefts → List Merged → QueueTotals
totals_of_items left [] = no_totals
totals_of_items left (r ∷ rs) = queue_plus (totals_of_item left r) (totals_of_items (behind_item left r) rs)

-- queue by queue
abbrev pub totals_by : Lefts → List (List Merged) → List QueueTotals
totals_by left [] = []
totals_by left (rs ∷ more) = totals_of_items left rs ∷ totals_by (behind_items left rs) more

-- the packets of a queue are merged, and their runs are few
pub record MayCompare (l : QueueLane) : Type 0 where
  pub is : IsMerged l
  pub few : length l.engine.runs.items ≤ 4096
