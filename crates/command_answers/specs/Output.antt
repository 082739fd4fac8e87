-- What `merge` makes of a capture.
use Rattle.std.specs.Prelude.{◌≡◌, ℕ, List, [], take, drop, is_some, if◌then◌else◌, map, Option}
use Rattle.std.specs.List.{AllByRecursion, filter, flat_map}
use Rattle.pcap_io.specs.declared.heads.Link.TheVariants.{Ethernet}
use Rattle.pcap_io.specs.Headers.{first_that_holds, file_refusals, file_head}
use Rattle.pcap_io.specs.Capture.{Packet}
use Rattle.pcap_io.specs.declared.place.Place.{Place}
use Rattle.pcap_io.specs.Places.{first_place}
use Rattle.frame_layout.specs.Choice.{spread_by}
use Rattle.offload_model.specs.Segments.{packet_in, segments_of}
use Rattle.offload_model.specs.Rounds.{is_of}
use Rattle.offload_model.specs.Written.{Options, records_of}
use Rattle.offload_model.specs.Need.{packets_within}
use Rattle.offload_model.specs.Captured.{IsCaptured, content}
use Rattle.offload_words.specs.declared.merge.MergeOptions.{MergeOptions}

-- how a capture is merged: in rounds of `budget` records, whose flows go to queues by a choice, at most `segs` packets
-- in a record, and by taps, each of which reads up to `snap` bytes of what a filter shows of a packet
abbrev pub options : MergeOptions → Options
options o = record {
  budget = o.budget;
  queues = o.queues;
  spread = spread_by o.choice o.queues;
  taps = o.taps;
  snap = o.snap;
  segs = o.segs;
  filter = o.filter;
}

-- the packets of a capture before the round that exceeds the blocks, and all of them where none does; none where its
-- file header is refused
abbrev pub merged_packets : ℕ → ℕ → List ℕ → List Packet
merged_packets blocks budget given =
    if is_some (first_that_holds (file_refusals Ethernet (take 24 given))) then [] else
    packets_within blocks budget (first_place (file_head (take 24 given)) Ethernet 0) (drop 24 given)

-- the packets that are merged of what stands behind a file header are such as a capture may hold
abbrev pub AreCapturedWithin : ℕ → ℕ → Place → List ℕ → Type 0
AreCapturedWithin blocks budget place bytes = AllByRecursion IsCaptured (packets_within blocks budget place bytes)

-- every flow comes back: the segments of the records that are written and whose frames have a key are the packets that
-- have it, in order, in bytes and original length
abbrev pub FlowsComeBack : Options → List Packet → Type 0
FlowsComeBack o packets =
    (key : Option (List ℕ))
    → map content (flat_map segments_of (filter (λ r. is_of key (packet_in r)) (records_of o packets)))
    ≡ map content (filter (is_of key) packets)
