-- The laws of merging and segmenting, of a whole capture.
use Rattle.std.specs.Prelude.{◌≡◌, ℕ, ◌^◌, ◌<◌, ◌≤◌, ◌⊎◌, ◌↔◌, Option, None, List, length, map, take}
use Rattle.std.specs.List.{AllByRecursion, filter, flat_map, range_with_len}
use Rattle.std.specs.List.Sorted.{IsPermutation}
use Rattle.maximal_runs.specs.Cut.{AllNeighbours}
use Rattle.maximal_runs.specs.Items.{begins_in, AreItems}
use Rattle.pcap_io.specs.Capture.{Packet, Found, reads}
use Rattle.pcap_io.specs.Headers.{any_head, fields_in, file_head}
use Rattle.pcap_io.specs.declared.heads.FileHead.{FileHead}
use Rattle.pcap_io.specs.declared.heads.Link.TheVariants.{Ethernet, Offload}
use Rattle.offload_model.specs.Mergeable.{IsMergeable, up_to, IsMergeableWithin}
use Rattle.offload_model.specs.Merged.{merged_of}
use Rattle.offload_model.specs.Segments.{packet_in, segments_of, IsLawfulSuper}
use Rattle.offload_model.specs.Rounds.{Spread, is_of, is_queued, number_of, items_of, runs_in}
use Rattle.offload_model.specs.Written.{Options, record_of, records_of, written}
use Rattle.offload_model.specs.Captured.{IsCaptured, AreCaptured, AreOptions, content}
use Rattle.offload_model.specs.Tested.{numbered, reads_tested, segmented_of}
use Rattle.offload_model.specs.Laws.{InBytes}

-- the packets of a capture of link type 1
abbrev pub CapturesAreCaptured : Type 0
CapturesAreCaptured = (bytes : List ℕ) → InBytes bytes → AreCaptured (reads Ethernet bytes).packets

-- ---- runs

-- the segments of a run's record are the run's packets, in order
abbrev pub RunsComeBack : Type 0
RunsComeBack =
    (q : ℕ) (run : List Packet)
    → AllByRecursion IsCaptured run
    → (length run ≡ 1) ⊎ IsMergeable run
    → map content (segments_of (record_of q run)) ≡ map content run

-- the record of mergeable packets is a lawful super-packet; it has as many segments as there were packets, and no more
-- than a frame of a capture can have bytes of payload
abbrev pub RunsAreLawful : Type 0
RunsAreLawful =
    (q : ℕ) (run : List Packet)
    → q ≤ 63
    → AllByRecursion IsCaptured run
    → IsMergeable run
    → IsLawfulSuper (fields_in (any_head (record_of q run).frame)) (packet_in (record_of q run))
    × ((merged_of run).n ≡ length run) × ((merged_of run).n ≤ 262070) × ((merged_of run).m ≤ 262069)

-- the lengths of the packets of a run can be told from its record: two runs with the same merged frame, the same
-- numbers and the same modes are one, packet by packet. So datagrams keep their boundaries
abbrev pub BoundariesAreKept : Type 0
BoundariesAreKept =
    (ps qs : List Packet)
    → AllByRecursion IsCaptured ps
    → AllByRecursion IsCaptured qs
    → IsMergeable ps
    → IsMergeable qs
    → (merged_of ps).packet.frame ≡ (merged_of qs).packet.frame
    → (merged_of ps).n ≡ (merged_of qs).n
    → (merged_of ps).m ≡ (merged_of qs).m
    → (merged_of ps).modes ≡ (merged_of qs).modes
    → map content ps ≡ map content qs

-- ---- rounds

-- the items of a queue are the cuts of all its flows, in the order of their first packets' numbers, and nothing else is
abbrev pub ItemsAreRuns : Type 0
ItemsAreRuns =
    (segs : ℕ) (spread : Spread) (q : ℕ) (ps : List Packet) (items : List (List Packet))
    → AllNeighbours (λ p q. p.number < q.number) ps
    → AreItems (IsMergeableWithin (up_to segs)) is_of number_of (filter (is_queued spread q) ps) items
    ↔ (items ≡ items_of segs spread q ps)

-- the runs of a round are what they are whatever the queues: a queue's items are those of them that begin in it, in
-- their order
abbrev pub QueuesKeepRuns : Type 0
QueuesKeepRuns =
    (segs : ℕ) (spread : Spread) (q : ℕ) (ps : List Packet)
    → AllNeighbours (λ p q. p.number < q.number) ps
    → items_of segs spread q ps ≡ filter (begins_in (is_queued spread q)) (runs_in segs ps)

-- so by any two choices the items of a round are the same but for queue and order
abbrev pub ChoicesKeepItems : Type 0
ChoicesKeepItems =
    (segs : ℕ) (spread other : Spread) (queues others : ℕ) (ps : List Packet)
    → AllNeighbours (λ p q. p.number < q.number) ps
    → ((key : Option (List ℕ)) → spread key < queues)
    → ((key : Option (List ℕ)) → other key < others)
    → IsPermutation (flat_map (λ q. items_of segs spread q ps) (range_with_len 0 queues))
    (flat_map (λ q. items_of segs other q ps) (range_with_len 0 others))

-- where there is one queue, it has all flows
abbrev pub OneQueueHasAll : Type 0
OneQueueHasAll = (segs : ℕ) (spread : Spread) (packets : List Packet) → ((key : Option (List ℕ)) → spread key < 1)
    → items_of segs spread 0 packets ≡ runs_in segs packets

-- over a whole capture every flow comes back: the segments of the records whose frames have a key are the packets that
-- have it, in order
abbrev pub FlowsComeBack : Type 0
FlowsComeBack =
    (o : Options) (ps : List Packet)
    → AreOptions o
    → AreCaptured ps
    → (key : Option (List ℕ))
    → map content (flat_map segments_of (filter (λ r. is_of key (packet_in r)) (records_of o ps)))
    ≡ map content (filter (is_of key) ps)

-- ---- the bytes that are written

-- the bytes that are written read as the records that they were written from, to the end, and each record is lawful.
-- The fields of the file header are passed on
abbrev pub ReadsBack : Type 0
ReadsBack =
    (head : FileHead) (o : Options) (ps : List Packet)
    → AreOptions o
    → AreCaptured ps
    → length (records_of o ps) ≤ 2 ^ 32
    → (reads Offload (written head o ps) ≡ record { packets = numbered 0 (records_of o ps); fault = None })
    × (reads_tested (written head o ps) ≡ record { packets = numbered 0 (records_of o ps); fault = None })

abbrev pub HeadReadsBack : Type 0
HeadReadsBack =
    (head : FileHead) (o : Options) (ps : List Packet)
    → head.zone < 2 ^ 32
    → head.sigfigs < 2 ^ 32
    → file_head (take 24 (written head o ps)) ≡ head

-- so the segments of the records that are read from the written bytes bring every flow back
abbrev pub WrittenComesBack : Type 0
WrittenComesBack =
    (head : FileHead) (o : Options) (ps : List Packet)
    → AreOptions o
    → AreCaptured ps
    → length (records_of o ps) ≤ 2 ^ 32
    → (key : Option (List ℕ))
    → map content (flat_map segments_of (filter (λ r. is_of key (packet_in r))
    (reads_tested (written head o ps)).packets)) ≡ map content (filter (is_of key) ps)

-- ---- segmenting what merging wrote, in bytes

-- a capture of packets of which each flow's are the given ones, in order, with their bytes and original lengths; and it
-- has its end
pub record BringsBack (ps : List Packet) (back : Found) : Type 0 where
  pub whole : back.fault ≡ None
  pub flows : (key : Option (List ℕ)) → map content (filter (is_of key) back.packets)
      ≡ map content (filter (is_of key) ps)

-- the bytes that merging writes of packets are cut back into bytes that read as a capture of these packets, flow by
-- flow
abbrev pub CapturesComeBack : Type 0
CapturesComeBack =
    (head : FileHead) (o : Options) (ps : List Packet)
    → head.zone < 2 ^ 32
    → head.sigfigs < 2 ^ 32
    → AreOptions o
    → AreCaptured ps
    → length (records_of o ps) ≤ 2 ^ 32
    → BringsBack ps (reads Ethernet (segmented_of (written head o ps)))

-- without taps there are no more records than packets, and these have numbers of 32 bits
abbrev pub RecordsAreFew : Type 0
RecordsAreFew = (o : Options) (ps : List Packet) → AreOptions o → AreCaptured ps → o.taps ≡ 0
    → length (records_of o ps) ≤ 2 ^ 32
