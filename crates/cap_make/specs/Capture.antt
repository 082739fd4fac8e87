-- A generated capture: as many records as are wanted, of eight flows, all of it following from the seed.
use Rattle.std.specs.Prelude.{ℕ, zero, suc, ◌+◌, ◌*◌, ◌/◌, ◌%◌, ◌^◌, ◌==◌, false, List, [], ◌∷◌, ◌++◌, length}
use Rattle.std.specs.Prelude.{if◌then◌else◌, slice_index, slice_set}
use Rattle.net_bytes.specs.declared.order.Order.TheVariants.{Little}
use Rattle.pcap_io.specs.declared.heads.FileHead.{FileHead}
use Rattle.pcap_io.specs.declared.heads.Link.TheVariants.{Ethernet}
use Rattle.pcap_io.specs.Capture.{Packet}
use Rattle.pcap_io.specs.Split.{spelled_all}
use Rattle.pcap_io.specs.Written.{file_bytes}
use Rattle.cap_make.specs.declared.draws.RecordDraws.{RecordDraws}
use Rattle.cap_make.specs.declared.segment.Segment.{Segment}
use Rattle.cap_make.specs.Draws.{draws}
use Rattle.cap_make.specs.Frames.{counting, frame_of}

-- little-endian, microseconds
abbrev pub made_head : FileHead
made_head = record { order = Little; nanos = false; zone = 0; sigfigs = 0 }

-- what is next: the state of the draws, and of each flow the sequence number and the identification
pub record Next : Type 0 where
  pub state : ℕ
  pub sequences : List ℕ
  pub identifications : List ℕ

abbrev pub first_next : ℕ → Next
first_next seed = record {
  state = seed;
  sequences = 0 ∷ 1000 ∷ 2000 ∷ 3000 ∷ 4000 ∷ 5000 ∷ 6000 ∷ 7000 ∷ [];
  identifications = 0 ∷ 0 ∷ 0 ∷ 0 ∷ 0 ∷ 0 ∷ 0 ∷ 0 ∷ [];
}

-- event 13 pushes, and event 15 is a jump of the identification
unfoldable pub segment_by : RecordDraws → Next → Segment
segment_by d next = record {
  flow = d.flow;
  sequence = slice_index next.sequences d.flow;
  identification = (slice_index next.identifications d.flow + (if d.event == 15 then 7 else 0)) % 2 ^ 16;
  flags = if d.event == 13 then 0x18 else 0x10;
}

-- each byte of the payload of record r is the flow, r and its own place, added up
abbrev pub frame_from : RecordDraws → Segment → ℕ → List ℕ
frame_from d s r = frame_of s (counting (d.flow + r) d.payload_len)

-- a thousand records a second
abbrev pub packet_of : List ℕ → ℕ → Packet
packet_of frame r = record {
  number = r;
  sec = r / 1000;
  frac = r % 1000
      * 1000;
  original = length frame;
  frame = frame;
}

-- what is next behind this segment
abbrev pub after_by : RecordDraws → Segment → Next → Next
after_by d s next = record {
  state = d.state;
  sequences = slice_set next.sequences d.flow ((s.sequence + d.payload_len) % 2 ^ 32);
  identifications = slice_set next.identifications d.flow ((s.identification + 1) % 2 ^ 16);
}

-- record r, and what is next behind it
unfoldable pub packet_at : Next → ℕ → Packet
packet_at next r = let d = draws next.state in packet_of (frame_from d (segment_by d next) r) r

unfoldable pub after : Next → Next
after next = let d = draws next.state in after_by d (segment_by d next) next

-- that many packets, from number r on
unfoldable pub packets_from : ℕ → ℕ → Next → List Packet
packets_from zero r next = []
packets_from (suc more) r next = packet_at next r ∷ packets_from more (r + 1) (after next)

abbrev pub made_packets : ℕ → ℕ → List Packet
made_packets seed count = packets_from count 0 (first_next seed)

-- their records' bytes
unfoldable pub records_from : ℕ → ℕ → Next → List ℕ
records_from more r next = spelled_all Little (packets_from more r next)

-- the whole capture
unfoldable pub made : ℕ → ℕ → List ℕ
made seed count = file_bytes made_head Ethernet ++ records_from count 0 (first_next seed)
