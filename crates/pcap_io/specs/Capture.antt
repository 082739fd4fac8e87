-- A capture: its whole lawful records from the front, and how it ends (pcap file format, sections 4 and 5).
use Rattle.std.specs.Prelude.{ℕ, zero, suc, ◌+◌, List, [], ◌∷◌, take, drop, Option, None, Some}
use Rattle.net_bytes.specs.declared.order.Order.{Order}
use Rattle.net_bytes.specs.Order.{number}
use Rattle.pcap_io.specs.declared.heads.Link.{Link}
use Rattle.pcap_io.specs.declared.faults.CapKind.{CapKind}
use Rattle.pcap_io.specs.declared.faults.CapFault.{CapFault}
use Rattle.pcap_io.specs.Headers.{first_that_holds, file_refusals, file_place, order_of, captured_length}
use Rattle.pcap_io.specs.Headers.{original_length, record_refusals}

-- a record's packet: its number in the capture, its time, its length on the wire, and the bytes that were captured
pub record Packet : Type 0 where
  pub number : ℕ
  pub sec : ℕ
  pub frac : ℕ
  pub original : ℕ
  pub frame : List ℕ

-- the packets of a capture, and the fault that ends it, if one does
pub record Found : Type 0 where
  pub packets : List Packet
  pub fault : Option CapFault

abbrev pub packet : ℕ → ℕ → ℕ → ℕ → List ℕ → Packet
packet n sec frac original frame = record { number = n; sec = sec; frac = frac; original = original; frame = frame }

-- the packet of the record at the front
abbrev pub packet_at : Order → ℕ → List ℕ → Packet
packet_at order n bytes =
    let head = take 16 bytes in
    record {
      number = n;
      sec = number order 4 head;
      frac = number order 4 (drop 4 head);
      original = original_length order head;
      frame = take (captured_length order head) (drop 16 bytes);
    }

-- no packet more, and the fault that ends the capture, if one does
abbrev pub ended : Option CapFault → Found
ended fault = record { packets = []; fault = fault }

-- one packet in front
abbrev pub one_more : Packet → Found → Found
one_more packet rest = record { packets = packet ∷ rest.packets; fault = rest.fault }

-- a fault, or else one packet more
abbrev pub judged : Option CapKind → ℕ → ℕ → Packet → Found → Found
judged None n offset packet rest = one_more packet rest
judged (Some kind) n offset packet rest = ended (Some (record { kind = kind; offset = offset; number = n }))

-- From record n on, which begins at this offset after `skip` bytes that belong to the one before. No byte where a
-- record may begin is the end.
unfoldable pub records_from : Order → Link → ℕ → ℕ → ℕ → List ℕ → Found
records_from order link n offset skip [] = ended None
records_from order link n offset (suc skip) (b ∷ bytes) = records_from order link n offset skip bytes
records_from order link n offset zero (b ∷ bytes) =
    let size = captured_length order (take 16 (b ∷ bytes)) in
    judged (first_that_holds (record_refusals order link n (b ∷ bytes))) n offset (packet_at order n (b ∷ bytes))
    (records_from order link (n + 1) (offset + 16 + size) (15 + size) bytes)

abbrev pub found_after : Option CapKind → Found → Found
found_after None found = found
found_after (Some kind) found = ended (Some (record { kind = kind; offset = file_place kind; number = 0 }))

-- what a capture's bytes read as, with record numbers from `first`
abbrev pub reads_numbered : ℕ → Link → List ℕ → Found
reads_numbered first link bytes =
    let head = take 24 bytes in
    found_after (first_that_holds (file_refusals link head))
    (records_from (order_of head) link first 24 0 (drop 24 bytes))

abbrev pub reads : Link → List ℕ → Found
reads link bytes = reads_numbered 0 link bytes
