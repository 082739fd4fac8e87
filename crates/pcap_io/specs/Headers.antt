-- The fields of a capture's headers, and the order in which they are judged (pcap file format, sections 4 and 5).
use Rattle.std.specs.Prelude.{ℕ, ◌+◌, ◌-◌, ◌^◌, nat_lt, nat_le, ◌==◌, ◌&&◌, ◌||◌, not, Bool, true, false, List, [], ◌∷◌}
use Rattle.std.specs.Prelude.{◌++◌, length, take, drop, Option, None, Some, if◌then◌else◌, is_none, unwrap_or}
use Rattle.net_bytes.specs.declared.order.Order.{Order}
use Rattle.net_bytes.specs.declared.order.Order.TheVariants.{Big, Little}
use Rattle.net_bytes.specs.Order.{number}
use Rattle.net_bytes.specs.Bytes.{byte, be16, be32}
use Rattle.pcap_io.specs.Limits.{most_frame, most_record, off_head_size, off_head2_size}
use Rattle.pcap_io.specs.declared.heads.Link.{Link}
use Rattle.pcap_io.specs.declared.heads.Link.TheVariants as links
use Rattle.pcap_io.specs.declared.heads.FileHead.{FileHead}
use Rattle.pcap_io.specs.declared.off_head.OffHead.{OffHead}
use Rattle.pcap_io.specs.declared.off_head.OffHead2.{OffHead2}
use Rattle.pcap_io.specs.declared.off_head.AnyHead.{AnyHead}
use Rattle.pcap_io.specs.declared.off_head.AnyHead.TheVariants.{V1, V2}
use Rattle.pcap_io.specs.declared.faults.CapKind.{CapKind}
use Rattle.pcap_io.specs.declared.faults.CapKind.TheVariants.{ShortHeader, BadMagic, BadVersion, BadLinkType}
use Rattle.pcap_io.specs.declared.faults.CapKind.TheVariants.{ShortRecordHeader, TooMany, TooLong, BadOriginal}
use Rattle.pcap_io.specs.declared.faults.CapKind.TheVariants.{BadOffload, ShortRecord}

-- The magic number names the byte order by how it is spelled, and the unit of time by its value: 0xa1b2c3d4 for
-- microseconds, 0xa1b23c4d for nanoseconds (true).
abbrev pub spelling_of : List ℕ → Option (Order × Bool)
spelling_of bytes =
    if number Big 4 bytes == 2712847316 then Some (Big, false) else
    (if number Big 4 bytes == 2712812621 then Some (Big, true) else
    (if number Little 4 bytes == 2712847316 then Some (Little, false) else
    (if number Little 4 bytes == 2712812621 then Some (Little, true) else None)))

abbrev pub order_of : List ℕ → Order
order_of bytes = (unwrap_or (spelling_of bytes) (Little, false)).0

-- LINKTYPE_ETHERNET, and the first of the numbers for private use
abbrev pub link_number : Link → ℕ
link_number links.Ethernet = 1
link_number links.Offload = 147

-- the first kind whose test holds
abbrev pub first_that_holds : List (Bool × CapKind) → Option CapKind
first_that_holds [] = None
first_that_holds (row ∷ rows) = if row.0 then Some row.1 else first_that_holds rows

-- what refuses the first 24 bytes as a file header, in order
abbrev pub file_refusals : Link → List ℕ → List (Bool × CapKind)
file_refusals link head =
    (nat_lt (length head) 24, ShortHeader)
    ∷ (is_none (spelling_of head), BadMagic)
    ∷ (not ((number (order_of head) 2 (drop 4 head) == 2) && (number (order_of head) 2 (drop 6 head) == 4)), BadVersion)
    ∷ (not (number (order_of head) 4 (drop 20 head) == link_number link), BadLinkType)
    ∷ []

-- where such a fault lies
abbrev pub file_place : CapKind → ℕ
file_place BadVersion = 4
file_place BadLinkType = 20
file_place _ = 0

-- the fields of a file header that are passed on
abbrev pub file_head : List ℕ → FileHead
file_head head = record {
  order = order_of head;
  nanos = (unwrap_or (spelling_of head) (Little, false)).1;
  zone = number (order_of head) 4 (drop 8 head);
  sigfigs = number (order_of head) 4 (drop 12 head);
}

-- a record header: seconds, fraction, captured length, original length, four bytes each
abbrev pub captured_length : Order → List ℕ → ℕ
captured_length order head = number order 4 (drop 8 head)

abbrev pub original_length : Order → List ℕ → ℕ
original_length order head = number order 4 (drop 12 head)

-- a frame, or one behind an offload header
abbrev pub captured_limit : Link → ℕ
captured_limit links.Ethernet = most_frame
captured_limit links.Offload = most_record

abbrev pub is_bad_original : Link → ℕ → Bool
is_bad_original links.Ethernet n = nat_lt (2 ^ 31 - 1) n
is_bad_original links.Offload n = nat_lt (2 ^ 31 - 1 + off_head2_size) n || nat_lt n off_head_size

abbrev pub lacks_off_head : Link → ℕ → Bool
lacks_off_head links.Ethernet n = false
lacks_off_head links.Offload n = nat_lt n off_head_size

-- what refuses the next 16 bytes as the header of record n, in order
abbrev pub head_refusals : Order → Link → ℕ → List ℕ → List (Bool × CapKind)
head_refusals order link n head =
    (nat_lt (length head) 16, ShortRecordHeader)
    ∷ (nat_le (2 ^ 32) n, TooMany)
    ∷ (nat_lt (captured_limit link) (captured_length order head), TooLong)
    ∷ (is_bad_original link (original_length order head), BadOriginal)
    ∷ (lacks_off_head link (captured_length order head), BadOffload)
    ∷ []

-- what refuses the body behind a lawful record header, in order; a further test of whole records is a further row
abbrev pub body_refusals : Order → List ℕ → List ℕ → List (Bool × CapKind)
body_refusals order head body = (nat_lt (length body) (captured_length order head), ShortRecord) ∷ []

-- what refuses the record at the front of these bytes, in order
abbrev pub record_refusals : Order → Link → ℕ → List ℕ → List (Bool × CapKind)
record_refusals order link n bytes =
    head_refusals order link n (take 16 bytes) ++ body_refusals order (take 16 bytes) (drop 16 bytes)

-- the fields of an offload header of version 1, big-endian whatever the file's order is
abbrev pub off_head : List ℕ → OffHead
off_head bytes = record {
  version = byte bytes 0;
  kind = byte bytes 1;
  n = be16 bytes 2;
  m = be16 bytes 4;
  modes = byte bytes 6;
  lane = byte bytes 7;
  number = be32 bytes 8;
}

-- and of version 2
abbrev pub off_head2 : List ℕ → OffHead2
off_head2 bytes = record {
  version = byte bytes 0;
  kind = byte bytes 1;
  modes = byte bytes 2;
  lane = byte bytes 3;
  n = be32 bytes 4;
  m = be32 bytes 8;
  number = be32 bytes 12;
}

-- the first byte tells the version; what is neither is read as version 1, which refuses it
abbrev pub any_head : List ℕ → AnyHead
any_head bytes = if byte bytes 0 == 2 then V2 (off_head2 bytes) else V1 (off_head bytes)

-- how many bytes the header has
abbrev pub head_size : AnyHead → ℕ
head_size (V1 h) = off_head_size
head_size (V2 h) = off_head2_size

-- its fields, of either version in those of version 2
abbrev pub fields_in : AnyHead → OffHead2
fields_in (V1 h) = record {
  version = h.version;
  kind = h.kind;
  modes = h.modes;
  lane = h.lane;
  n = h.n;
  m = h.m;
  number = h.number;
}
fields_in (V2 h) = h

-- the version that it says is its own
abbrev pub says_version : AnyHead → Bool
says_version (V1 h) = h.version == 1
says_version (V2 h) = h.version == 2
