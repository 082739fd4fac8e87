-- A capture's bytes as its records spelled out, and what stands behind them (pcap file format, sections 4 and 5).
use Rattle.std.specs.Prelude.{◌≡◌, ℕ, ◌+◌, ◌^◌, ◌<◌, ◌≤◌, false, List, [], ◌∷◌, ◌++◌, length, take, drop, Option, None}
use Rattle.std.specs.Prelude.{Some, ⊤}
use Rattle.net_bytes.specs.declared.order.Order.{Order}
use Rattle.pcap_io.specs.declared.heads.Link.{Link}
use Rattle.pcap_io.specs.declared.faults.CapKind.{CapKind}
use Rattle.pcap_io.specs.declared.faults.CapFault.{CapFault}
use Rattle.pcap_io.specs.Headers.{first_that_holds, file_refusals, record_refusals, order_of, captured_limit}
use Rattle.pcap_io.specs.Headers.{is_bad_original, lacks_off_head}
use Rattle.pcap_io.specs.Capture.{Packet, Found}
use Rattle.pcap_io.specs.Written.{rec_bytes}

abbrev pub AreBytes : List ℕ → Type 0
AreBytes [] = ⊤
AreBytes (b ∷ bytes) = (b < 256) × AreBytes bytes

-- a packet's record: its header, and then its bytes
abbrev pub spelled : Order → Packet → List ℕ
spelled order p = rec_bytes order p.sec p.frac (length p.frame) p.original ++ p.frame

-- these records, one after the other
abbrev pub spelled_all : Order → List Packet → List ℕ
spelled_all order [] = []
spelled_all order (p ∷ ps) = spelled order p ++ spelled_all order ps

-- a packet that a lawful record of this number may hold
pub record IsLawful (link : Link) (n : ℕ) (p : Packet) : Type 0 where
  pub number : p.number ≡ n
  pub few : n < 2 ^ 32
  pub sec : p.sec < 2 ^ 32
  pub frac : p.frac < 2 ^ 32
  pub original : p.original < 2 ^ 32
  pub captured_in_range : length p.frame ≤ captured_limit link
  pub original_in_range : is_bad_original link p.original ≡ false
  pub has_off_head : lacks_off_head link (length p.frame) ≡ false

-- packets of lawful records, numbered from n in turn
abbrev pub AreLawful : Link → ℕ → List Packet → Type 0
AreLawful link n [] = ⊤
AreLawful link n (p ∷ ps) = IsLawful link n p × AreLawful link (n + 1) ps

-- These bytes, at an offset where record n should begin, hold no whole lawful record: they are none, or refused with
-- this fault.
abbrev pub EndsAs : Order → Link → ℕ → ℕ → List ℕ → Option CapFault → Type 0
EndsAs order link n offset [] fault = fault ≡ None
EndsAs order link n offset (b ∷ bytes) fault =
    (kind : CapKind) × (first_that_holds (record_refusals order link n (b ∷ bytes)) ≡ Some kind)
    × (fault ≡ Some (record { kind = kind; offset = offset; number = n }))

-- The bytes are a lawful file header, the packets' records spelled out, and a rest that starts no whole lawful record.
pub record IsSplit (first : ℕ) (link : Link) (bytes : List ℕ) (found : Found) (rest : List ℕ) : Type 0 where
  pub header : first_that_holds (file_refusals link (take 24 bytes)) ≡ None
  pub whole : drop 24 bytes ≡ spelled_all (order_of (take 24 bytes)) found.packets ++ rest
  pub lawful : AreLawful link first found.packets
  pub end : EndsAs (order_of (take 24 bytes)) link (first + length found.packets)
      (24 + length (spelled_all (order_of (take 24 bytes)) found.packets)) rest found.fault
