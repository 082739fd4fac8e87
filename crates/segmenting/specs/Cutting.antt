-- What is written of one record of an offload capture.
use Rattle.std.specs.Prelude.{ℕ, ◌≡◌, ◌+◌, ◌-◌, true, false, Option, List, length, Result, Ok}
use Rattle.std.specs.Prelude.{Err}
use Rattle.std.specs.List.{flat_map}
use Rattle.std.specs.Io.KnownBytes.{Appends, Keeps}
use Rattle.off_io.specs.Content.{AppendsPrefix}
use Rattle.net_bytes.specs.declared.order.Order.{Order}
use Rattle.pcap_io.specs.Capture.{Packet, packet}
use Rattle.pcap_io.specs.Headers.{any_head, head_size}
use Rattle.pcap_io.specs.declared.off_head.AnyHead.{AnyHead}
use Rattle.skb.specs.SkbState.{buffer_bytes}
use Rattle.offload_model.specs.Segments.{packet_in, segments_of}
use Rattle.offload_model.specs.Tests.{is_lawful_record}
use Rattle.offload_model.specs.Written.{record_bytes}
use Rattle.gro.specs.declared.slot.Slot.{Slot as Held}
use Rattle.segmenting.specs.declared.cut.Refused.{Refused}
use Rattle.segmenting.specs.declared.cut.Refused.TheVariants.{BadOffload, WriteFault}

-- packets as records of their own
abbrev pub packets_bytes : Order → List Packet → List ℕ
packets_bytes order ps = flat_map (record_bytes order) ps

-- the packet behind a record's offload header of n bytes, of which none is in the buffer any more
abbrev pub packet_behind : ℕ → Held → Packet
packet_behind n p = packet p.number p.sec p.frac (p.original - n) (buffer_bytes p.skb)

-- a record whose offload header is this, and whose packet's bytes are all that is in the buffer
pub record IsBehind (r : Packet) (head : AnyHead) (p : Held) : Type 0 where
  pub head_is : any_head r.frame ≡ head
  pub size : length r.frame ≡ head_size head + length (buffer_bytes p.skb)
  pub original : r.original ≡ p.original
  pub behind : packet_in r ≡ packet_behind (head_size head) p

-- all was written, or a prefix of it
abbrev pub Writes : List ℕ → Option (List ℕ) → Option (List ℕ) → Result (Unit {0}) Refused → Type 0
Writes all old new (Ok _) = Appends old new all
Writes all old new (Err BadOffload) = ⊥
Writes all old new (Err WriteFault) = AppendsPrefix old new all

-- what is written of one record: nothing where it isn't lawful
abbrev pub WritesRecord : Order → Packet → Option (List ℕ) → Option (List ℕ) → Result (Unit {0}) Refused → Type 0
WritesRecord order r old new (Ok _) = (is_lawful_record r ≡ true)
    × Appends old new (packets_bytes order (segments_of r))
WritesRecord order r old new (Err BadOffload) = (is_lawful_record r ≡ false) × Keeps old new
WritesRecord order r old new (Err WriteFault) = (is_lawful_record r ≡ true)
    × AppendsPrefix old new (packets_bytes order (segments_of r))
