-- Records as they are written from buffers (pcap file format, section 5).
use Rattle.std.specs.Prelude.{ℕ, ◌+◌, List, length, ◌++◌, Option, None, Some, OnErr, OnOk, Result}
use Rattle.std.specs.Io.KnownBytes.{Appends}
use Rattle.off_io.specs.Content.{AppendsPrefix}
use Rattle.off_io.specs.Faults.{HasCause}
use Rattle.pcap_io.specs.Limits.{off_head2_size}
use Rattle.net_bytes.specs.declared.order.Order.{Order}
use Rattle.pcap_io.specs.declared.off_head.OffHead2.{OffHead2}
use Rattle.pcap_io.specs.Capture.{Packet, packet}
use Rattle.pcap_io.specs.Written.{rec_bytes, off_bytes2}
use Rattle.skb.specs.SkbState.{buffer_bytes}
use Rattle.segment_rule.specs.Segmentations.{segment_at}
use Rattle.gso.specs.Places.{SegmentsState}
use Rattle.offload_model.specs.Merged.{Merged}
use Rattle.offload_model.specs.Segments.{with_head}
use Rattle.offload_model.specs.Written.{head_of, record_bytes}
use Rattle.records.specs.declared.record.Time.{Time}

-- a sink got these bytes, or a prefix of them where it failed: what it held before and holds now, and its faults
pub record Writes {T E : Type 0} (held now : Option (List ℕ)) (faults risen : ℕ) (bytes : List ℕ) (result : Result T E)
    : Type 0 where
  pub ok : OnOk result (Appends held now bytes)
  pub err : OnErr result (AppendsPrefix held now bytes)
  pub cause : HasCause faults risen result

-- a packet behind an offload header, where there is one
abbrev pub headed : Option OffHead2 → Packet → Packet
headed None p = p
headed (Some head) p = with_head head p

-- the headers before a frame of this length and original length
abbrev pub heads_of : Order → ℕ → ℕ → ℕ → ℕ → Option OffHead2 → List ℕ
heads_of order sec frac len original None = rec_bytes order sec frac len original
heads_of order sec frac len original (Some head) = rec_bytes order sec frac (len + off_head2_size)
    (original + off_head2_size) ++ off_bytes2 head

-- ---- what runs come to

-- what is written of an item of queue q
abbrev pub item_bytes : Order → ℕ → Merged → List ℕ
item_bytes order q m = record_bytes order (with_head (head_of q m) m.packet)

-- ---- what segments come to

-- what is written of segment i, from 0: a record of its own, with its own length as original length
abbrev pub segment_bytes : Order → Time → SegmentsState → ℕ → List ℕ
segment_bytes order time s i =
    let frame = segment_at s.cut (buffer_bytes s.skb) i in
    record_bytes order (packet 0 time.sec time.frac (length frame) frame)
