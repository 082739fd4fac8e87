-- The capture of link type 147 that merging writes, and the one of link type 1 that segmenting writes.
use Rattle.std.specs.Prelude.{ℕ, ◌*◌, ◌==◌, if◌then◌else◌, List, [], ◌∷◌, ◌++◌, length, map, take, drop, Option, Some}
use Rattle.std.specs.Prelude.{None, unwrap_or}
use Rattle.std.specs.List.{flat_map, range_with_len}
use Rattle.net_bytes.specs.declared.order.Order.{Order}
use Rattle.tap_filter.specs.declared.instr.Instr.{Instr}
use Rattle.tap_filter.specs.Meaning.{value_of}
use Rattle.pcap_io.specs.Capture.{Packet}
use Rattle.pcap_io.specs.Written.{file_bytes, rec_bytes}
use Rattle.pcap_io.specs.declared.heads.FileHead.{FileHead}
use Rattle.pcap_io.specs.declared.heads.Link.TheVariants.{Ethernet, Offload}
use Rattle.pcap_io.specs.declared.off_head.OffHead2.{OffHead2}
use Rattle.offload_model.specs.Merged.{Merged, merged_of}
use Rattle.offload_model.specs.Segments.{with_head, with_frame, segments_of}
use Rattle.offload_model.specs.Rounds.{Spread, rounds_of, items_of}

-- how a capture is merged: rounds of `budget` packets, the number of queues and the one of each flow, the number of
-- taps, how many bytes of a frame each tap reads, how many packets a run may have, and the filter of what taps are
-- shown
pub record Options : Type 0 where
  pub budget : ℕ
  pub queues : ℕ
  pub spread : Spread
  pub taps : ℕ
  pub snap : ℕ
  pub segs : ℕ
  pub filter : Option (List Instr)

-- ---- the records of runs

-- the offload header of what a run comes to, of queue q
abbrev pub head_of : ℕ → Merged → OffHead2
head_of q r = record {
  version = 2;
  kind = if r.n == 1 then 0 else 1;
  modes = r.modes;
  lane = q;
  n = r.n;
  m = r.m;
  number = r.packet.number;
}

abbrev pub record_of : ℕ → List Packet → Packet
record_of q run = with_head (head_of q (merged_of run)) (merged_of run).packet

-- ---- the records of taps

-- what taps are shown of a frame: as many of its first bytes as a filter's value, all where there is no filter
abbrev pub shown_bytes : Option (List Instr) → List ℕ → List ℕ
shown_bytes None f = f
shown_bytes (Some code) f = take (unwrap_or (value_of code f) 0) f

abbrev pub shown_of : Option (List Instr) → Packet → Packet
shown_of filter p = record p { frame = shown_bytes filter p.frame }

-- window t of a frame: its bytes from t * snap on, at most `snap`
abbrev pub window_of : ℕ → ℕ → List ℕ → List ℕ
window_of snap t f = take snap (drop (t * snap) f)

-- the offload header of a window of tap t, of packet `number`
abbrev pub window_head : ℕ → ℕ → OffHead2
window_head t number = record { version = 2; kind = 2; modes = 0; lane = t; n = 0; m = 0; number = number }

abbrev pub window_record : ℕ → Packet → List ℕ → Packet
window_record t p window = with_head (window_head t p.number) (with_frame p window)

-- a window that is empty is left out
abbrev pub windows_by : ℕ → Packet → List ℕ → List Packet
windows_by t p [] = []
windows_by t p (b ∷ bytes) = window_record t p (b ∷ bytes) ∷ []

abbrev pub windows_of : ℕ → ℕ → List Packet → List Packet
windows_of snap t ps = flat_map (λ p. windows_by t p (window_of snap t p.frame)) ps

-- ---- all of them

-- of a round: queue by queue the records of its runs, and then tap by tap the windows of what is shown of the packets
-- as they were read
abbrev pub round_records : Options → List Packet → List Packet
round_records o ps =
    flat_map (λ q. map (record_of q) (items_of o.segs o.spread q ps)) (range_with_len 0 o.queues)
    ++ flat_map (λ t. windows_of o.snap t (map (shown_of o.filter) ps)) (range_with_len 0 o.taps)

-- of all packets, round by round
abbrev pub records_of : Options → List Packet → List Packet
records_of o ps = flat_map (round_records o) (rounds_of o.budget ps)

-- a record's header and its body
abbrev pub record_bytes : Order → Packet → List ℕ
record_bytes order r = rec_bytes order r.sec r.frac (length r.frame) r.original ++ r.frame

-- the whole capture, in the byte order of the one that was read
abbrev pub written : FileHead → Options → List Packet → List ℕ
written head o ps = file_bytes head Offload ++ flat_map (record_bytes head.order) (records_of o ps)

-- ---- and the capture of link type 1 that segmenting these records writes

abbrev pub segmented : FileHead → List Packet → List ℕ
segmented head rs = file_bytes head Ethernet ++ flat_map (record_bytes head.order) (flat_map segments_of rs)
