-- How long an output is at most, so that a caller can size it before a call.
use Rattle.std.specs.Prelude.{ℕ, ◌+◌, ◌-◌, ◌*◌, ◌/◌, ◌≤◌, List, length, min}
use Rattle.std.specs.List.{flat_map}
use Rattle.pcap_io.specs.declared.heads.Link.TheVariants.{Ethernet}
use Rattle.pcap_io.specs.Capture.{Packet, reads}
use Rattle.pcap_io.specs.Limits.{off_head2_size}
use Rattle.offload_model.specs.Laws.{InBytes}
use Rattle.offload_model.specs.Passing.{merging_whole, segmenting_whole}
use Rattle.offload_model.specs.Segments.{segments_of}
use Rattle.offload_model.specs.Tested.{reads_tested}
use Rattle.offload_model.specs.Written.{Options}

-- the header of a record, and the offload header behind it
abbrev pub both_heads : ℕ
both_heads = 16 + off_head2_size

-- ---- merging

-- no more records than this many bytes have room for, behind a file header and with a header of 16 bytes each
abbrev pub most_records : ℕ → ℕ → ℕ
most_records len records = min records ((len - 24) / 16)

-- A capture of `len` bytes and at most this many records, merged: a record has an offload header more; and each tap
-- writes a window of it, at most `snap` bytes behind both headers, which all together aren't more than the frames'
-- bytes.
abbrev pub merge_bound : ℕ → ℕ → ℕ → ℕ → ℕ
merge_bound len records taps snap =
    let n = most_records len records in len + n * (off_head2_size + both_heads * taps) + min len (n * (taps * snap))

abbrev pub packets_read : List ℕ → List Packet
packets_read given = (reads Ethernet given).packets

-- whatever the blocks
abbrev pub MergedFits : Type 0
MergedFits =
    (blocks : ℕ) (o : Options) (given : List ℕ) (records : ℕ) → 1 ≤ o.budget → InBytes given
    → length (packets_read given) ≤ records
    → length (merging_whole blocks o given).output ≤ merge_bound (length given) records o.taps o.snap

-- ---- segmenting

-- The packets of a capture of `len` bytes, at most this many and no more than it has bytes: each has a header of 16
-- bytes and the 200 bytes of headers, at most, that a merged frame's segments share.
abbrev pub segment_bound : ℕ → ℕ → ℕ
segment_bound len packets = len + 216 * min packets len

-- the packets that come of a capture's lawful records
abbrev pub packets_cut : List ℕ → List Packet
packets_cut given = flat_map segments_of (reads_tested given).packets

abbrev pub SegmentedFits : Type 0
SegmentedFits =
    (blocks : ℕ) (given : List ℕ) (packets : ℕ) → InBytes given → length (packets_cut given) ≤ packets
    → length (segmenting_whole blocks given).output ≤ segment_bound (length given) packets
