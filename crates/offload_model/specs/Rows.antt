-- Worked rows: captures whose sums were computed by another program, and what merging them gives.
use Rattle.std.specs.Prelude.{◌≡◌, ℕ, ◌+◌, ◌-◌, ◌*◌, ◌/◌, ◌%◌, true, false, None, List, [], ◌∷◌, ◌++◌, length, map}
use Rattle.std.specs.Prelude.{take, drop, replicate}
use Rattle.std.specs.List.{flat_map, range_with_len}
use Rattle.net_bytes.specs.Bytes.{bytes16}
use Rattle.ip_headers.specs.Ip4.{total_length}
use Rattle.tcp_headers.specs.Udp.{udp_length}
use Rattle.frame_layout.specs.Key.{key_of}
use Rattle.pcap_io.specs.Written.{off_bytes}
use Rattle.pcap_io.specs.declared.off_head.OffHead.{OffHead}
use Rattle.net_bytes.specs.declared.order.Order.TheVariants.{Little}
use Rattle.pcap_io.specs.Capture.{Packet}
use Rattle.maximal_runs.specs.Cut.{IsCut}
use Rattle.offload_model.specs.Mergeable.{IsMergeable}
use Rattle.offload_model.specs.Merged.{merged_of}
use Rattle.offload_model.specs.Segments.{with_head, segments_of}
use Rattle.offload_model.specs.Tests.{is_lawful_record}
use Rattle.frame_layout.specs.Key.{queue_of}
use Rattle.offload_model.specs.Rounds.{items_of}
use Rattle.offload_model.specs.Written.{Options, records_of, written}
use Rattle.offload_model.specs.Captured.{content}

-- ---- frames

abbrev pub packet : ℕ → List ℕ → Packet
packet n frame = record { number = n; sec = 1; frac = 0; original = length frame; frame = frame }

abbrev pub bytes32 : ℕ → List ℕ
bytes32 n = bytes16 (n / 65536) ++ bytes16 (n % 65536)

-- an Ethernet header with this type
abbrev pub ethernet : ℕ → List ℕ
ethernet kind = 2 ∷ 0 ∷ 0 ∷ 0 ∷ 0 ∷ 2 ∷ 2 ∷ 0 ∷ 0 ∷ 0 ∷ 0 ∷ 1 ∷ bytes16 kind

-- an IPv4 header: length, identification, flags and offset, protocol, sum, addresses
abbrev pub ip4 : ℕ → ℕ → ℕ → ℕ → ℕ → List ℕ → List ℕ
ip4 len id flags protocol sum addresses =
    0x45 ∷ 0 ∷ (bytes16 len ++ (bytes16 id ++ (bytes16 flags ++ (64 ∷ protocol ∷ (bytes16 sum ++ addresses)))))

-- TCP over IPv4 from 10.0.0.1 to 10.0.0.2, port 5001, acknowledgment 1, window 256
abbrev pub tcp4_with : List ℕ → ℕ → ℕ → ℕ → ℕ → ℕ → ℕ → ℕ → List ℕ → List ℕ
tcp4_with options port id flags ip_sum sequence control tcp_sum payload =
    ethernet 0x0800
    ++ (ip4 (40 + length options + length payload) id flags 6 ip_sum (10 ∷ 0 ∷ 0 ∷ 1 ∷ 10 ∷ 0 ∷ 0 ∷ 2 ∷ [])
    ++ (bytes16 port ++ (bytes16 5001 ++ (bytes32 sequence
    ++ (bytes32 1 ++ ((80 + 4 * length options) ∷ control ∷ 1 ∷ 0
    ∷ (bytes16 tcp_sum ++ (0 ∷ 0 ∷ (options ++ payload)))))))))

abbrev pub tcp4 : ℕ → ℕ → ℕ → ℕ → ℕ → ℕ → ℕ → List ℕ → List ℕ
tcp4 port id flags ip_sum sequence control tcp_sum payload = tcp4_with
    [] port id flags ip_sum sequence control tcp_sum payload

-- UDP to VXLAN's port, and a VXLAN header of network 4096, before an inner frame
abbrev pub tunnel : ℕ → List ℕ → List ℕ
tunnel sum inner = bytes16 50000 ++ (bytes16 4789 ++ (bytes16 (16 + length inner)
    ++ (bytes16 sum ++ (8 ∷ 0 ∷ 0 ∷ 0 ∷ 0 ∷ 16 ∷ 0 ∷ 0 ∷ inner))))

-- over IPv4 from 192.0.2.1 to 192.0.2.100 with "don't fragment"
abbrev pub vxlan4 : ℕ → ℕ → ℕ → List ℕ → List ℕ
vxlan4 id ip_sum udp_sum inner =
    ethernet 0x0800 ++ (ip4 (36 + length inner) id 0x4000 17 ip_sum (192 ∷ 0 ∷ 2 ∷ 1 ∷ 192 ∷ 0 ∷ 2 ∷ 100 ∷ [])
    ++ tunnel udp_sum inner)

-- over IPv6 from 2001:db8::1 to 2001:db8::1:1
abbrev pub vxlan6 : ℕ → List ℕ → List ℕ
vxlan6 udp_sum inner =
    ethernet 0x86dd
    ++ (0x60 ∷ 0 ∷ 0 ∷ 0 ∷ (bytes16 (16 + length inner)
    ++ (17 ∷ 64 ∷ (0x20 ∷ 1 ∷ 0xd ∷ 0xb8 ∷ (replicate 11 0
    ++ (1 ∷ (0x20 ∷ 1 ∷ 0xd ∷ 0xb8 ∷ (replicate 9 0 ++ (1 ∷ 0 ∷ 1 ∷ tunnel udp_sum inner)))))))))

-- a datagram over IPv4 from 10.0.0.1, port 40000, to 10.0.0.2
abbrev pub udp4 : ℕ → ℕ → ℕ → ℕ → List ℕ → List ℕ
udp4 port id ip_sum sum payload =
    ethernet 0x0800
    ++ (ip4 (28 + length payload) id 0x4000 17 ip_sum (10 ∷ 0 ∷ 0 ∷ 1 ∷ 10 ∷ 0 ∷ 0 ∷ 2 ∷ [])
    ++ (bytes16 40000 ++ (bytes16 port ++ (bytes16 (8 + length payload) ++ (bytes16 sum ++ payload)))))

-- GRE over IPv4 from 192.0.2.1 to 192.0.2.100, with these first two bytes and this key or none, before an inner IPv4
-- header
abbrev pub gre4 : ℕ → ℕ → ℕ → List ℕ → List ℕ → List ℕ
gre4 flags id ip_sum key inner =
    ethernet 0x0800
    ++ (ip4 (10 + length key + length inner) id 0x4000 47 ip_sum (192 ∷ 0 ∷ 2 ∷ 1 ∷ 192 ∷ 0 ∷ 2 ∷ 100 ∷ [])
    ++ (bytes16 flags ++ (bytes16 0x0800 ++ (key ++ drop 14 inner))))

-- ---- captures

-- two packets of four and two bytes of payload, the second with PSH
abbrev pub worked_0 : List ℕ
worked_0 =
    2 ∷ 0 ∷ 0 ∷ 0 ∷ 0 ∷ 2 ∷ 2 ∷ 0 ∷ 0 ∷ 0 ∷ 0 ∷ 1 ∷ 8 ∷ 0 ∷ 69 ∷ 0 ∷ 0 ∷ 44 ∷ 0 ∷ 100 ∷ 64 ∷ 0 ∷ 64 ∷ 6 ∷ 38 ∷ 102 ∷
    10 ∷ 0 ∷ 0 ∷ 1 ∷ 10 ∷ 0 ∷ 0 ∷ 2 ∷ 156 ∷ 64 ∷ 19 ∷ 137 ∷ 0 ∷ 0 ∷ 3 ∷ 232 ∷ 0 ∷ 0 ∷ 0 ∷ 1 ∷ 80 ∷ 16 ∷ 1 ∷ 0 ∷ 34 ∷
    85 ∷ 0 ∷ 0 ∷ 97 ∷ 98 ∷ 99 ∷ 100 ∷ []

abbrev pub worked_1 : List ℕ
worked_1 =
    2 ∷ 0 ∷ 0 ∷ 0 ∷ 0 ∷ 2 ∷ 2 ∷ 0 ∷ 0 ∷ 0 ∷ 0 ∷ 1 ∷ 8 ∷ 0 ∷ 69 ∷ 0 ∷ 0 ∷ 42 ∷ 0 ∷ 101 ∷ 64 ∷ 0 ∷ 64 ∷ 6 ∷ 38 ∷ 103 ∷
    10 ∷ 0 ∷ 0 ∷ 1 ∷ 10 ∷ 0 ∷ 0 ∷ 2 ∷ 156 ∷ 64 ∷ 19 ∷ 137 ∷ 0 ∷ 0 ∷ 3 ∷ 236 ∷ 0 ∷ 0 ∷ 0 ∷ 1 ∷ 80 ∷ 24 ∷ 1 ∷ 0 ∷ 129 ∷
    171 ∷ 0 ∷ 0 ∷ 101 ∷ 102 ∷ []

abbrev pub worked : List Packet
worked = packet 0 worked_0 ∷ record { number = 1; sec = 1; frac = 5; original = 56; frame = worked_1 } ∷ []

-- and the capture that merging them writes: one record of 76 bytes
abbrev pub worked_written : List ℕ
worked_written =
    212 ∷ 195 ∷ 178 ∷ 161 ∷ 2 ∷ 0 ∷ 4 ∷ 0 ∷ 0 ∷ 0 ∷ 0 ∷ 0 ∷ 0 ∷ 0 ∷ 0 ∷ 0 ∷ 16 ∷ 0 ∷ 4 ∷ 0 ∷ 147 ∷ 0 ∷ 0 ∷ 0 ∷ 1 ∷
    0 ∷ 0 ∷ 0 ∷ 0 ∷ 0 ∷ 0 ∷ 0 ∷ 76 ∷ 0 ∷ 0 ∷ 0 ∷ 76 ∷ 0 ∷ 0 ∷ 0 ∷ 2 ∷ 1 ∷ 0 ∷ 0 ∷ 0 ∷ 0 ∷ 0 ∷ 2 ∷ 0 ∷ 0 ∷ 0 ∷ 4 ∷ 0 ∷
    0 ∷ 0 ∷ 0 ∷ 2 ∷ 0 ∷ 0 ∷ 0 ∷ 0 ∷ 2 ∷ 2 ∷ 0 ∷ 0 ∷ 0 ∷ 0 ∷ 1 ∷ 8 ∷ 0 ∷ 69 ∷ 0 ∷ 0 ∷ 46 ∷ 0 ∷ 100 ∷ 64 ∷ 0 ∷ 64 ∷ 6 ∷
    38 ∷ 100 ∷ 10 ∷ 0 ∷ 0 ∷ 1 ∷ 10 ∷ 0 ∷ 0 ∷ 2 ∷ 156 ∷ 64 ∷ 19 ∷ 137 ∷ 0 ∷ 0 ∷ 3 ∷ 232 ∷ 0 ∷ 0 ∷ 0 ∷ 1 ∷ 80 ∷ 24 ∷
    1 ∷ 0 ∷ 188 ∷ 228 ∷ 0 ∷ 0 ∷ 97 ∷ 98 ∷ 99 ∷ 100 ∷ 101 ∷ 102 ∷ []

-- datagrams of 500, 500 and 200 bytes
abbrev pub datagrams : List Packet
datagrams =
    packet 0 (udp4 5001 1 0x24da 0x1f11 (replicate 500 97))
    ∷ packet 1 (udp4 5001 2 0x24d9 0x1f11 (replicate 500 97))
    ∷ packet 2 (udp4 5001 3 0x2604 0x3078 (replicate 200 97))
    ∷ []

-- the first without a sum
abbrev pub unsummed : List Packet
unsummed =
    packet 0 (udp4 5001 1 0x24da 0x0000 (replicate 500 97))
    ∷ packet 1 (udp4 5001 2 0x24d9 0x1f11 (replicate 500 97))
    ∷ []

-- to the port that Linux took for VXLAN
abbrev pub old_port : List Packet
old_port = packet 0 (udp4 8472 1 0x266a 0x28b6 (replicate 100 97)) ∷ []

-- through GRE without a key, with the keys 7 and 7, and with 7 and 8
abbrev pub in_gre : ℕ → ℕ → ℕ → List ℕ → List ℕ → List Packet
in_gre flags first second key other =
    packet 0 (gre4 flags 500 first key (tcp4 40000 100 0x4000 0x2606 1000 0x10 0xe1b6 (replicate 100 97)))
    ∷ packet 1 (gre4 flags 501 second other (tcp4 40000 101 0x4000 0x2605 1100 0x10 0xe152 (replicate 100 97)))
    ∷ []

-- identifications 65535 and 0, sequence numbers 4294967196 and 0
abbrev pub wrapped : List Packet
wrapped =
    packet 0 (tcp4 40000 65535 0x4000 0x266a 4294967196 0x10 0xe601 (replicate 100 97))
    ∷ packet 1 (tcp4 40000 0 0x4000 0x266a 0 0x10 0xe59e (replicate 100 97))
    ∷ []

-- both identifications 7, with "don't fragment"
abbrev pub fixed : List Packet
fixed =
    packet 0 (tcp4 40000 7 0x4000 0x2663 1000 0x10 0xe1b6 (replicate 100 97))
    ∷ packet 1 (tcp4 40000 7 0x4000 0x2663 1100 0x10 0xe152 (replicate 100 97))
    ∷ []

-- the same without it
abbrev pub unmarked : List Packet
unmarked =
    packet 0 (tcp4 40000 7 0x0000 0x6663 1000 0x10 0xe1b6 (replicate 100 97))
    ∷ packet 1 (tcp4 40000 7 0x0000 0x6663 1100 0x10 0xe152 (replicate 100 97))
    ∷ []

-- identifications 100 and 101, with "don't fragment"
abbrev pub rising : List Packet
rising =
    packet 0 (tcp4 40000 100 0x4000 0x2606 1000 0x10 0xe1b6 (replicate 100 97))
    ∷ packet 1 (tcp4 40000 101 0x4000 0x2605 1100 0x10 0xe152 (replicate 100 97))
    ∷ []

-- identifications 100 and 105
abbrev pub jumping : List Packet
jumping =
    packet 0 (tcp4 40000 100 0x4000 0x2606 1000 0x10 0xe1b6 (replicate 100 97))
    ∷ packet 1 (tcp4 40000 105 0x4000 0x2601 1100 0x10 0xe152 (replicate 100 97))
    ∷ []

-- payloads of 100, 60 and 100 bytes
abbrev pub shorter : List Packet
shorter =
    packet 0 (tcp4 40000 100 0x4000 0x2606 1000 0x10 0xe1b6 (replicate 100 97))
    ∷ packet 1 (tcp4 40000 101 0x4000 0x262d 1100 0x10 0x7d16 (replicate 60 97))
    ∷ packet 2 (tcp4 40000 102 0x4000 0x2604 1160 0x10 0xe116 (replicate 100 97))
    ∷ []

-- PSH on the first
abbrev pub pushed : List Packet
pushed =
    packet 0 (tcp4 40000 100 0x4000 0x2606 1000 0x18 0xe1ae (replicate 100 97))
    ∷ packet 1 (tcp4 40000 101 0x4000 0x2605 1100 0x10 0xe152 (replicate 100 97))
    ∷ []

-- a pure acknowledgment between them, padded to 60 bytes
abbrev pub acknowledged : List Packet
acknowledged =
    packet 0 (tcp4 40000 100 0x4000 0x2606 1000 0x10 0xe1b6 (replicate 100 97))
    ∷ packet 1 (tcp4 40000 101 0x4000 0x2669 1100 0x10 0xe6bb [] ++ replicate 6 0)
    ∷ packet 2 (tcp4 40000 102 0x4000 0x2604 1100 0x10 0xe152 (replicate 100 97))
    ∷ []

-- under VXLAN, the outer identification stays and the inner one rises
abbrev pub outer_fixed : List Packet
outer_fixed =
    packet 0 (vxlan4 500 0xb3d5 0x0000 (tcp4 40000 100 0x4000 0x2606 1000 0x10 0xe1b6 (replicate 100 97)))
    ∷ packet 1 (vxlan4 500 0xb3d5 0x0000 (tcp4 40000 101 0x4000 0x2605 1100 0x10 0xe152 (replicate 100 97)))
    ∷ []

-- the outer one rises and the inner one stays, with UDP sums
abbrev pub inner_fixed : List Packet
inner_fixed =
    packet 0 (vxlan4 500 0xb3d5 0xa49c (tcp4 40000 100 0x4000 0x2606 1000 0x10 0xe1b6 (replicate 100 97)))
    ∷ packet 1 (vxlan4 501 0xb3d4 0xa49c (tcp4 40000 100 0x4000 0x2606 1100 0x10 0xe152 (replicate 100 97)))
    ∷ []

-- under an outer IPv6 header the inner one stays
abbrev pub outer_ip6 : List Packet
outer_ip6 =
    packet 0 (vxlan6 0xcd8d (tcp4 40000 100 0x4000 0x2606 1000 0x10 0xe1b6 (replicate 100 97)))
    ∷ packet 1 (vxlan6 0xcd8d (tcp4 40000 100 0x4000 0x2606 1100 0x10 0xe152 (replicate 100 97)))
    ∷ []

-- an outer UDP sum on the second alone
abbrev pub one_sum : List Packet
one_sum =
    packet 0 (vxlan4 500 0xb3d5 0x0000 (tcp4 40000 100 0x4000 0x2606 1000 0x10 0xe1b6 (replicate 100 97)))
    ∷ packet 1 (vxlan4 501 0xb3d4 0xa49c (tcp4 40000 101 0x4000 0x2605 1100 0x10 0xe152 (replicate 100 97)))
    ∷ []

-- records of two flows, A B A B A B A B, which have queue 0 and queue 1
abbrev pub two_flows : List Packet
two_flows =
    packet 0 (tcp4 40000 100 0x4000 0x2606 1000 0x10 0xe1b6 (replicate 100 97))
    ∷ packet 1 (tcp4 40001 300 0x4000 0x253e 5000 0x10 0xd215 (replicate 100 97))
    ∷ packet 2 (tcp4 40000 101 0x4000 0x2605 1100 0x10 0xe152 (replicate 100 97))
    ∷ packet 3 (tcp4 40001 301 0x4000 0x253d 5100 0x10 0xd1b1 (replicate 100 97))
    ∷ packet 4 (tcp4 40000 102 0x4000 0x2604 1200 0x10 0xe0ee (replicate 100 97))
    ∷ packet 5 (tcp4 40001 302 0x4000 0x253c 5200 0x10 0xd14d (replicate 100 97))
    ∷ packet 6 (tcp4 40000 103 0x4000 0x2603 1300 0x10 0xe08a (replicate 100 97))
    ∷ packet 7 (tcp4 40001 303 0x4000 0x253b 5300 0x10 0xd0e9 (replicate 100 97))
    ∷ []

-- two frames of 100 bytes
abbrev pub tapped : List Packet
tapped =
    packet 0 (tcp4 40000 100 0x4000 0x263c 1000 0x10 0x2732 (replicate 46 97))
    ∷ packet 1 (tcp4 40000 101 0x4000 0x263b 1046 0x10 0x2704 (replicate 46 97))
    ∷ []

-- number k of segments of 1,448 bytes with 12 bytes of TCP options
abbrev pub segment_at : ℕ → Packet
segment_at k =
    packet k (tcp4_with (1 ∷ 1 ∷ 8 ∷ 10 ∷ 0 ∷ 0 ∷ 0 ∷ 1 ∷ 0 ∷ 0 ∷ 0 ∷ 2 ∷ []) 40000 (100 + k) 0x4000 (8374 - k)
    (1000 + 1448 * k) 0x10
    ((147700 - 1448 * k) % 65535) (replicate 1448 97))

-- n of them, from number i on
abbrev pub segments_from : ℕ → ℕ → List Packet
segments_from i n = map segment_at (range_with_len i n)

-- ---- what comes of them

abbrev pub plain : Options
plain = record {
  budget = 64;
  queues = 1;
  spread = λ key. queue_of key 1;
  taps = 0;
  snap = 64;
  segs = 4096;
  filter = None;
}

-- the runs of the one queue, by their packets' numbers
abbrev pub runs_of : List Packet → List (List ℕ)
runs_of ps = map (map (λ p. p.number)) (items_of 4096 (λ key. queue_of key 1) 0 ps)

-- one run with these modes, whose record comes back as its packets
abbrev pub MergesTo : ℕ → List Packet → Type 0
MergesTo modes ps =
    (runs_of ps ≡ map (λ p. p.number) ps ∷ [])
    × ((merged_of ps).modes ≡ modes)
    × (map content (flat_map segments_of (records_of plain ps)) ≡ map content ps)

abbrev pub IsSplit : List Packet → Type 0
IsSplit ps = runs_of ps ≡ map (λ p. p.number ∷ []) ps

-- the record of the worked run, said to have n packets
abbrev pub worked_super : ℕ → Packet
worked_super n =
    with_head (record { version = 2; kind = 1; modes = 0; lane = 0; n = n; m = 4; number = 0 })
    (merged_of worked).packet

-- the same behind a header of version 1
abbrev pub old_super : ℕ → Packet
old_super n =
    let p : Packet = (merged_of worked).packet in
    let head : OffHead = record { version = 1; kind = 1; n = n; m = 4; modes = 0; lane = 0; number = 0 } in
    record { number = 0; sec = p.sec; frac = p.frac; original = 12 + p.original; frame = off_bytes head ++ p.frame }

-- numbers of the first packets, and how many packets there are
abbrev pub starts_of : Options → List Packet → List (ℕ × ℕ)
starts_of o ps = map (λ r. (r.number, length (segments_of r))) (records_of o ps)

pub record RowsHold : Type 0 where
  pub worked_is_written : written (record { order = Little; nanos = false; zone = 0; sigfigs = 0 }) plain worked
      ≡ worked_written
  pub worked_merges : MergesTo 0 worked
  pub worked_is_lawful : is_lawful_record (worked_super 2) ≡ true
  pub third_segment_has_no_byte : is_lawful_record (worked_super 3) ≡ false
  pub wrapped_merges : MergesTo 0 wrapped
  pub fixed_merges : MergesTo 1 fixed
  pub unmarked_splits : IsSplit unmarked
  pub rising_merges : MergesTo 0 rising
  pub jumping_splits : IsSplit jumping
  pub shorter_ends : runs_of shorter ≡ (0 ∷ 1 ∷ []) ∷ (2 ∷ []) ∷ []
  pub shorter_size : (merged_of (take 2 shorter)).m ≡ 100
  pub shorter_payload : length (merged_of (take 2 shorter)).packet.frame ≡ 54 + 160
  pub pushed_splits : IsSplit pushed
  pub acknowledged_splits : IsSplit acknowledged
  pub outer_fixed_merges : MergesTo 1 outer_fixed
  pub inner_fixed_merges : MergesTo 2 inner_fixed
  pub outer_ip6_merges : MergesTo 2 outer_ip6
  pub one_sum_splits : IsSplit one_sum
  pub by_four : starts_of (record plain { budget = 4; queues = 2; spread = λ key. queue_of key 2 }) two_flows ≡ (0, 2)
      ∷ (1, 2) ∷ (4, 2) ∷ (5, 2) ∷ []
  pub by_three : starts_of (record plain { budget = 3; queues = 2; spread = λ key. queue_of key 2 }) two_flows ≡ (0, 2)
      ∷ (1, 1) ∷ (4, 1) ∷ (3, 2) ∷ (6, 1) ∷ (7, 1) ∷ []
  pub tapped_lengths : map (λ r. length r.frame) (records_of (record plain { taps = 2 }) tapped) ≡ 162 ∷ 80 ∷ 80 ∷ 52
      ∷ 52 ∷ []
  pub old_is_lawful : is_lawful_record (old_super 2) ≡ true
  pub old_comes_back : map content (segments_of (old_super 2)) ≡ map content worked
  pub cut_header : is_lawful_record (record {
    number = 0;
    sec = 1;
    frac = 0;
    original = 14;
    frame = 2
        ∷ replicate 13 0;
  }) ≡ false
  pub datagrams_merge : MergesTo 0 datagrams
  pub datagrams_size : (merged_of datagrams).m ≡ 500
  pub datagrams_lengths : (total_length (merged_of datagrams).packet.frame 14 ≡ 1228)
      × (udp_length (merged_of datagrams).packet.frame 34 ≡ 1208)
  pub unsummed_splits : IsSplit unsummed
  pub old_port_is_other : map (λ p. key_of p.frame) old_port ≡ None ∷ []
  pub gre_merges : MergesTo 0 (in_gre 0 0xb3d1 0xb3d0 [] [])
  pub keyed_merges : MergesTo 0 (in_gre 0x2000 0xb3cd 0xb3cc (0 ∷ 0 ∷ 0 ∷ 7 ∷ []) (0 ∷ 0 ∷ 0 ∷ 7 ∷ []))
  pub keys_split : IsSplit (in_gre 0x2000 0xb3cd 0xb3cc (0 ∷ 0 ∷ 0 ∷ 7 ∷ []) (0 ∷ 0 ∷ 0 ∷ 8 ∷ []))
  pub summed_gre_is_other : map (λ p. key_of p.frame) (in_gre 0x8000 0xb3cd 0xb3cc (0 ∷ 0 ∷ 0 ∷ 0 ∷ [])
      (0 ∷ 0 ∷ 0 ∷ 0 ∷ [])) ≡ None ∷ None ∷ []
  pub two_alone : starts_of (record plain { segs = 1 }) worked ≡ (0, 1) ∷ (1, 1) ∷ []
  pub fullest : IsCut IsMergeable (segments_from 0 64) (segments_from 0 45 ∷ segments_from 45 19 ∷ [])
  pub front_length : total_length (merged_of (segments_from 0 45)).packet.frame 14 ≡ 65212
  pub rest_length : total_length (merged_of (segments_from 45 19)).packet.frame 14 ≡ 27564
