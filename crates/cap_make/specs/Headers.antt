-- The headers of a generated frame. The two ends of a flow are named after its number.
use Rattle.std.specs.Prelude.{ℕ, ◌+◌, ◌/◌, ◌%◌, List, [], ◌∷◌, ◌++◌}
use Rattle.net_bytes.specs.Bytes.{bytes16}
use Rattle.cap_make.specs.declared.segment.Segment.{Segment}

abbrev pub bytes32 : ℕ → List ℕ
bytes32 n = bytes16 (n / 65536) ++ bytes16 (n % 65536)

-- destination, source and type of what follows (IEEE 802.3, section 3.2)
abbrev pub ethernet : ℕ → ℕ → List ℕ
ethernet flow kind = 2 ∷ 0 ∷ 0 ∷ 0 ∷ 1 ∷ flow ∷ 2 ∷ 0 ∷ 0 ∷ 0 ∷ 2 ∷ flow ∷ bytes16 kind

-- behind the type 0x8100: tag control information, and the type of what follows (IEEE 802.1Q, section 9.6)
abbrev pub tag : ℕ → ℕ → List ℕ
tag flow kind = bytes16 (100 + flow) ++ bytes16 kind

-- the first 12 bytes of an IPv4 header without options, DF set, 64 hops (RFC 791, section 3.1)
abbrev pub ip4_front : ℕ → ℕ → ℕ → ℕ → List ℕ
ip4_front len identification protocol sum = 0x45 ∷ 0 ∷ (bytes16 len
    ++ (bytes16 identification ++ (0x40 ∷ 0 ∷ 64 ∷ protocol ∷ bytes16 sum)))

-- its source and destination
abbrev pub ip4_ends : ℕ → List ℕ
ip4_ends flow = 10 ∷ 0 ∷ 0 ∷ flow ∷ 10 ∷ 0 ∷ 1 ∷ flow ∷ []

-- those of the IPv4 header before a tunnel
abbrev pub tunnel_ends : ℕ → List ℕ
tunnel_ends flow = 192 ∷ 0 ∷ 2 ∷ flow ∷ 192 ∷ 0 ∷ 2 ∷ 100 ∷ []

-- the first 8 bytes of an IPv6 header before TCP, 64 hops (RFC 8200, section 3)
abbrev pub ip6_front : ℕ → List ℕ
ip6_front len = 0x60 ∷ 0 ∷ 0 ∷ 0 ∷ (bytes16 len ++ (6 ∷ 64 ∷ []))

abbrev pub ip6_ends : ℕ → List ℕ
ip6_ends flow =
    0x20 ∷ 0x01 ∷ 0x0d ∷ 0xb8 ∷ 0 ∷ 0 ∷ 0 ∷ 0 ∷ 0 ∷ 0 ∷ 0 ∷ 0 ∷ 0 ∷ 0 ∷ 0 ∷ flow
    ∷ 0x20 ∷ 0x01 ∷ 0x0d ∷ 0xb8 ∷ 0 ∷ 0 ∷ 0 ∷ 0 ∷ 0 ∷ 0 ∷ 0 ∷ 0 ∷ 0 ∷ 0 ∷ 1 ∷ flow ∷ []

-- ports, sequence and acknowledgment number, data offset, control bits, window, checksum, urgent pointer (RFC 9293,
-- section 3.1)
abbrev pub tcp_header : Segment → ℕ → List ℕ
tcp_header s sum =
    bytes16 (40000 + s.flow) ++ (bytes16 5001 ++ (bytes32 s.sequence
    ++ (bytes32 1 ++ (0x50 ∷ s.flags ∷ (bytes16 1024 ++ (bytes16 sum ++ bytes16 0))))))

-- ports, length, no checksum (RFC 768)
abbrev pub udp_header : ℕ → ℕ → List ℕ
udp_header flow len = bytes16 (50000 + flow) ++ (bytes16 4789 ++ (bytes16 len ++ bytes16 0))

-- the I flag, and the network identifier of 24 bits (RFC 7348, section 5)
abbrev pub vxlan_header : ℕ → List ℕ
vxlan_header flow = 8 ∷ 0 ∷ 0 ∷ 0 ∷ 0 ∷ (bytes16 (4096 + flow) ++ (0 ∷ []))
