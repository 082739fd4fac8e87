-- A generated frame around its payload.
use Rattle.std.specs.Prelude.{ℕ, ◌+◌, ◌%◌, ◌==◌, if◌then◌else◌, List, [], ◌∷◌, ◌++◌, length, map}
use Rattle.std.specs.List.{range_with_len}
use Rattle.inet_sum.specs.Sum.{checksum_of}
use Rattle.net_bytes.specs.Bytes.{bytes16}
use Rattle.cap_make.specs.declared.segment.Segment.{Segment}
use Rattle.cap_make.specs.Headers.{bytes32, ethernet, tag, ip4_front, ip4_ends, tunnel_ends, ip6_front, ip6_ends}
use Rattle.cap_make.specs.Headers.{tcp_header, udp_header, vxlan_header}

-- `len` bytes that count up from this number
unfoldable pub counting : ℕ → ℕ → List ℕ
counting first len = map (λ k. (first + k) % 256) (range_with_len 0 len)

-- A TCP segment. Its sum is taken over addresses, the rest of the pseudo header, and the segment with the sum's own
-- field as zero.
unfoldable pub tcp : List ℕ → List ℕ → Segment → List ℕ → List ℕ
tcp ends pseudo s payload = tcp_header s (checksum_of (ends ++ (pseudo ++ (tcp_header s 0 ++ payload)))) ++ payload

-- an IPv4 packet; its sum is taken over the header with the sum's own field as zero
unfoldable pub ip4 : List ℕ → ℕ → ℕ → List ℕ → List ℕ
ip4 ends identification protocol content =
    let len = 20 + length content in
    ip4_front len identification protocol (checksum_of (ip4_front len identification protocol 0 ++ ends))
    ++ (ends ++ content)

-- what of a pseudo header follows the addresses (RFC 9293, section 3.1; RFC 8200, section 8.1)
abbrev pub ip4_pseudo : ℕ → List ℕ
ip4_pseudo len = 0 ∷ 6 ∷ bytes16 len

abbrev pub ip6_pseudo : ℕ → List ℕ
ip6_pseudo len = bytes32 len ++ (0 ∷ 0 ∷ 0 ∷ 6 ∷ [])

-- TCP over IPv4, and over IPv6
unfoldable pub tcp_ip4 : Segment → List ℕ → List ℕ
tcp_ip4 s payload = ip4 (ip4_ends s.flow) s.identification 6
    (tcp (ip4_ends s.flow) (ip4_pseudo (20 + length payload)) s payload)

unfoldable pub tcp_ip6 : Segment → List ℕ → List ℕ
tcp_ip6 s payload =
    ip6_front (20 + length payload) ++ (ip6_ends s.flow
    ++ tcp (ip6_ends s.flow) (ip6_pseudo (20 + length payload)) s payload)

-- a frame with no tag and no tunnel
unfoldable pub plain : Segment → List ℕ → List ℕ
plain s payload = ethernet s.flow 0x0800 ++ tcp_ip4 s payload

-- a frame behind the headers of UDP and VXLAN
unfoldable pub vxlan : ℕ → List ℕ → List ℕ
vxlan flow inner = udp_header flow (16 + length inner) ++ (vxlan_header flow ++ inner)

-- a frame in a VXLAN tunnel, which has the identification of what it carries
unfoldable pub tunnelled : Segment → List ℕ → List ℕ
tunnelled s inner = ethernet s.flow 0x0800 ++ ip4 (tunnel_ends s.flow) s.identification 17 (vxlan s.flow inner)

-- the frame of a flow, by its kind: plain, with a tag, of IPv6, or in a tunnel
abbrev pub frame_by : ℕ → Segment → List ℕ → List ℕ
frame_by kind s payload =
    if kind == 0 then plain s payload else
    (if kind == 1 then ethernet s.flow 0x8100 ++ (tag s.flow 0x0800 ++ tcp_ip4 s payload) else
    (if kind == 2 then ethernet s.flow 0x86dd ++ tcp_ip6 s payload else
    tunnelled s (plain s payload)))

unfoldable pub frame_of : Segment → List ℕ → List ℕ
frame_of s payload = frame_by (s.flow % 4) s payload
