-- Generated packets are lawful ones of a capture of Ethernet frames.
use Rattle.std.proofs.Common.{◌≡◌, ◌+◌, ◌/◌, ◌%◌, ◌^◌, ◌==◌, ◌<◌, ◌≤◌, ◌-◌, ℕ, zero, suc, Bool, true, false, if◌then◌else◌, List, ◌++◌, length, length-append, nat_lt, refl, ap, arith}
use Rattle.std.proofs.lemmas.Bool.Decides.{nat_tests}
use Rattle.pcap_io.specs.declared.heads.Link.TheVariants.{Ethernet}
use Rattle.pcap_io.specs.Split.{IsLawful, AreLawful}
use Rattle.cap_make.specs.declared.segment.Segment.{Segment}
use Rattle.cap_make.specs.Draws.{draws, drawn, next_state, payload_len_by}
use Rattle.cap_make.specs.Headers.{ethernet, tag}
use Rattle.cap_make.specs.Frames.{counting, tcp, ip4, tcp_ip4, tcp_ip6, plain, vxlan, tunnelled, frame_of}
use Rattle.cap_make.specs.Capture.{Next, after, packet_at, packets_from, segment_by}
use Rattle.cap_make.proofs.Counting.{length-counting}

length-tcp : (ends pseudo : List ℕ) (s : Segment) (payload : List ℕ) → length (tcp ends pseudo s payload) ≡ 20 + length payload
unfolding tcp
length-tcp ends pseudo s payload = omega arith

length-ip4 : (ends : List ℕ) (identification protocol : ℕ) (content : List ℕ) → length (ip4 ends identification protocol content) ≡ 12 + length ends + length content
unfolding ip4
length-ip4 ends identification protocol content = omega (arith, length-append ends content)

length-tcp_ip4 : (s : Segment) (payload : List ℕ) → length (tcp_ip4 s payload) ≡ 40 + length payload
unfolding tcp_ip4
length-tcp_ip4 s payload = omega (arith, length-ip4, length-tcp)

length-tcp_ip6 : (s : Segment) (payload : List ℕ) → length (tcp_ip6 s payload) ≡ 60 + length payload
unfolding tcp_ip6
length-tcp_ip6 s payload = omega (arith, length-tcp)

length-plain : (s : Segment) (payload : List ℕ) → length (plain s payload) ≡ 54 + length payload
unfolding plain
length-plain s payload = omega (arith, length-tcp_ip4)

length-vxlan : (flow : ℕ) (inner : List ℕ) → length (vxlan flow inner) ≡ 16 + length inner
unfolding vxlan
length-vxlan flow inner = omega arith

length-tunnelled : (s : Segment) (inner : List ℕ) → length (tunnelled s inner) ≡ 50 + length inner
unfolding tunnelled
length-tunnelled s inner = omega (arith, length-ip4, length-vxlan)

length-frame : (s : Segment) (payload : List ℕ) → length (frame_of s payload) ≤ 104 + length payload
unfolding frame_of
length-frame s payload = by_kind (s.flow % 4 == 0) (s.flow % 4 == 1) (s.flow % 4 == 2)
  where
    by_kind : (a b c : Bool)
        → length (if a then plain s payload else
        (if b then ethernet s.flow 0x8100 ++ (tag s.flow 0x0800 ++ tcp_ip4 s payload) else
        (if c then ethernet s.flow 0x86dd ++ tcp_ip6 s payload else tunnelled s (plain s payload)))) ≤ 104 + length payload
    by_kind true b c = omega (arith, length-plain)
    by_kind false true c = omega (arith, length-tcp_ip4)
    by_kind false false true = omega (arith, length-tcp_ip6)
    by_kind false false false = omega (arith, length-plain, length-tunnelled)

payload_len_short : (event state : ℕ) → payload_len_by event state ≤ 1200
payload_len_short event state = go (event == 12) (event == 14)
  where
    go : (a b : Bool) → (if a then 1 + state / 2 ^ 33 % 1199 else (if b then 0 else 1200)) ≤ 1200
    go true b = omega arith
    go false true = omega arith
    go false false = omega arith

drawn_short : (seed : ℕ) → (draws seed).payload_len ≤ 1200
unfolding draws
drawn_short seed = payload_len_short (drawn (next_state (next_state seed)) 16) (next_state (next_state (next_state seed)))

short_frame : (next : Next) (r : ℕ) → length (packet_at next r).frame ≤ 1304
unfolding packet_at
short_frame next r =
    let d = draws next.state in
    omega (arith, length-frame (segment_by d next) (counting (d.flow + r) d.payload_len), length-counting (d.flow + r) d.payload_len, drawn_short next.state)

small_original : (n : ℕ) → n ≤ 1304 → nat_lt (2 ^ 31 - 1) n ≡ false
small_original n h = grind (arith, nat_tests)

lawful : (next : Next) (r : ℕ) → r < 2 ^ 32 → length (packet_at next r).frame ≤ 1304 → IsLawful Ethernet r (packet_at next r)
unfolding packet_at
lawful next r few short = record {
  number = refl;
  few = few;
  sec = omega arith;
  frac = omega arith;
  original = omega arith;
  captured_in_range = omega arith;
  original_in_range = small_original _ short;
  has_off_head = refl;
}

pub all_lawful : (more r : ℕ) (next : Next) → r + more < 2 ^ 32 → AreLawful Ethernet r (packets_from more r next)
unfolding packets_from
all_lawful zero r next h = tt
all_lawful (suc more) r next h = (lawful next r (omega arith) (short_frame next r), all_lawful more (r + 1) (after next) (omega arith))

pub as_many : (more r : ℕ) (next : Next) → length (packets_from more r next) ≡ more
unfolding packets_from
as_many zero r next = refl
as_many (suc more) r next = ap suc (as_many more (r + 1) (after next))
