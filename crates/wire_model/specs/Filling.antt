-- Sums that a host leaves to its card. Where a card fills sums in, the host puts the sum of the pseudo header alone
-- into the field of TCP or UDP, as a partial sum, and a capture on the host shows that.
use Rattle.std.specs.Prelude.{ℕ, ◌+◌, ◌-◌, Bool, false, ◌&&◌, ◌||◌, ◌==◌, if◌then◌else◌, Option, None, Some}
use Rattle.std.specs.Prelude.{List, [], ◌∷◌, length}
use Rattle.inet_sum.specs.Sum.{fold_of}
use Rattle.tcp_headers.specs.Tcp.{checksum as tcp_checksum}
use Rattle.tcp_headers.specs.Udp.{checksum as udp_checksum}
use Rattle.frame_layout.specs.Shape.{Layout, shape_of}
use Rattle.frame_layout.specs.Headers.{all_headers}
use Rattle.frame_layout.specs.Candidate.{pseudo, is_length_right, is_sum_right}
use Rattle.frame_layout.specs.declared.layout.Header.{Header}
use Rattle.frame_layout.specs.declared.layout.Layer.{Layer}
use Rattle.frame_layout.specs.declared.layout.Layer.TheVariants.{Ethernet, Udp, Tcp}
use Rattle.pcap_io.specs.Capture.{Packet, packet}
use Rattle.offload_model.specs.Edits.{put_sum}
use Rattle.wire_model.specs.declared.fate.Fate.{Fate}
use Rattle.wire_model.specs.declared.fate.Fate.TheVariants.{Right, Filled, Wrong}

-- ---- one header's sum; `ip` is the header before it

-- the field holds the sum of the pseudo header alone (RFC 9293, section 3.1; RFC 768)
abbrev pub is_partial : List ℕ → Header → Layer → ℕ → Bool
is_partial f ip Tcp at = tcp_checksum f at == fold_of (pseudo f ip 6 (length f - at))
is_partial f ip Udp at = udp_checksum f at == fold_of (pseudo f ip 17 (length f - at))
is_partial f ip _ at = false

-- a sum is due that is partial, or each one, where all are wanted
abbrev pub is_due : Bool → List ℕ → Header → Layer → ℕ → Bool
is_due all f ip layer at = all || is_partial f ip layer at

-- a sum that is due gets its right value; a datagram without one stays without
abbrev pub fill_sum : Bool → Header → Layer → ℕ → List ℕ → List ℕ
fill_sum all ip layer at f = if is_due all f ip layer at then put_sum ip layer at f else f

-- what becomes of a sum: it is right as it is, it is filled, or it stays wrong
abbrev pub fate_of : Bool → List ℕ → Header → Layer → ℕ → Fate
fate_of all f ip layer at = if is_sum_right f ip layer at then Right
    else (if is_due all f ip layer at then Filled else Wrong)

-- ---- all of a frame's, from the innermost header outward, since an outer sum covers the inner ones

abbrev pub fill_sums : Bool → Header → List Header → List ℕ → List ℕ
fill_sums all ip [] f = f
fill_sums all ip (h ∷ hs) f = fill_sum all ip h.layer h.at (fill_sums all h hs f)

abbrev pub fates_of : Bool → Header → List Header → List ℕ → List Fate
fates_of all ip [] f = []
fates_of all ip (h ∷ hs) f = fate_of all (fill_sums all h hs f) ip h.layer h.at ∷ fates_of all h hs f

-- how many of them are filled, and how many stay wrong
abbrev pub filled_at : Fate → ℕ
filled_at Filled = 1
filled_at _ = 0

abbrev pub wrong_at : Fate → ℕ
wrong_at Wrong = 1
wrong_at _ = 0

abbrev pub filled_in : List Fate → ℕ
filled_in [] = 0
filled_in (x ∷ xs) = filled_at x + filled_in xs

abbrev pub wrong_in : List Fate → ℕ
wrong_in [] = 0
wrong_in (x ∷ xs) = wrong_at x + wrong_in xs

-- the first header has none before it that a sum is taken over
abbrev pub no_header : Header
no_header = record { layer = Ethernet; at = 0 }

-- ---- a packet

-- it was captured whole, and each length of its headers counts to its end
abbrev pub is_whole : Layout → Packet → Bool
is_whole layout p = p.original == length p.frame
    && all_headers (is_length_right (length p.frame) p.frame) layout.headers

abbrev pub with_bytes : Packet → List ℕ → Packet
with_bytes p f = packet p.number p.sec p.frac p.original f

abbrev pub filled_as : Bool → Option Layout → Packet → Packet
filled_as all None p = p
filled_as all (Some layout) p =
    if is_whole layout p then with_bytes p (fill_sums all no_header layout.headers p.frame) else p

-- A packet with its sums filled in, or as it is, where it wasn't captured whole, has no shape, or a length is wrong.
-- Each shape ends in TCP or UDP.
abbrev pub filled_of : Bool → Packet → Packet
filled_of all p = filled_as all (shape_of p.frame) p

-- what becomes of its sums
abbrev pub packet_fates_as : Bool → Option Layout → Packet → List Fate
packet_fates_as all None p = []
packet_fates_as all (Some layout) p =
    if is_whole layout p then fates_of all no_header layout.headers p.frame else []

abbrev pub packet_fates : Bool → Packet → List Fate
packet_fates all p = packet_fates_as all (shape_of p.frame) p
