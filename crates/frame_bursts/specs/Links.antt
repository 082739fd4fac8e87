-- What packets begin with, and the frames that they are merged as.
use Rattle.std.specs.Prelude.{◌≡◌, ℕ, ◌+◌, ◌/◌, ◌≤◌, ◌==◌, if◌then◌else◌, List, [], ◌∷◌, ◌++◌, length, take, min}
use Rattle.net_bytes.specs.Bytes.{byte}
use Rattle.inet_sum.specs.Stands.{StandsFor}
use Rattle.offload_model.specs.declared.limits.Limits.{Limits}
use Rattle.pcap_io.specs.Capture.{Packet}
use Rattle.pcap_io.specs.Limits.{most_frame}
use Rattle.frame_runs.specs.Frames.{AreBytes, IsFrontOf}
use Rattle.frame_runs.specs.declared.lent.Lent.{Lent}
use Rattle.frame_bursts.specs.declared.link.Link.{Link}
use Rattle.frame_bursts.specs.declared.link.Link.TheVariants.{Ethernet, RawIp}
use Rattle.frame_bursts.specs.declared.raw_frame.RawFrame.{RawFrame}

-- the version of an IP packet (RFC 791, section 3.1; RFC 8200, section 3)
abbrev pub version_of : List ℕ → ℕ
version_of p = byte p 0 / 16

-- the Ethernet type of what has this version: 0800 is IPv4 (RFC 894), 86dd is IPv6 (RFC 2464), and 0 is neither
abbrev pub ether_type : ℕ → List ℕ
ether_type version = if version == 4 then 0x08 ∷ 0x00 ∷ [] else (if version == 6 then 0x86 ∷ 0xdd ∷ [] else 0 ∷ 0 ∷ [])

-- the Ethernet header for an IP packet: addresses of zeros, and the type
abbrev pub ethernet_for : List ℕ → List ℕ
ethernet_for p = 0 ∷ 0 ∷ 0 ∷ 0 ∷ 0 ∷ 0 ∷ 0 ∷ 0 ∷ 0 ∷ 0 ∷ 0 ∷ 0 ∷ ether_type (version_of p)

-- a length in the frame, of one in the packet, which hasn't the 14 bytes of Ethernet
abbrev pub in_frame : Link → ℕ → ℕ
in_frame Ethernet n = n
in_frame RawIp n = n + 14

abbrev pub frame_on : Link → List ℕ → List ℕ
frame_on Ethernet bytes = bytes
frame_on RawIp bytes = ethernet_for bytes ++ bytes

-- the frame that a packet is merged as
abbrev pub framed : Link → Lent → Packet
framed link l = record {
  number = l.number;
  sec = 0;
  frac = 0;
  original = in_frame link l.original;
  frame = frame_on link l.bytes.now;
}

-- the limits of frames, of those of packets: a frame has 14 bytes more, and no number of bytes has more than 32 bits
abbrev pub limits_on : Link → Limits → Limits
limits_on Ethernet limits = limits
limits_on RawIp limits = record { segs = limits.segs; bytes = min (limits.bytes + 14) 4294967295 }

-- how many of n packets have a frame of their own
abbrev pub raw_count : Link → ℕ → ℕ
raw_count Ethernet n = 0
raw_count RawIp n = n

-- ---- a packet whose first bytes are copied behind an Ethernet header

abbrev pub raw_packet : RawFrame → Packet
raw_packet f = record {
  number = f.number;
  sec = 0;
  frac = 0;
  original = f.original;
  frame = frame_on RawIp f.packet.bytes;
}

pub record IsHeld (f : RawFrame) : Type 0 where
  pub front : IsFrontOf (take f.head_len f.head) (raw_packet f).frame
  pub behind : StandsFor f.behind front.rest
  pub inside : f.head_len ≤ 214
  pub filled : length (take f.head_len f.head) ≡ f.head_len
  pub short : f.head_len + f.behind.len ≤ most_frame
  pub in_bytes : AreBytes (raw_packet f).frame
