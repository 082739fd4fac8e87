-- What is lent, as a packet: a window, or a packet that a tap reads.
use Rattle.pcap_io.specs.Capture.{Packet}
use Rattle.skb.specs.SkbState.{buffer_bytes}
use Rattle.taps.specs.declared.packet.TapPacket.{TapPacket}
use Rattle.taps.specs.declared.texts.TapText.{TapText}

abbrev pub shown_text : TapText → Packet
shown_text t = record { number = t.number; sec = t.sec; frac = t.frac; original = t.original; frame = t.bytes.now }

abbrev pub lent_packet : TapPacket → Packet
lent_packet p = record {
  number = p.number;
  sec = p.sec;
  frac = p.frac;
  original = p.original;
  frame = buffer_bytes p.skb.now;
}
