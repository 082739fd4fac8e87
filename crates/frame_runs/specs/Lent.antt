-- Frames that somebody lends.
use Rattle.std.specs.Prelude.{◌≤◌, length}
use Rattle.pcap_io.specs.Capture.{Packet}
use Rattle.pcap_io.specs.Limits.{most_frame}
use Rattle.frame_runs.specs.declared.lent.Lent.{Lent}

-- the packet, which has no time
abbrev pub packet_of : Lent → Packet
packet_of l = record { number = l.number; sec = 0; frac = 0; original = l.original; frame = l.bytes.now }

abbrev pub IsShort : Lent → Type 0
IsShort l = length l.bytes.now ≤ most_frame
