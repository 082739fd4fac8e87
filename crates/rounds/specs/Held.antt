-- How many blocks a buffer has, and how long a packet may be.
use Rattle.std.specs.Prelude.{ℕ, ◌+◌, ◌^◌, ◌<◌, ◌≤◌, length}
use Rattle.pcap_io.specs.Capture.{Packet}
use Rattle.pcap_io.specs.Limits.{most_frame}
use Rattle.skb.specs.SkbState.{SkbState}

-- the blocks of a buffer
abbrev pub blocks_in : SkbState → ℕ
blocks_in b = length b.rest + 1

-- its lengths are such as a frame of a capture may have
abbrev pub Fits : Packet → Type 0
Fits p = (length p.frame ≤ most_frame) × (p.original < 2 ^ 31)
