-- The clones of a tap task: the packets that they are, and what they hold.
use Rattle.std.specs.Prelude.{ℕ, ◌+◌, List, [], ◌∷◌, length, Option}
use Rattle.tap_filter.specs.declared.instr.Instr.{Instr}
use Rattle.offload_model.specs.Written.{shown_of}
use Rattle.pcap_io.specs.Capture.{Packet}
use Rattle.frags.specs.Account.{Account, both}
use Rattle.skb.specs.SkbState.{buffer_bytes, of_buffer}
use Rattle.taps.specs.declared.clones.TapClone.{TapClone}

-- the packet of which this is a clone
abbrev pub packet_of : TapClone → Packet
packet_of c = record {
  number = c.number;
  sec = c.sec;
  frac = c.frac;
  original = c.original;
  frame = buffer_bytes
      c.skb;
}

-- and as a filter shows it to taps
abbrev pub shown_packet : Option (List Instr) → TapClone → Packet
shown_packet filter c = shown_of filter (packet_of c)

-- the heads and pieces of all clones
abbrev pub blocks_of : List TapClone → ℕ
blocks_of [] = 0
blocks_of (c ∷ cs) = (length c.skb.rest + 1) + blocks_of cs

-- what all clones hold
abbrev pub of_clones : List TapClone → Account
of_clones [] = record { held = λ t m. 0; homes = λ bs m. 0 }
of_clones (c ∷ cs) = both (of_buffer c.skb) (of_clones cs)
