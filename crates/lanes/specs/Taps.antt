-- The lanes of taps before their work, and what they are shown.
use Rattle.std.specs.Prelude.{ℕ, ◌≡◌, None, List, Option, map}
use Rattle.tap_filter.specs.declared.instr.Instr.{Instr}
use Rattle.pcap_io.specs.Capture.{Packet}
use Rattle.offload_model.specs.Written.{shown_of}
use Rattle.gro.specs.declared.slot.Slot.{Slot as Held}
use Rattle.gro.specs.Slots.{packet_of}
use Rattle.taps.specs.Clones.{packet_of as packet_of_clone}
use Rattle.lanes.specs.declared.lane.TapLane.{TapLane}

-- tap t has a clone of each of these packets
pub record HasClones (ps : List Packet) (t : ℕ) (l : TapLane) : Type 0 where
  pub tap : l.tap ≡ t
  pub clones : map packet_of_clone l.clones.items ≡ ps
  pub unread : l.texts ≡ None

-- a packet as a filter shows it to taps
abbrev pub shown_slot : Option (List Instr) → Held → Packet
shown_slot filter p = shown_of filter (packet_of p)
