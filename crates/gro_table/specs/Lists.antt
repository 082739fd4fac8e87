-- Packets in a list, with their spares in a list beside.
use Rattle.std.specs.Prelude.{ℕ, ◌≡◌, ◌+◌, ◌≤◌, List, [], ◌∷◌, length, vec_len, vec_capacity}
use Rattle.gro.specs.declared.slot.Slot.{Slot}
use Rattle.gro_table.specs.declared.packet.Packet.{Packet as Held}
use Rattle.gro_table.specs.declared.packet_list.Spares.{Spares}
use Rattle.gro_table.specs.declared.packet_list.PacketList.{PacketList}

-- a packet with its spares
abbrev pub with_spares : Slot → Spares → Held
with_spares s t = record {
  skb = s.skb;
  spare1 = t.first;
  spare2 = t.second;
  sec = s.sec;
  frac = s.frac;
  original = s.original;
  number = s.number;
}

abbrev pub whole : List Slot → List Spares → List Held
whole [] ts = []
whole (s ∷ ss) [] = []
whole (s ∷ ss) (t ∷ ts) = with_spares s t ∷ whole ss ts

-- the slot and the spares of a packet
abbrev pub slot_of : Held → Slot
slot_of p = record { skb = p.skb; sec = p.sec; frac = p.frac; original = p.original; number = p.number }

abbrev pub spares_of : Held → Spares
spares_of p = record { first = p.spare1; second = p.spare2 }

-- the packets of a list
abbrev pub held_of : PacketList → List Held
held_of l = whole l.slots.items l.spares.items

-- each slot has its spares
abbrev pub ArePaired : PacketList → Type 0
ArePaired l = length l.slots.items ≡ length l.spares.items

-- so many more packets have room
abbrev pub HasSlots : PacketList → ℕ → Type 0
HasSlots l n = (vec_len l.slots + n ≤ vec_capacity l.slots) × (vec_len l.spares + n ≤ vec_capacity l.spares)
