-- Packets in buffers, and what they hold.
use Rattle.std.specs.Prelude.{ℕ, ◌≡◌, ◌+◌, ◌≤◌, List, [], ◌∷◌, length, false}
use Rattle.std.specs.List.{AllByRecursion}
use Rattle.pcap_io.specs.Limits.{most_frame}
use Rattle.pcap_io.specs.Capture.{Packet}
use Rattle.frags.specs.Account.{Account, both, of_sole}
use Rattle.frags.specs.declared.holder.Holder.{Holder}
use Rattle.skb.specs.SkbState.{buffer_bytes, buffer_size, buffer_least, is_sole, of_buffer}
use Rattle.skb.specs.Moving.{HandedOn}
use Rattle.skb.specs.Fronts.{IsFronted}
use Rattle.gro.specs.Slots.{of_nothing}
use Rattle.gro_table.specs.declared.packet.Packet.{Packet as Held}

-- a packet, without where its bytes lie
abbrev pub packet_of : Held → Packet
packet_of p = record {
  number = p.number;
  sec = p.sec;
  frac = p.frac;
  original = p.original;
  frame = buffer_bytes
      p.skb;
}

-- what is known of a packet that was received
pub record IsHeld (p : Held) : Type 0 where
  pub size : buffer_size p.skb ≡ length (buffer_bytes p.skb)
  pub front : IsFronted p.skb
  pub short : length (buffer_bytes p.skb) ≤ most_frame

abbrev pub AreHeld : List Held → Type 0
AreHeld ps = AllByRecursion IsHeld ps

-- the blocks and parts that packets hold: of the buffers, and two spares each
abbrev pub count_of : Held → ℕ
count_of p = length p.skb.rest + 3

abbrev pub counts_of : List Held → ℕ
counts_of [] = 0
counts_of (p ∷ ps) = count_of p + counts_of ps

abbrev pub of_packet : Held → Account
of_packet p = both (of_buffer p.skb) (both (of_sole p.spare1) (of_sole p.spare2))

abbrev pub of_packets : List Held → Account
of_packets [] = of_nothing
of_packets (p ∷ ps) = both (of_packet p) (of_packets ps)

abbrev pub with_head : Held → Holder → Held
with_head p h = record p { skb = record p.skb { head = h } }

-- the same packets, but that some heads that were Soles are parts: a life begins at each of these
abbrev pub AreLentFrom : List Held → List Held → Type 0
AreLentFrom [] qs = qs ≡ []
AreLentFrom (p ∷ ps) qs = (h : Holder) × ((rs : List Held)
    × (HandedOn p.skb.head h × (qs ≡ with_head p h ∷ rs) × AreLentFrom ps rs))

-- each head is a part beside others
abbrev pub AreShared : List Held → Type 0
AreShared ps = AllByRecursion (λ (p : Held). is_sole p.skb.head ≡ false) ps

-- no part of the packets weighs less than w
abbrev pub WeighAtLeast : ℕ → List Held → Type 0
WeighAtLeast w ps = AllByRecursion (λ (p : Held). w ≤ buffer_least p.skb) ps
