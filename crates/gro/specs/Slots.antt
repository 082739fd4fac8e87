-- Packets in a list, where they stay, and what they hold.
use Rattle.std.specs.Prelude.{ℕ, ◌≡◌, ◌+◌, ◌≤◌, List, [], ◌∷◌, length, false}
use Rattle.std.specs.List.{AllByRecursion}
use Rattle.pcap_io.specs.Limits.{most_frame}
use Rattle.pcap_io.specs.Capture.{Packet}
use Rattle.frags.specs.Account.{Account, both}
use Rattle.frags.specs.declared.holder.Holder.{Holder}
use Rattle.skb.specs.SkbState.{buffer_bytes, buffer_size, buffer_least, is_sole, of_buffer, weighed_in, IsAlone}
use Rattle.skb.specs.SkbState.{IsLent}
use Rattle.skb.specs.Fronts.{IsFronted}
use Rattle.gro.specs.declared.slot.Slot.{Slot}

-- a packet, without where its bytes lie
abbrev pub packet_of : Slot → Packet
packet_of s = record {
  number = s.number;
  sec = s.sec;
  frac = s.frac;
  original = s.original;
  frame = buffer_bytes
      s.skb;
}

-- what is known of a packet in a slot
pub record IsHeld (s : Slot) : Type 0 where
  pub size : buffer_size s.skb ≡ length (buffer_bytes s.skb)
  pub front : IsFronted s.skb
  pub short : length (buffer_bytes s.skb) ≤ most_frame

abbrev pub AreHeld : List Slot → Type 0
AreHeld slots = AllByRecursion IsHeld slots

-- the blocks and parts that packets hold
abbrev pub count_of : Slot → ℕ
count_of s = length s.skb.rest + 1

abbrev pub counts_of : List Slot → ℕ
counts_of [] = 0
counts_of (s ∷ ss) = count_of s + counts_of ss

-- what the blocks of packets weigh together, each by its name
abbrev pub weighed_slots : (ℕ → ℕ) → List Slot → ℕ
weighed_slots h [] = 0
weighed_slots h (s ∷ ss) = weighed_in h s.skb + weighed_slots h ss

abbrev pub of_nothing : Account
of_nothing = record { held = λ t m. 0; homes = λ bs m. 0 }

abbrev pub of_packet : Slot → Account
of_packet s = of_buffer s.skb

abbrev pub of_packets : List Slot → Account
of_packets [] = of_nothing
of_packets (s ∷ ss) = both (of_packet s) (of_packets ss)

-- nobody else holds a block of theirs
abbrev pub AreAlone : List Slot → Type 0
AreAlone slots = AllByRecursion (λ (s : Slot). IsAlone s.skb) slots

-- each head is a part beside others
abbrev pub AreShared : List Slot → Type 0
AreShared slots = AllByRecursion (λ (s : Slot). is_sole s.skb.head ≡ false) slots

-- no part of the packets weighs less than w
abbrev pub WeighAtLeast : ℕ → List Slot → Type 0
WeighAtLeast w slots = AllByRecursion (λ (s : Slot). w ≤ buffer_least s.skb) slots

abbrev pub with_head : Slot → Holder → Slot
with_head s h = record s { skb = record s.skb { head = h } }

-- the same packets, but that a head that was a Sole is a part of all its block's weight, whose life begins there
abbrev pub AreLent : List Slot → List Slot → Type 0
AreLent [] qs = qs ≡ []
AreLent (s ∷ ss) qs = (h : Holder) × ((rs : List Slot)
    × (IsLent s.skb.head h × (qs ≡ with_head s h ∷ rs) × AreLent ss rs))
