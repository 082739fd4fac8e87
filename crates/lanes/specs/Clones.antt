-- Packets whose buffers were cloned for taps.
use Rattle.std.specs.Prelude.{ℕ, ◌≡◌, ◌+◌, ◌-◌, ◌*◌, ◌^◌, ◌≤◌, false, List, length, map, set, slice_index_or}
use Rattle.std.specs.Prelude.{MatchResult, Result}
use Rattle.std.specs.declared.alloc.AllocError.{AllocError}
use Rattle.block_weight.specs.WeightRule.{full_weight}
use Rattle.frags.specs.Account.{Keeps, KeepsBlocks, both}
use Rattle.frags.specs.declared.pieces.ShareFault.{ShareFault}
use Rattle.frags.specs.declared.pieces.ShareFault.TheVariants.{NoMemory}
use Rattle.skb.specs.SkbState.{buffer_least, is_sole, of_buffer, weighed_in}
use Rattle.gro.specs.declared.slot.Slot.{Slot as Held}
use Rattle.gro.specs.Slots.{packet_of, of_packet, count_of, counts_of, weighed_slots}
use Rattle.gro.specs.Slots.{IsHeld, AreHeld, AreShared, WeighAtLeast}
use Rattle.taps.specs.declared.clones.TapClone.{TapClone}
use Rattle.taps.specs.Clones.{packet_of as packet_of_clone}

-- no part of a whole block weighs less after k clones: each is given a 4096th at most of the whole weight
abbrev pub weight_after : ℕ → ℕ
weight_after k = full_weight - k * 2 ^ 50

-- the same packet after k clones in all
pub record IsAfter (k : ℕ) (p q : Held) : Type 0 where
  pub same : packet_of q ≡ packet_of p
  pub count : count_of q ≡ count_of p
  pub named : (h : ℕ → ℕ) → weighed_in h q.skb ≡ weighed_in h p.skb
  pub held : IsHeld p → IsHeld q
  pub shared : is_sole q.skb.head ≡ false
  pub weighs : weight_after k ≤ buffer_least q.skb

-- a clone of a packet: it took of the packet's parts what it holds
pub record IsCloneOf (p q : Held) (c : TapClone) : Type 0 where
  pub same : packet_of_clone c ≡ packet_of p
  pub few : length c.skb.rest + 1 ≤ count_of p
  pub kept : Keeps (of_packet p) (both (of_packet q) (of_buffer c.skb))
  pub blocks : KeepsBlocks (of_packet p) (both (of_packet q) (of_buffer c.skb))

-- packet i, of which `before` clones were taken at most, is cloned where it lies, and no other
pub record ClonedOne (before i : ℕ) (ps qs : List Held) (result : Result TapClone AllocError) : Type 0 where
  pub was : Held
  pub is : Held
  pub here : was ≡ slice_index_or ps i was
  pub others : qs ≡ set ps i is
  pub after : IsAfter (before + 1) was is
  pub kept : MatchResult result (IsCloneOf was is)
      (λ _. Keeps (of_packet was) (of_packet is) × KeepsBlocks (of_packet was) (of_packet is))

-- want of memory, and nothing else
abbrev pub IsNoMemory : ShareFault → Type 0
IsNoMemory NoMemory = Unit {0}
IsNoMemory _ = ⊥

-- the same packets after k clones of each
pub record AreAfter (k : ℕ) (ps qs : List Held) : Type 0 where
  pub same : map packet_of qs ≡ map packet_of ps
  pub counts : counts_of qs ≡ counts_of ps
  pub named : (h : ℕ → ℕ) → weighed_slots h qs ≡ weighed_slots h ps
  pub held : AreHeld qs
  pub shared : AreShared qs
  pub weigh : WeighAtLeast (weight_after k) qs

-- the same packets, whether clones were taken of them or not
pub record AreSame (ps qs : List Held) : Type 0 where
  pub same : map packet_of qs ≡ map packet_of ps
  pub counts : counts_of qs ≡ counts_of ps
  pub named : (h : ℕ → ℕ) → weighed_slots h qs ≡ weighed_slots h ps
  pub held : AreHeld qs
