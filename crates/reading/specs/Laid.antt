-- Packets as they were read into blocks that were marked in turn.
use Rattle.std.specs.Prelude.{ℕ, ◌≡◌, ◌+◌, ◌-◌, ◌^◌, ◌<◌, ◌≤◌, List, [], ◌∷◌, length, min}
use Rattle.std.specs.List.{AllByRecursion}
use Rattle.block_weight.specs.WeightRule.{full_weight}
use Rattle.raw_block.specs.Views.{SoleState}
use Rattle.frags.specs.declared.pieces.Piece.{Piece}
use Rattle.frags.specs.declared.holder.Holder.TheVariants.{Sole}
use Rattle.skb.specs.SkbState.{buffer_bytes, buffer_size, head_size}
use Rattle.offload_model.specs.Laws.{InBytes}
use Rattle.gro.specs.declared.slot.Slot.{Slot}
use Rattle.gro.specs.Slots.{count_of}
use Rattle.pcap_io.specs.Limits.{most_record, off_head_size, off_head2_size}

-- Soles marked in turn
abbrev pub MarkedFrom : ℕ → List SoleState → Type 0
MarkedFrom k [] = Unit {0}
MarkedFrom k (s ∷ ss) = (s.mark ≡ k) × MarkedFrom (k + 1) ss

-- pieces of whole blocks marked in turn
abbrev pub WholeFrom : ℕ → List Piece → Type 0
WholeFrom k [] = Unit {0}
WholeFrom k (p ∷ ps) = (p.part.weight ≡ full_weight) × (p.part.mark ≡ k) × WholeFrom (k + 1) ps

-- a packet whose blocks are marked in turn from k on, and held by nobody else
pub record IsLaid (k : ℕ) (p : Slot) : Type 0 where
  pub head : (s : SoleState) × (p.skb.head ≡ Sole s) × (s.mark ≡ k)
  pub rest : WholeFrom (k + 1) p.skb.rest

-- the same of all blocks of packets
abbrev pub LaidFrom : ℕ → List Slot → Type 0
LaidFrom k [] = Unit {0}
LaidFrom k (p ∷ ps) = IsLaid k p × LaidFrom (k + count_of p) ps

-- what is read of a record into blocks: a frame, or what stands behind the bytes that every offload header has
abbrev pub most_read : ℕ
most_read = most_record - off_head_size

-- what one block holds of it, behind 64 bytes of headroom
abbrev pub most_short : ℕ
most_short = 2048 - 64

-- the original length of a record, with an offload header or without
abbrev pub most_original : ℕ
most_original = 2 ^ 31 - 1 + off_head2_size

-- a packet that was read: its first block is full or has all of it, behind headroom, and its header was lawful
pub record IsRead (p : Slot) : Type 0 where
  pub size : buffer_size p.skb ≡ length (buffer_bytes p.skb)
  pub front : min (buffer_size p.skb) (2048 - 64) ≤ head_size p.skb
  pub short : length (buffer_bytes p.skb) ≤ most_read
  pub headroom : p.skb.from ≡ 64
  pub original : p.original ≤ most_original

-- and what was read is held in fields of 32 bits and in bytes
pub record IsInFields (p : Slot) : Type 0 where
  pub number : p.number < 2 ^ 32
  pub sec : p.sec < 2 ^ 32
  pub frac : p.frac < 2 ^ 32
  pub in_bytes : InBytes (buffer_bytes p.skb)

abbrev pub AreRead : List Slot → Type 0
AreRead ps = AllByRecursion IsRead ps
