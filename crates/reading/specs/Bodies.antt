-- What private calls say of one record's body: of the reader, of the blocks, and of the packet.
use Rattle.std.specs.Prelude.{ℕ, ◌≡◌, ◌+◌, ◌-◌, ◌^◌, ◌<◌, ◌≤◌, List, length, min, OnErr, OnOk, Result, Err}
use Rattle.off_io.specs.Faults.{Rose}
use Rattle.raw_block.specs.Views.{SoleState}
use Rattle.block_pool.specs.PoolState.{PoolState, weighed, home as count_home}
use Rattle.skb.specs.SkbState.{buffer_bytes, weighed_in}
use Rattle.pcap_io.specs.declared.place.Place.{Place}
use Rattle.pcap_io.specs.declared.heads.RecHead.{RecHead}
use Rattle.pcap_io.specs.Places.{ReadsOn}
use Rattle.gro.specs.declared.slot.Slot.{Slot as Held}
use Rattle.gro.specs.Packets.{PacketsState}
use Rattle.gro.specs.Slots.{count_of}
use Rattle.offload_model.specs.Laws.{InBytes}
use Rattle.offload_model.specs.Need.{data_blocks}
use Rattle.reading.specs.Data.{data_of}
use Rattle.reading.specs.Laid.{IsInFields, IsLaid, IsRead, MarkedFrom, most_original}
use Rattle.reading.specs.Reading.{HasOne, OfNew}

-- a reader is `n` bytes further in a record's body; a source that failed has counted that
pub record ReadsBody {T E : Type 0} (failure : E) (old new : Place) (n faults risen : ℕ) (result : Result T E)
    : Type 0 where
  pub place : OnOk result (ReadsOn old new n)
  pub later : faults ≤ risen
  pub failed : result ≡ Err failure → Rose faults risen

-- what was read is `len` bytes
pub record HasBytes {T E : Type 0} (len : ℕ) (bytes : List ℕ) (result : Result T E) : Type 0 where
  pub long : OnOk result (length bytes ≡ len)
  pub in_bytes : OnOk result (InBytes bytes)

-- a block that is read into
pub record IsReadInto (old new : SoleState) : Type 0 where
  pub mark : new.mark ≡ old.mark
  pub named : new.block ≡ old.block

-- and blocks
pub record AreReadInto (old new : List SoleState) : Type 0 where
  pub marks : (k : ℕ) → MarkedFrom k old → MarkedFrom k new
  pub named : (h : ℕ → ℕ) → weighed h new ≡ weighed h old
  pub size : length new ≡ length old

-- ---- before the body is read

-- the body of a record whose header was taken: bytes in front of a frame, and `len` for blocks
pub record IsBody (place : Place) (head : RecHead) (front len : ℕ) : Type 0 where
  pub whole : head.captured ≡ front + len
  pub original : head.original ≤ most_original
  pub body : place.body ≡ head.captured

-- as many blocks are home as it needs, and there are places for two spares and a packet
pub record HasRoom (need : ℕ) (pool spares : PoolState) (packets : PacketsState) : Type 0 where
  pub home : (need ≤ count_home pool) × (count_home pool ≤ pool.made)
  pub room : count_home spares + 2 ≤ spares.made
  pub place : 1 ≤ packets.room

-- ---- the packet of a record

-- blocks that were taken for it, and its header
pub record IsPacketOf (mark len : ℕ) (head : RecHead) (soles : List SoleState) (p : Held) : Type 0 where
  pub laid : IsLaid mark p
  pub count : count_of p ≡ data_blocks len
  pub named : (h : ℕ → ℕ) → weighed_in h p.skb ≡ weighed h soles
  pub read : IsRead p
  pub range : (p.number < 2 ^ 32) × (p.sec < 2 ^ 32) × (p.frac < 2 ^ 32)
  pub bytes : buffer_bytes p.skb ≡ data_of 64 len soles
  pub fields : (p.number ≡ head.number) × (p.sec ≡ head.sec) × (p.frac ≡ head.frac) × (p.original ≡ head.original)

-- a packet came behind those that there were
pub record Adds (before after : PacketsState) (P : Held → Type 0) : Type 0 where
  pub one : HasOne before after
  pub room : before.room ≤ after.room + 1
  pub is : OfNew before after P

-- the same where it was read, and what is known of it
pub record Puts {T E : Type 0} (mark len : ℕ) (head : RecHead) (before after : PacketsState) (result : Result T E)
    : Type 0 where
  pub one : OnOk result (HasOne before after)
  pub none : OnErr result (after ≡ before)
  pub room : before.room ≤ after.room + 1
  pub laid : OnOk result (OfNew before after (IsLaid mark))
  pub count : OnOk result (OfNew before after (λ p. count_of p ≡ data_blocks len))
  pub size : OnOk result (OfNew before after (λ p. length (buffer_bytes p.skb) ≡ len))
  pub read : OnOk result (OfNew before after IsRead)
  pub in_fields : OnOk result (OfNew before after IsInFields)
  pub number : OnOk result (OfNew before after (λ p. p.number ≡ head.number))
  pub original : OnOk result (OfNew before after (λ p. p.original ≡ head.original))

-- A pool gave `need` blocks, of which two are spares now, and the packet has the others. Where none came all are home.
pub record Spends {T E : Type 0} (need : ℕ) (old new spare_old spare_new : PoolState) (before after : PacketsState)
    (result : Result T E) : Type 0 where
  pub home : OnOk result (count_home new + need ≡ count_home old)
  pub spares : OnOk result (count_home spare_new ≡ count_home spare_old + 2)
  pub named : OnOk result (OfNew before after (λ p. (h : ℕ → ℕ) → weighed h new.blocks + weighed_in h p.skb
      + weighed h spare_new.blocks ≡ weighed h old.blocks + weighed h spare_old.blocks))
  pub back : OnErr result ((count_home new ≡ count_home old) × (count_home spare_new ≡ count_home spare_old))
  pub named_back : OnErr result ((h : ℕ → ℕ) → (weighed h new.blocks ≡ weighed h old.blocks)
      × (weighed h spare_new.blocks ≡ weighed h spare_old.blocks))
  pub made : (new.made ≡ old.made) × (spare_new.made ≡ spare_old.made)
  pub taken : OnOk result (new.taken ≡ min (old.taken + need) (2 ^ 64 - 1))
  pub most : new.taken ≤ old.taken + need
  pub least : old.taken ≤ new.taken
