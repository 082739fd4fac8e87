-- What the side that reads hands on: a round by its lists, who holds its blocks, and how many were taken and brought.
use Rattle.std.specs.Prelude.{ℕ, ◌≡◌, ◌≢◌, ◌+◌, ◌-◌, ◌*◌, ◌^◌, ◌<◌, ◌≤◌, List, [], length, map, min, Option, None, Some}
use Rattle.std.specs.List.{AllByRecursion}
use Rattle.block_pool.specs.PoolState.{PoolState, weighed}
use Rattle.offload_model.specs.Captured.{IsCaptured}
use Rattle.offload_model.specs.Need.{need_of, round_need}
use Rattle.pcap_io.specs.declared.heads.RecHead.{RecHead}
use Rattle.pcap_io.specs.declared.place.Place.{Place}
use Rattle.gro.specs.declared.slot.Slot.{Slot as Held}
use Rattle.gro.specs.Slots.{packet_of, counts_of, weighed_slots}
use Rattle.reading.specs.Laid.{AreRead, LaidFrom}
use Rattle.rounds.specs.Reading.{EndsAt, IfEnded}
use Rattle.rounds.specs.RoundsState.{ReadingState}
use Rattle.rounds.specs.declared.round_stages.Halt.{Halt}
use Rattle.rounds.specs.declared.round_stages.Halt.TheVariants as halts
use Rattle.rounds.specs.declared.round_stages.RoundEnd.TheVariants as ends

-- Packets of records as they were read, whose blocks and so many spares are the round's: two spares for each.
pub record IsRoundOf (packets : List Held) (spares blocks : ℕ) : Type 0 where
  pub laid : LaidFrom 0 packets
  pub count : counts_of packets + spares ≡ blocks
  pub pairs : spares ≡ 2 * length packets
  pub read : AreRead packets
  pub captured : AllByRecursion IsCaptured (map packet_of packets)
  pub need : blocks ≡ round_need (map packet_of packets)

-- between two records no block is held for one, and there is room for those of the longest
pub record IsHold {A : Type 0} (items : List A) (capacity : ℕ) : Type 0 where
  pub empty : items ≡ []
  pub room : 131 ≤ capacity

-- The counts of takes, before and after, of a pool of so many blocks: those of a round were taken, or of it those that
-- it has more, and maybe others that went back. The count stays at 2^64 - 1.
pub record TakesBlocks (made from to before after : ℕ) : Type 0 where
  pub within : after ≤ made
  pub taken : min (from + (after - before)) (2 ^ 64 - 1) ≤ to
  pub least : (before ≤ after) × (from ≤ to)
  pub most : to + before ≤ from + made

-- A round of so many blocks was read on, and why no more of it is: it has as many packets as it may, or fewer, and the
-- count of takes rose by its blocks. It lacks blocks only behind the header of a record that needs more than are home,
-- and with which it doesn't exceed those that were made.
pub record Grows (made budget : ℕ) (from to home before : ℕ) (packets : List Held) (after : ℕ) (head : Option RecHead)
    (place : Place) (halt : Halt) : Type 0 where
  pub size : length packets ≤ budget
  pub fewer : halt ≢ halts.Ended ends.Full → length packets < budget
  pub takes : TakesBlocks made from to before after
  pub stands : IfEnded halt (λ end. EndsAt end place)
  pub lacks : halt ≡ halts.Lacking → (h : RecHead) × (head ≡ Some h) × (home < need_of h.captured)
      × (after + need_of h.captured ≤ made) × (to ≡ min (from + (after - before)) (2 ^ 64 - 1))

-- of a round that was begun, with room for so many packets
pub record IsBegun (budget : ℕ) (round : ReadingState) : Type 0 where
  pub none : round.round.packets ≡ []
  pub bare : length round.round.spares ≡ 0
  pub empty : round.round.blocks ≡ 0
  pub unkept : round.head ≡ None
  pub room : budget ≤ round.size

-- of who brings blocks home: what those weigh that came, and how often it found none to bring
pub record Brought : Type 0 where
  pub weights : (ℕ → ℕ) → ℕ
  pub refusals : ℕ

abbrev pub brought_by : {H : Type 0} → (H → (ℕ → ℕ) → ℕ) → (H → ℕ) → H → Brought
brought_by weights refusals h = record { weights = weights h; refusals = refusals h }

-- the blocks that are home and a round's came to more by those that were brought, as they are counted and as they weigh
pub record Came (from to : Brought) (old new : ℕ) (weighs weighs_now : (ℕ → ℕ) → ℕ) : Type 0 where
  pub sum : new + from.weights (λ _. 1) ≡ old + to.weights (λ _. 1)
  pub named : (h : ℕ → ℕ) → weighs_now h + from.weights h ≡ weighs h + to.weights h
  pub asked : from.refusals ≤ to.refusals

-- what the blocks that are home and a round's weigh
abbrev pub at_hand : PoolState → List Held → PoolState → (ℕ → ℕ) → ℕ
at_hand pool packets spares h = weighed h pool.blocks + weighed_slots h packets + weighed h spares.blocks
