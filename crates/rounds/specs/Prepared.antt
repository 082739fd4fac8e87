-- A round before and after the work of its lanes, with the clones that are kept beside it.
use Rattle.std.specs.Prelude.{ℕ, ◌≡◌, ◌+◌, ◌-◌, ◌≤◌, Bool, true, false, Result, Ok, List, [], map}
use Rattle.std.specs.List.{AllByRecursion}
use Rattle.pcap_io.specs.Capture.{Packet}
use Rattle.block_pool.specs.PoolState.{home}
use Rattle.frags.specs.Account.{both}
use Rattle.gro.specs.declared.slot.Slot.{Slot as Held}
use Rattle.gro.specs.Slots.{packet_of, of_packets, counts_of, weighed_slots}
use Rattle.gro.specs.Slots.{AreAlone, AreHeld, AreShared, WeighAtLeast}
use Rattle.taps.specs.declared.clones.TapClone.{TapClone}
use Rattle.taps.specs.Clones.{packet_of as packet_of_clone, blocks_of, of_clones}
use Rattle.lanes.specs.declared.lane.Lanes.{Lanes}
use Rattle.lanes.specs.Clones.{weight_after}
use Rattle.lanes.specs.Packets.{RiseFrom}
use Rattle.rounds.specs.Held.{Fits}
use Rattle.rounds.specs.Lanes.{IsSmallWork}
use Rattle.rounds.specs.Marks.{by_marks, IsNamed, IsRound}
use Rattle.rounds.specs.Out.{IsOut}
use Rattle.rounds.specs.RoundsState.{WorkedState}
use Rattle.rounds.specs.declared.lane_work.Prepared.{Prepared}

-- Heads were shared, and clones may have been taken: what is held of the first n marks is a round, and the blocks of
-- these marks are those of the packets.
pub record IsSharedRound (n : ℕ) (qs : List Held) (clones : List TapClone) : Type 0 where
  pub heads : AreShared qs
  pub round : IsRound n (both (of_packets qs) (of_clones clones))
  pub names : ℕ → ℕ
  pub named : IsNamed names (both (of_packets qs) (of_clones clones))
  pub weights : (h : ℕ → ℕ) → by_marks (λ m. h (names m)) 0 n ≡ weighed_slots h qs
  pub counts : counts_of qs + blocks_of clones ≤ n + n

-- nobody else holds a block, and there is no clone
pub record IsAloneRound (n : ℕ) (qs : List Held) (clones : List TapClone) : Type 0 where
  pub packets : AreAlone qs
  pub count : counts_of qs ≡ n
  pub none : clones ≡ []

abbrev pub IsOneRound : Bool → ℕ → List Held → List TapClone → Type 0
IsOneRound true n qs clones = IsSharedRound n qs clones
IsOneRound false n qs clones = IsAloneRound n qs clones

-- packets as they were read, ps, before the work of their lanes, with the clones that were made of them
pub record ArePrepared (shared : Bool) (ps qs : List Held) (clones : List TapClone) : Type 0 where
  pub same : map packet_of qs ≡ map packet_of ps
  pub held : AreHeld qs
  pub weighs : WeighAtLeast (weight_after 1) qs
  pub count : counts_of qs ≡ counts_of ps
  pub named : (h : ℕ → ℕ) → weighed_slots h qs ≡ weighed_slots h ps
  pub round : IsOneRound shared (counts_of ps) qs clones

-- these packets may be worked in lanes, and where clones are kept there is one of each
pub record IsPrepared (keep : Bool) (taps : ℕ) (ps : List Packet) (n : ℕ) (k : Prepared) : Type 0 where
  pub same : map packet_of k.packets.items ≡ ps
  pub size : k.blocks ≡ n
  pub held : AreHeld k.packets.items
  pub shown : k.shared ≡ true → AreShared k.packets.items
  pub weighs : WeighAtLeast (weight_after 1) k.packets.items
  pub rising : RiseFrom 0 (map packet_of k.packets.items)
  pub fit : AllByRecursion Fits (map packet_of k.packets.items)
  pub few : counts_of k.packets.items ≤ 65536
  pub spares : home k.spares ≤ k.blocks
  pub sole : keep ≡ false → taps ≡ 0 → k.shared ≡ false
  pub round : IsOneRound k.shared (k.blocks - home k.spares) k.packets.items k.clones.items
  pub clones : keep ≡ true → map packet_of_clone k.clones.items ≡ ps

-- what is out with the lanes and what isn't in them
abbrev pub IsOutBeside : Prepared → Lanes → Type 0
IsOutBeside k l = (home k.spares ≤ k.blocks)
    × IsOut k.shared (k.blocks - home k.spares) k.packets.items l k.clones.items

-- the lanes have done all of the work
pub record IsWorkDone (k : Prepared) (l : Lanes) : Type 0 where
  pub all : k.packets.items ≡ []
  pub out : IsOutBeside k l
  pub small : IsSmallWork l

-- they haven't: what isn't in the packets any more is in the lanes
abbrev pub IsWorkLeft : Prepared → Lanes → Type 0
IsWorkLeft k l = IsOutBeside k l

-- the lanes of a round are those that did all of the work
abbrev pub IsOfLanes : {E : Type 0} → Result (Unit {0}) E → Lanes → List TapClone → ℕ → WorkedState → Type 0
IsOfLanes done lanes clones n w = (done ≡ Ok tt) × (w.lanes ≡ lanes) × (w.clones ≡ clones) × (w.blocks ≡ n)
