-- What is out with a round, but its spares: the blocks that its packets were read into.
use Rattle.std.specs.Prelude.{ℕ, ◌≡◌, ◌+◌, ◌≤◌, All, Bool, true, false, List, []}
use Rattle.frags.specs.Account.{both}
use Rattle.gro.specs.declared.slot.Slot.{Slot}
use Rattle.gro.specs.Slots.{of_packets, counts_of, weighed_slots, AreAlone}
use Rattle.taps.specs.declared.clones.TapClone.{TapClone}
use Rattle.lanes.specs.declared.lane.QueueLane.{QueueLane}
use Rattle.lanes.specs.declared.lane.Lanes.{Lanes}
use Rattle.lanes.specs.Lanes.{counts_of_queues, weighed_queues, IsIdleTap}
use Rattle.rounds.specs.Lanes.{of_work, count_of_work, AreSpent}
use Rattle.rounds.specs.Marks.{by_marks, IsNamed, IsRound}

-- Heads were shared: what is held is told by marks, whose blocks are those of the packets, and there are places for it.
pub record IsSharedOut (n : ℕ) (ps : List Slot) (lanes : Lanes) (clones : List TapClone) : Type 0 where
  pub round : IsRound n (both (of_packets ps) (of_work lanes clones))
  pub names : ℕ → ℕ
  pub named : IsNamed names (both (of_packets ps) (of_work lanes clones))
  pub weights : (h : ℕ → ℕ) → by_marks (λ m. h (names m)) 0 n
      ≡ weighed_slots h ps + weighed_queues h lanes.queues.items
  pub counts : counts_of ps + count_of_work lanes clones ≤ n + n
  pub spent : AreSpent lanes.taps.items

-- none were: nobody else holds a block, so there are as many as packets have
pub record IsAloneOut (n : ℕ) (ps : List Slot) (lanes : Lanes) (clones : List TapClone) : Type 0 where
  pub packets : AreAlone ps
  pub queues : All (λ (l : QueueLane). AreAlone l.packets.items) lanes.queues.items
  pub count : counts_of ps + counts_of_queues lanes.queues.items ≡ n
  pub none : clones ≡ []
  pub idle : All IsIdleTap lanes.taps.items

abbrev pub IsOut : Bool → ℕ → List Slot → Lanes → List TapClone → Type 0
IsOut true n ps lanes clones = IsSharedOut n ps lanes clones
IsOut false n ps lanes clones = IsAloneOut n ps lanes clones
