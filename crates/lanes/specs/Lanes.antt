-- The lanes of a round, and what they hold.
use Rattle.std.specs.Prelude.{ℕ, ◌≡◌, ◌+◌, ◌<◌, ◌≤◌, ◌^◌, All, IfSome, Option, None, Some, List, [], ◌∷◌, length, map}
use Rattle.std.specs.Prelude.{slice_index_or}
use Rattle.frags.specs.Account.{Account, Keeps, KeepsBlocks, both, of_outcomes}
use Rattle.frags.specs.OutcomesState.{IsBare}
use Rattle.pcap_io.specs.Capture.{Packet}
use Rattle.tap_filter.specs.declared.instr.Instr.{Instr}
use Rattle.offload_model.specs.Rounds.{runs_in}
use Rattle.frame_runs.specs.Engine.{AreRuns, IsReady, runs_of}
use Rattle.gro.specs.Slots.{of_nothing}
use Rattle.gro.specs.Slots.{packet_of, of_packets, counts_of, weighed_slots, AreHeld}
use Rattle.taps.specs.Clones.{shown_packet, blocks_of, of_clones}
use Rattle.offload_model.specs.Written.{windows_of}
use Rattle.taps.specs.Texts.{texts_of, record_of_text}
use Rattle.lanes.specs.declared.lane.QueueLane.{QueueLane}
use Rattle.lanes.specs.declared.lane.TapLane.{TapLane}
use Rattle.lanes.specs.declared.lane.Lanes.{Lanes}
use Rattle.lanes.specs.Packets.{RiseFrom}

-- ---- what they hold

abbrev pub of_queue : QueueLane → Account
of_queue l = of_packets l.packets.items

abbrev pub of_queues : List QueueLane → Account
of_queues [] = of_nothing
of_queues (l ∷ ls) = both (of_queue l) (of_queues ls)

abbrev pub of_tap : TapLane → Account
of_tap l = both (of_clones l.clones.items) (of_outcomes l.outcomes)

abbrev pub of_taps : List TapLane → Account
of_taps [] = of_nothing
of_taps (l ∷ ls) = both (of_tap l) (of_taps ls)

abbrev pub of_lanes : Lanes → Account
of_lanes l = both (of_queues l.queues.items) (of_taps l.taps.items)

-- how many blocks and parts the packets of the queues hold
abbrev pub count_of_queue : QueueLane → ℕ
count_of_queue l = counts_of l.packets.items

abbrev pub counts_of_queues : List QueueLane → ℕ
counts_of_queues [] = 0
counts_of_queues (l ∷ ls) = count_of_queue l + counts_of_queues ls

-- what the blocks of the packets of the queues weigh together, each by its name
abbrev pub weighed_queues : (ℕ → ℕ) → List QueueLane → ℕ
weighed_queues h [] = 0
weighed_queues h (l ∷ ls) = weighed_slots h l.packets.items + weighed_queues h ls

-- ---- between two rounds

-- a lane holds nothing but memory
pub record IsIdleQueue (l : QueueLane) : Type 0 where
  pub packets : l.packets.items ≡ []

pub record IsIdleTap (l : TapLane) : Type 0 where
  pub clones : l.clones.items ≡ []
  pub bare : IsBare l.outcomes

abbrev pub AreIdle : Lanes → Type 0
AreIdle l = All IsIdleQueue l.queues.items × All IsIdleTap l.taps.items

-- ---- what a lane is to do, and what it does

-- a queue's packets may be merged, and there is room for their runs
pub record IsFilled (l : QueueLane) : Type 0 where
  pub held : AreHeld l.packets.items
  pub rising : RiseFrom 0 (map packet_of l.packets.items)
  pub few : length l.packets.items < 2 ^ 32
  pub ready : IsReady l.engine (length l.packets.items)

-- the runs of a queue's packets
abbrev pub runs_in_lane : QueueLane → List (List Packet)
runs_in_lane l = runs_of (map packet_of l.packets.items) l.engine

-- its packets are in runs, each once
pub record IsMerged (l : QueueLane) : Type 0 where
  pub held : AreHeld l.packets.items
  pub are : AreRuns (map packet_of l.packets.items) (length l.packets.items) l.engine

-- its packets lie where they lay, and are merged in runs of at most `segs`
pub record DidQueue (segs : ℕ) (old new : QueueLane) : Type 0 where
  pub queue : new.queue ≡ old.queue
  pub packets : new.packets ≡ old.packets
  pub runs : runs_in_lane new ≡ runs_in segs (map packet_of old.packets.items)
  pub is : IsMerged new

abbrev pub EachQueueDid : ℕ → List QueueLane → List QueueLane → Type 0
EachQueueDid segs xs ys = (i : ℕ) (d : QueueLane) → i < length xs
    → DidQueue segs (slice_index_or xs i d) (slice_index_or ys i d)

abbrev pub IsTapReady : TapLane → Type 0
IsTapReady l = blocks_of l.clones.items ≤ l.outcomes.spare

-- a tap's windows of what is shown are read, or memory for them is refused, and its clones were given back
pub record ReadsTap (filter : Option (List Instr)) (snap : ℕ) (old new : TapLane) : Type 0 where
  pub tap : new.tap ≡ old.tap
  pub kept : Keeps (of_tap old) (of_tap new)
  pub blocks : KeepsBlocks (of_tap old) (of_tap new)
  pub none : new.clones.items ≡ []
  pub read : IfSome new.texts (λ texts. texts ≡ texts_of snap old.tap (map (shown_packet filter) old.clones.items))
  pub windows : IfSome new.texts (λ texts. map (record_of_text old.tap) texts
      ≡ windows_of snap old.tap (map (shown_packet filter) old.clones.items))

-- so of a tap that hasn't read before; one that has stays as it is
abbrev pub DidTapOf : Option (List Packet) → Option (List Instr) → ℕ → TapLane → TapLane → Type 0
DidTapOf None filter snap old new = ReadsTap filter snap old new
DidTapOf (Some texts) filter snap old new = new ≡ old

abbrev pub DidTap : Option (List Instr) → ℕ → TapLane → TapLane → Type 0
DidTap filter snap old new = DidTapOf old.texts filter snap old new

abbrev pub EachTapDid : Option (List Instr) → ℕ → List TapLane → List TapLane → Type 0
EachTapDid filter snap xs ys = (i : ℕ) (d : TapLane) → i < length xs
    → DidTap filter snap (slice_index_or xs i d) (slice_index_or ys i d)
