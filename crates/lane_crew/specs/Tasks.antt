-- Lanes as tasks, what is done of them, and lanes of which some are away as tasks.
use Rattle.std.specs.Prelude.{ℕ, ◌≡◌, ◌≢◌, ◌<◌, ◌≤◌, ◌++◌, List, length, slice_set, slice_index_or}
use Rattle.std.specs.List.{AllByRecursion}
use Rattle.block_pool.specs.Giving.{LeavesNone, MayGive}
use Rattle.lanes.specs.declared.lane.QueueLane.{QueueLane}
use Rattle.lanes.specs.declared.lane.TapLane.{TapLane}
use Rattle.lanes.specs.declared.lane.Lanes.{Lanes}
use Rattle.lanes.specs.declared.plan.LanePlan.{LanePlan}
use Rattle.lane_crew.specs.declared.tasks.LaneTask.{LaneTask}
use Rattle.lane_crew.specs.declared.tasks.LaneTask.TheVariants as asked
use Rattle.lane_crew.specs.declared.tasks.LaneDone.{LaneDone}
use Rattle.lane_crew.specs.declared.tasks.LaneDone.TheVariants as answered
use Rattle.lanes.specs.Lanes.{DidQueue, DidTap}

-- what the lane of a task comes to: nothing is left of what it carries, unless it found no place
abbrev pub DidLane : LaneTask → LaneDone → Type 0
DidLane (asked.Queue t) (answered.Queue d) =
    (d.at ≡ t.at) × DidQueue t.segs t.lane d.lane × MayGive t.giver d.giver × LeavesNone t.giver d.giver
DidLane (asked.Tap t) (answered.Tap d) =
    (d.at ≡ t.at) × DidTap t.filter t.snap t.lane d.lane × MayGive t.giver d.giver × LeavesNone t.giver d.giver
DidLane _ _ = ⊥

-- ---- lanes of which some are away

-- a task has the lane at its place
abbrev pub IsOfQueues : ℕ → List QueueLane → LaneTask → Type 0
IsOfQueues segs ls (asked.Queue t) =
    (t.at < length ls) × (t.segs ≡ segs)
    × ((d : QueueLane) → t.lane ≡ slice_index_or ls t.at d)
IsOfQueues segs ls (asked.Tap t) = ⊥

abbrev pub IsOfTaps : LanePlan → List TapLane → LaneTask → Type 0
IsOfTaps plan ls (asked.Queue t) = ⊥
IsOfTaps plan ls (asked.Tap t) =
    (t.at < length ls) × (t.snap ≡ plan.snap) × (t.filter ≡ plan.filter)
    × ((d : TapLane) → t.lane ≡ slice_index_or ls t.at d)

abbrev pub IsOf : LanePlan → Lanes → LaneTask → Type 0
IsOf plan l (asked.Queue t) = IsOfQueues plan.segs l.queues.items (asked.Queue t)
IsOf plan l (asked.Tap t) = IsOfTaps plan l.taps.items (asked.Tap t)

-- it hasn't the queue's lane, or the tap's, at place i
abbrev pub IsElseQueue : ℕ → LaneTask → Type 0
IsElseQueue i (asked.Queue t) = t.at ≢ i
IsElseQueue i (asked.Tap t) = Unit {0}

abbrev pub IsElseTap : ℕ → LaneTask → Type 0
IsElseTap i (asked.Queue t) = Unit {0}
IsElseTap i (asked.Tap t) = t.at ≢ i

-- of the first n lanes each one that no task has is worked, and the others are as they were
pub record Parted {L : Type 0} (D : L → L → Type 0) (IsElse : ℕ → LaneTask → Type 0) (n : ℕ) (old new : List L)
    (ts : List LaneTask) : Type 0 where
  pub did : (i : ℕ) (d : L) → i < n → i < length old → AllByRecursion (IsElse i) ts
      → D (slice_index_or old i d) (slice_index_or new i d)
  pub rest : (i : ℕ) (d : L) → n ≤ i → slice_index_or new i d ≡ slice_index_or old i d
  pub size : length new ≡ length old

-- tasks came behind others, for those of the first n lanes that aren't worked
abbrev pub SentQueues : ℕ → ℕ → List QueueLane → List QueueLane → List LaneTask → List LaneTask → Type 0
SentQueues segs n old new before after =
    (more : List LaneTask) × (after ≡ before ++ more) × AllByRecursion (IsOfQueues segs old) more
    × Parted (DidQueue segs) IsElseQueue n old new more

abbrev pub SentTaps : LanePlan → ℕ → List TapLane → List TapLane → List LaneTask → List LaneTask → Type 0
SentTaps plan n old new before after =
    (more : List LaneTask) × (after ≡ before ++ more) × AllByRecursion (IsOfTaps plan old) more
    × Parted (DidTap plan.filter plan.snap) IsElseTap n old new more

-- each lane is worked, but those that these tasks have
pub record Away (plan : LanePlan) (old new : Lanes) (ts : List LaneTask) : Type 0 where
  pub own : AllByRecursion (IsOf plan old) ts
  pub queues : Parted (DidQueue plan.segs) IsElseQueue (length old.queues.items) old.queues.items new.queues.items ts
  pub taps : Parted (DidTap plan.filter plan.snap) IsElseTap (length old.taps.items) old.taps.items new.taps.items ts

-- ---- lanes come back

abbrev pub HasPlace : Lanes → LaneDone → Type 0
HasPlace l (answered.Queue d) = d.at < length l.queues.items
HasPlace l (answered.Tap d) = d.at < length l.taps.items

abbrev pub IsPlaced : Lanes → LaneTask → Type 0
IsPlaced l (asked.Queue t) = t.at < length l.queues.items
IsPlaced l (asked.Tap t) = t.at < length l.taps.items

-- the lane stands at its place
abbrev pub IsPut : LaneDone → Lanes → Lanes → Type 0
IsPut (answered.Queue d) old new =
    (new.queues.items ≡ slice_set old.queues.items d.at d.lane) × (new.taps.items ≡ old.taps.items)
IsPut (answered.Tap d) old new =
    (new.queues.items ≡ old.queues.items) × (new.taps.items ≡ slice_set old.taps.items d.at d.lane)
