-- The lanes of a round after their work, and the records that are written of them.
use Rattle.std.specs.Prelude.{ℕ, ◌≡◌, ◌+◌, ◌≤◌, ◌⊎◌, Bool, true, false, Option, None, Some, All, List}
use Rattle.std.specs.Prelude.{[], ◌++◌, map, length}
use Rattle.std.specs.List.{filter, flat_map, range_with_len}
use Rattle.pcap_io.specs.Capture.{Packet}
use Rattle.frags.specs.Account.{Keeps, KeepsBlocks, both}
use Rattle.offload_model.specs.Merged.{Merged, merged_of}
use Rattle.offload_model.specs.Rounds.{Spread, is_queued, items_of}
use Rattle.frame_layout.specs.Choice.{IsChoice, spread_by}
use Rattle.offload_model.specs.Segments.{with_head}
use Rattle.offload_model.specs.Written.{Options, head_of, shown_of, windows_of, round_records}
use Rattle.gro.specs.declared.slot.Slot.{Slot as Held}
use Rattle.gro.specs.Slots.{packet_of, of_packets, counts_of, weighed_slots, AreAlone}
use Rattle.taps.specs.Texts.{texts_of, record_of_text}
use Rattle.lanes.specs.declared.plan.LanePlan.{LanePlan}
use Rattle.lanes.specs.declared.lane.QueueLane.{QueueLane}
use Rattle.lanes.specs.declared.lane.TapLane.{TapLane}
use Rattle.lanes.specs.declared.lane.Lanes.{Lanes}
use Rattle.lanes.specs.Lanes.{of_lanes, counts_of_queues, weighed_queues, runs_in_lane, IsFilled, IsIdleTap, IsMerged}
use Rattle.lanes.specs.Lanes.{EachQueueDid, EachTapDid}
use Rattle.lanes.specs.Sharing.{EachFrom}
use Rattle.lanes.specs.Taps.{HasClones}

-- how many lanes there may be, how far a tap may read, and how many packets a run may have
abbrev pub IsPlan : LanePlan → Type 0
IsPlan p = ((1 ≤ p.queues) × (p.queues ≤ 64)) × (p.taps ≤ 8) × ((1 ≤ p.snap) × (p.snap ≤ 2048))
    × IsChoice p.queues p.choice × ((1 ≤ p.segs) × (p.segs ≤ 4096))

-- the queue of each flow
abbrev pub spread_of : LanePlan → Spread
spread_of p = spread_by p.choice p.queues

-- what merging is told, in rounds of `budget` packets
abbrev pub options_by : LanePlan → ℕ → Options
options_by p budget = record {
  budget = budget;
  queues = p.queues;
  spread = spread_of p;
  taps = p.taps;
  snap = p.snap;
  segs = p.segs;
  filter = p.filter;
}

-- what taps are shown
abbrev pub shown_by : LanePlan → List Packet → List Packet
shown_by p ps = map (shown_of p.filter) ps

-- ---- before

-- queue q has its packets of these
pub record IsToWork (spread : Spread) (ps : List Packet) (q : ℕ) (l : QueueLane) : Type 0 where
  pub queue : l.queue ≡ q
  pub packets : map packet_of l.packets.items ≡ filter (is_queued spread q) ps
  pub filled : IsFilled l

-- ---- after

abbrev pub merged_in : QueueLane → List Merged
merged_in l = map merged_of (runs_in_lane l)

-- queue by queue, what the runs of its flows come to, in the order of their first packets
pub record AreMerged (segs : ℕ) (spread : Spread) (queues : ℕ) (ps : List Packet) (ls : List QueueLane) : Type 0 where
  pub numbers : map (λ (l : QueueLane). l.queue) ls ≡ range_with_len 0 queues
  pub items : map merged_in ls ≡ map (λ q. map merged_of (items_of segs spread q ps)) (range_with_len 0 queues)

-- tap by tap, its windows of these packets
pub record AreWatched (snap taps : ℕ) (ps : List Packet) (ls : List TapLane) : Type 0 where
  pub numbers : map (λ (l : TapLane). l.tap) ls ≡ range_with_len 0 taps
  pub texts : map (λ (l : TapLane). l.texts) ls ≡ map (λ t. Some (texts_of snap t ps)) (range_with_len 0 taps)

-- ---- the records

abbrev pub records_of_queue : QueueLane → List Packet
records_of_queue l = map (λ (m : Merged). with_head (head_of l.queue m) m.packet) (merged_in l)

abbrev pub records_of_texts : ℕ → Option (List Packet) → List Packet
records_of_texts t None = []
records_of_texts t (Some texts) = map (record_of_text t) texts

abbrev pub records_of_tap : TapLane → List Packet
records_of_tap l = records_of_texts l.tap l.texts

-- the records of all lanes: queue by queue those of its items, and then tap by tap those of its windows
abbrev pub lane_records : Lanes → List Packet
lane_records l = flat_map records_of_queue l.queues.items ++ flat_map records_of_tap l.taps.items

-- ---- one lane after its work

pub record IsWorked (segs : ℕ) (spread : Spread) (ps : List Packet) (q : ℕ) (l : QueueLane) : Type 0 where
  pub queue : l.queue ≡ q
  pub packets : map packet_of l.packets.items ≡ filter (is_queued spread q) ps
  pub merged : merged_in l ≡ map merged_of (items_of segs spread q ps)
  pub is : IsMerged l

pub record IsWatched (snap : ℕ) (ps : List Packet) (t : ℕ) (l : TapLane) : Type 0 where
  pub tap : l.tap ≡ t
  pub texts : l.texts ≡ Some (texts_of snap t ps)
  pub windows : records_of_tap l ≡ windows_of snap t ps

-- ---- all lanes

-- taps get no clones: there is none, or each reads packets where they lie
abbrev pub IsUncloned : Bool → LanePlan → Type 0
IsUncloned shared plan = (shared ≡ false) ⊎ (plan.taps ≡ 0)

-- where taps get none, nobody shares a block of packets of which nobody shared one, and taps have nothing
pub record AreUnshared (shared : Bool) (plan : LanePlan) (old new : List Held) (l : Lanes) : Type 0 where
  pub alone : IsUncloned shared plan → AreAlone old
      → AreAlone new × All (λ m. AreAlone m.packets.items) l.queues.items
  pub idle : IsUncloned shared plan → All IsIdleTap l.taps.items

-- what isn't in the list any more is in the lanes
pub record Fills (shared : Bool) (plan : LanePlan) (old new : List Held) (l : Lanes) : Type 0 where
  pub kept : Keeps (of_packets old) (both (of_packets new) (of_lanes l))
  pub blocks : KeepsBlocks (of_packets old) (both (of_packets new) (of_lanes l))
  pub count : counts_of new + counts_of_queues l.queues.items ≡ counts_of old
  pub named : (h : ℕ → ℕ) → weighed_slots h new + weighed_queues h l.queues.items ≡ weighed_slots h old
  pub unshared : AreUnshared shared plan old new l

-- tap t has read these packets where they lie, or, where their heads are shared, has a clone of each
abbrev pub MayWatch : Bool → LanePlan → List Packet → ℕ → TapLane → Type 0
MayWatch true plan ps t l = HasClones ps t l ⊎ (IsWatched plan.snap (shown_by plan ps) t l × (l.clones.items ≡ []))
MayWatch false plan ps t l = IsWatched plan.snap (shown_by plan ps) t l

-- they have what they are to do
pub record AreFilled (shared : Bool) (plan : LanePlan) (old : List Held) (l : Lanes) : Type 0 where
  pub fills : Fills shared plan old [] l
  pub queues : EachFrom (IsToWork (spread_of plan) (map packet_of old)) 0 l.queues.items
  pub taps : EachFrom (MayWatch shared plan (map packet_of old)) 0 l.taps.items
  pub sizes : (length l.queues.items ≡ plan.queues) × (length l.taps.items ≡ plan.taps)

-- each queue has done it, and each tap, or for want of memory that gave back what it had
pub record Did (plan : LanePlan) (old new : Lanes) : Type 0 where
  pub queues : EachQueueDid plan.segs old.queues.items new.queues.items
  pub taps : EachTapDid plan.filter plan.snap old.taps.items new.taps.items
  pub sizes : (length new.queues.items ≡ length old.queues.items) × (length new.taps.items ≡ length old.taps.items)

-- what a round comes to
pub record IsDone (shared : Bool) (plan : LanePlan) (old : List Held) (l : Lanes) : Type 0 where
  pub lanes : AreMerged plan.segs (spread_of plan) plan.queues (map packet_of old) l.queues.items
  pub windows : AreWatched plan.snap plan.taps (shown_by plan (map packet_of old)) l.taps.items
  pub records : (budget : ℕ) → lane_records l ≡ round_records (options_by plan budget) (map packet_of old)
  pub merged : All IsMerged l.queues.items
  pub packets : EachFrom (λ q (m : QueueLane). map packet_of m.packets.items
      ≡ filter (is_queued (spread_of plan) q) (map packet_of old)) 0 l.queues.items
  pub fills : Fills shared plan old [] l
  pub clones : All (λ t. t.clones.items ≡ []) l.taps.items

-- where memory was refused: the packets that stay, and what the lanes have of the others
pub record IsRefused (shared : Bool) (plan : LanePlan) (old new : List Held) (l : Lanes) : Type 0 where
  pub fills : Fills shared plan old new l
  pub clones : All (λ t. t.clones.items ≡ []) l.taps.items
