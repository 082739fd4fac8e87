-- What a round that was worked holds in its lanes, what is written of it, and that its lengths fit their fields.
use Rattle.std.specs.Prelude.{ℕ, ◌≡◌, ◌+◌, ◌≤◌, All, Bool, true, IfOk, Option, None, Some, Result, List, [], ◌++◌}
use Rattle.std.specs.Prelude.{length, map}
use Rattle.std.specs.List.{AllByRecursion, flat_map}
use Rattle.net_bytes.specs.declared.order.Order.{Order}
use Rattle.pcap_io.specs.Capture.{Packet}
use Rattle.frags.specs.Account.{Account, both}
use Rattle.offload_model.specs.Written.{Options, record_bytes, round_records, shown_of}
use Rattle.gro.specs.Slots.{packet_of, AreAlone}
use Rattle.taps.specs.declared.clones.TapClone.{TapClone}
use Rattle.taps.specs.Clones.{packet_of as packet_of_clone, blocks_of, of_clones}
use Rattle.taps.specs.Texts.{record_of_text}
use Rattle.lanes.specs.declared.lane.QueueLane.{QueueLane}
use Rattle.lanes.specs.declared.lane.TapLane.{TapLane}
use Rattle.lanes.specs.declared.lane.Lanes.{Lanes}
use Rattle.lanes.specs.Lanes.{of_lanes, counts_of_queues, IsMerged}
use Rattle.lanes.specs.Packets.{RiseFrom}
use Rattle.lanes.specs.Work.{AreMerged, AreWatched, lane_records, merged_in}
use Rattle.records.specs.Records.{item_bytes}
use Rattle.rounds.specs.Held.{Fits}
use Rattle.rounds.specs.RoundsState.{WorkedState}

-- ---- what it holds

abbrev pub of_work : Lanes → List TapClone → Account
of_work lanes clones = both (of_lanes lanes) (of_clones clones)

-- at least as many blocks and parts as it holds
abbrev pub count_of_work : Lanes → List TapClone → ℕ
count_of_work lanes clones = counts_of_queues lanes.queues.items + blocks_of clones

-- no tap has a clone that it still has to read
abbrev pub AreSpent : List TapLane → Type 0
AreSpent lanes = All (λ (l : TapLane). l.clones.items ≡ []) lanes

-- nobody but its packets holds a block of them, and there are no clones
abbrev pub IsAloneWork : WorkedState → Type 0
IsAloneWork w = All (λ (l : QueueLane). AreAlone l.packets.items) w.lanes.queues.items × (w.clones ≡ [])

-- ---- what is written

abbrev pub worked_records : WorkedState → List Packet
worked_records w = lane_records w.lanes

abbrev pub queue_bytes : Order → QueueLane → List ℕ
queue_bytes order l = flat_map (item_bytes order l.queue) (merged_in l)

abbrev pub text_bytes : Order → ℕ → Packet → List ℕ
text_bytes order t text = record_bytes order (record_of_text t text)

abbrev pub bytes_of_texts : Order → ℕ → Option (List Packet) → List ℕ
bytes_of_texts order t None = []
bytes_of_texts order t (Some texts) = flat_map (text_bytes order t) texts

abbrev pub tap_bytes : Order → TapLane → List ℕ
tap_bytes order l = bytes_of_texts order l.tap l.texts

abbrev pub lanes_bytes : Order → Lanes → List ℕ
lanes_bytes order l = flat_map (queue_bytes order) l.queues.items ++ flat_map (tap_bytes order) l.taps.items

-- queue by queue what its runs come to, and then tap by tap its windows
abbrev pub worked_bytes : Order → WorkedState → List ℕ
worked_bytes order w = lanes_bytes order w.lanes

-- ---- that it may be written

-- each packet of it is in a run, and fits a record: what the runs come to does so as well
abbrev pub IsSmallQueue : QueueLane → Type 0
IsSmallQueue l = (l.queue ≤ 63) × IsMerged l × AllByRecursion Fits (map packet_of l.packets.items)

abbrev pub IsShortText : Packet → Type 0
IsShortText text = length text.frame ≤ 2048

abbrev pub AreShortTexts : Option (List Packet) → Type 0
AreShortTexts None = Unit {0}
AreShortTexts (Some texts) = AllByRecursion IsShortText texts

abbrev pub IsSmallTap : TapLane → Type 0
IsSmallTap l = (l.tap ≤ 7) × AreShortTexts l.texts

-- all numbers and lengths fit their fields
pub record IsSmallWork (lanes : Lanes) : Type 0 where
  pub queues : AllByRecursion IsSmallQueue lanes.queues.items
  pub taps : AllByRecursion IsSmallTap lanes.taps.items

-- ---- what is kept for a comparison

-- each packet stands in a run, once, and beside the lanes stands a clone of each
pub record IsKeptWorkOf (options : Options) (ps : List Packet) (w : WorkedState) : Type 0 where
  pub merged : AreMerged options.segs options.spread options.queues ps w.lanes.queues.items
  pub watched : AreWatched options.snap options.taps (map (shown_of options.filter) ps) w.lanes.taps.items
  pub is : All IsMerged w.lanes.queues.items
  pub clones : map packet_of_clone w.clones ≡ ps
  pub rising : RiseFrom 0 ps

-- a round was worked: its records are those of its packets, and each of these is there once where they are kept
pub record WorksAs {E : Type 0} (options : Options) (keep : Bool) (ps : List Packet) (result : Result WorkedState E)
    : Type 0 where
  pub records : IfOk result (λ worked. worked_records worked ≡ round_records options ps)
  pub checked : keep ≡ true → IfOk result (λ worked. IsKeptWorkOf options ps worked)
  pub merged : IfOk result (λ worked. All IsMerged worked.lanes.queues.items)
