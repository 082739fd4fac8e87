-- What a contract sees of a round's table.
use Rattle.std.specs.Prelude.{ℕ, ◌≡◌, ◌+◌, ◌*◌, ◌-◌, ◌<◌, ◌≤◌, List, [], ◌∷◌, length, map}
use Rattle.std.specs.List.{AllByRecursion}
use Rattle.frags.specs.Account.{Account, Keeps, both}
use Rattle.maximal_runs.specs.Cut.{AllNeighbours}
use Rattle.maximal_runs.specs.Items.{first_number, AreItems}
use Rattle.pcap_io.specs.Capture.{Packet}
use Rattle.skb.specs.SkbState.{buffer_least}
use Rattle.skb.specs.Fronts.{IsFronted}
use Rattle.offload_model.specs.Mergeable.{up_to, IsMergeableWithin}
use Rattle.offload_model.specs.Rounds.{is_of, number_of}
use Rattle.offload_model.specs.Merged.{merged_of}
use Rattle.gro_table.specs.declared.packet.Packet.{Packet as Held}
use Rattle.gro_table.specs.declared.item.Item.{Item}
use Rattle.gro_table.specs.declared.packet_list.PacketList.{PacketList}
use Rattle.frame_runs.specs.declared.engine.Engine.{Engine}
use Rattle.gro_table.specs.Held.{packet_of, of_packets, counts_of, AreLentFrom}
use Rattle.gro.specs.Slots.{of_nothing}
use Rattle.gro_table.specs.Items.{item_of, item_count, of_item, IsItemOf}
use Rattle.gro.specs.Slots.{packet_of as packet_in}
use Rattle.gro_table.specs.Lists.{held_of, HasSlots}
use Rattle.frame_runs.specs.Engine.{runs_of, HasPlaces}
use Rattle.gro_table.specs.Waiting.{AreTogether}
use Rattle.gro_table.specs.Totals.{AreSame}

-- the runs so far, in the order of their first packets; how many packets may come, and how many have; what the next
-- one's number has to reach; and how many packets a run may have
pub record TableState : Type 0 where
  pub runs : List (List Held)
  pub limit : ℕ
  pub received : ℕ
  pub above : ℕ
  pub segs : ℕ

-- a table that holds nothing, between two rounds
abbrev pub no_table : ℕ → TableState
no_table segs = record { runs = []; limit = 0; received = 0; above = 0; segs = segs }

-- what is known of a table's packets and runs, and how many blocks and parts they hold
pub record IsTable (list : PacketList) (engine : Engine) (limit received above count : ℕ) : Type 0 where
  pub together : AreTogether list engine
  pub early : AllByRecursion (λ run. first_number number_of run < above)
      (runs_of (map packet_in list.slots.items) engine)
  pub many : length list.slots.items ≡ received
  pub slots : HasSlots list (limit - received)
  pub places : HasPlaces engine (limit - received)
  pub linked : limit ≤ length engine.next.items
  pub within : received ≤ limit
  pub counted : count ≡ counts_of (held_of list)
  pub few : count ≤ received * 262147

-- the runs of all flows of these packets, of at most `segs` packets each, which stand in the order of their numbers
pub record AreRunsOf (segs : ℕ) (ps : List Packet) (rs : List (List Held)) : Type 0 where
  pub rising : AllNeighbours (λ (p q : Packet). p.number < q.number) ps
  pub runs : AreItems (IsMergeableWithin (up_to segs)) is_of number_of ps (map (λ (r : List Held). map packet_of r) rs)

-- the table has received these packets: its runs are theirs, and hold them and nothing else
pub record Received (ps : List Held) (t : TableState) : Type 0 where
  pub are : AreRunsOf t.segs (map packet_of ps) t.runs
  pub same : AreSame ps t.runs
  pub many : length ps ≡ t.received
  pub below : AllByRecursion (λ (p : Held). p.number < t.above) ps

abbrev pub of_runs : List (List Held) → Account
of_runs [] = of_nothing
of_runs (r ∷ rs) = both (of_packets r) (of_runs rs)

abbrev pub counts_in : List (List Held) → ℕ
counts_in [] = 0
counts_in (r ∷ rs) = counts_of r + counts_in rs

-- each run's item, in order
abbrev pub AreItemsFrom : List (List Held) → List Item → Type 0
AreItemsFrom [] items = items ≡ []
AreItemsFrom (r ∷ rs) [] = ⊥
AreItemsFrom (r ∷ rs) (i ∷ is) = ((item_of i ≡ merged_of (map packet_of r)) × IsItemOf r i) × AreItemsFrom rs is

abbrev pub counts_of_items : List Item → ℕ
counts_of_items [] = 0
counts_of_items (i ∷ is) = item_count i + counts_of_items is

abbrev pub of_items : List Item → Account
of_items [] = of_nothing
of_items (i ∷ is) = both (of_item i) (of_items is)

abbrev pub AreRunsLentFrom : List (List Held) → List (List Held) → Type 0
AreRunsLentFrom [] qs = qs ≡ []
AreRunsLentFrom (r ∷ rs) qs = (q : List Held) × ((ss : List (List Held))
    × (AreLentFrom r q × (qs ≡ q ∷ ss) × AreRunsLentFrom rs ss))

-- nothing of the table is lost, and a life begins at most with a head's Sole
abbrev pub KeepsTable : List (List Held) → List Item → Type 0
KeepsTable rs is = (qs : List (List Held)) × (AreRunsLentFrom rs qs × Keeps (of_runs qs) (of_items is))

-- each item's head has its first 200 bytes, or all of fewer, and one block at least is free with it
abbrev pub AreReady : List Item → Type 0
AreReady is = AllByRecursion (λ (i : Item). IsFronted i.skb × (1 ≤ length i.outcomes.soles)) is

-- no part of the items' buffers weighs less than w
abbrev pub ItemsWeighAtLeast : ℕ → List Item → Type 0
ItemsWeighAtLeast w is = AllByRecursion (λ (i : Item). w ≤ buffer_least i.skb) is
