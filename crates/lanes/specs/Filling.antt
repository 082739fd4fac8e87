-- What private calls say of lanes that get what they have to do.
use Rattle.std.specs.Prelude.{ℕ, ◌≡◌, ◌+◌, ◌≤◌, All, Bool, true, List, length, map, OnOk, Result}
use Rattle.frags.specs.Account.{Keeps, KeepsBlocks, both}
use Rattle.gro.specs.declared.slot.Slot.{Slot as Held}
use Rattle.gro.specs.Slots.{packet_of, of_packets, counts_of, weighed_slots, AreAlone, AreHeld, AreShared, WeighAtLeast}
use Rattle.offload_model.specs.Rounds.{Spread}
use Rattle.lanes.specs.declared.plan.LanePlan.{LanePlan}
use Rattle.lanes.specs.declared.lane.QueueLane.{QueueLane}
use Rattle.lanes.specs.declared.lane.TapLane.{TapLane}
use Rattle.lanes.specs.declared.lane.Lanes.{Lanes}
use Rattle.lanes.specs.Clones.{weight_after}
use Rattle.lanes.specs.Lanes.{of_queues, of_taps, counts_of_queues, weighed_queues}
use Rattle.lanes.specs.Lanes.{AreIdle, IsFilled, IsIdleTap, IsTapReady}
use Rattle.lanes.specs.Packets.{RiseFrom}
use Rattle.lanes.specs.Sharing.{EachFrom, IsSharing, IsSum}
use Rattle.lanes.specs.Work.{spread_of, IsPlan, MayWatch}

-- ---- packets go to their queues

-- lanes of queues to which none of these packets has come
pub record AreOpen (by : LanePlan) (packets : List Held) (lanes : List QueueLane) : Type 0 where
  pub plan : IsPlan by
  pub queues : length lanes ≡ by.queues
  pub held : AreHeld packets
  pub empty : EachFrom (IsSharing (spread_of by) packets packets) 0 lanes

-- of packets that were in a list the lanes have each that isn't there any more, in its queue
pub record SharesOut (spread : Spread) (old new : List Held) (before after : List QueueLane) : Type 0 where
  pub shared : EachFrom (IsSharing spread old new) 0 after
  pub account : IsSum (of_packets old) (of_packets new) (of_queues after)
  pub counts : counts_of old ≡ counts_of new + counts_of_queues after
  pub named : (h : ℕ → ℕ) → weighed_slots h old ≡ weighed_slots h new + weighed_queues h after
  pub alone : AreAlone old → AreAlone new
  pub size : length after ≡ length before

-- ---- taps get clones

-- lanes of taps that are idle, and packets of which no clone was taken but those that are kept
pub record CanServe (lanes : List TapLane) (packets : List Held) : Type 0 where
  pub few : length lanes ≤ 8
  pub idle : All IsIdleTap lanes
  pub held : AreHeld packets
  pub weigh : WeighAtLeast (weight_after 1) packets

-- each tap has a clone of each packet or has read it, or for want of memory has what was made
pub record Serves {T E : Type 0} (shared : Bool) (plan : LanePlan) (old new : List Held) (before after : List TapLane)
    (result : Result T E) : Type 0 where
  pub kept : Keeps (of_packets old) (both (of_packets new) (of_taps after))
  pub blocks : KeepsBlocks (of_packets old) (both (of_packets new) (of_taps after))
  pub ready : All IsTapReady after
  pub served : OnOk result (EachFrom (MayWatch shared plan (map packet_of old)) 0 after)
  pub size : length after ≡ length before

-- ---- all lanes

-- the packets of a round, and lanes that are idle
pub record CanFill (lent : Bool) (by : LanePlan) (packets : List Held) (lanes : Lanes) : Type 0 where
  pub plan : IsPlan by
  pub held : AreHeld packets
  pub shared : lent ≡ true → 1 ≤ by.taps → AreShared packets
  pub weighs : WeighAtLeast (weight_after 1) packets
  pub rising : RiseFrom 0 (map packet_of packets)
  pub few : counts_of packets ≤ 65536
  pub idle : AreIdle lanes

-- lanes that may be worked
pub record AreReady (lanes : Lanes) : Type 0 where
  pub queues : All IsFilled lanes.queues.items
  pub taps : All IsTapReady lanes.taps.items
