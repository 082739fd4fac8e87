-- Where the block of a Sole may lie that a tap has.
use Rattle.std.specs.Prelude.{ℕ, ◌≡◌, ◌+◌, All, List, [], cond}
use Rattle.frags.specs.RoundAccount.{one_block}
use Rattle.gro.specs.declared.slot.Slot.{Slot as Held}
use Rattle.gro.specs.Slots.{weighed_slots}
use Rattle.lanes.specs.declared.lane.TapLane.{TapLane}
use Rattle.lanes.specs.declared.lane.Lanes.{Lanes}
use Rattle.lanes.specs.Lanes.{of_taps, weighed_queues}

-- the weight 1 for block b, and 0 for all others
abbrev pub only : ℕ → ℕ → ℕ
only b k = cond (one_block b k) 1 0

-- no Sole is among what taps have given back
abbrev pub HaveNoSoles : List TapLane → Type 0
HaveNoSoles taps = All (λ (t : TapLane). t.outcomes.soles ≡ []) taps

-- what taps have given back is of the packets' blocks: where no packet holds a block, no tap has its Sole
abbrev pub AreOfPackets : List Held → Lanes → Type 0
AreOfPackets ps l = (b m : ℕ) → weighed_slots (only b) ps + weighed_queues (only b) l.queues.items ≡ 0
    → (of_taps l.taps.items).homes (one_block b) m ≡ 0
