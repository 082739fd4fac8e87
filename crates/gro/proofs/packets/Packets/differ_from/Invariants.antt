use Rattle.std.proofs.Common.{◌≡◌, ◌-◌, ℕ, ◌<◌, length, get_or, vec_len, vec_capacity}
use Rattle.skb.specs.SkbState.{IsApartFrom}
use Rattle.gro.specs.declared.slot.Slot.{Slot}
use Rattle.gro.proofs.packets.Packets.differ_from.Given as goal

-- nothing changes, and the first i packets have no block of the Sole's
abbrev pub invariant-loop-i : goal.invariant-loop-i
invariant-loop-i l = record {
  others : (k : ℕ) (d : Slot) → k < l.i → IsApartFrom l.fn.sole.block (get_or l.fn.self.items k d).skb;
  items : l.self-inside.slots.items ≡ l.fn.self.items;
  room : vec_capacity l.self-inside.slots - vec_len l.self-inside.slots ≡ l.fn.self.room;
  sole : l.sole ≡ l.fn.sole;
  end : l.i-end ≡ length l.fn.self.items;
}
