use Rattle.std.proofs.Common.{◌≡◌, ◌-◌, length, vec_len, vec_capacity}
use Rattle.gro.proofs.Lying.{LentUpTo}
use Rattle.gro.proofs.packets.Packets.share_heads.Given as goal

-- the first i heads are shared
abbrev pub invariant-loop-i : goal.invariant-loop-i
invariant-loop-i l = record {
  lent : LentUpTo l.i l.fn.self.items l.self-inside.slots.items;
  end : l.i-end ≡ length l.fn.self.items;
  size : length l.self-inside.slots.items ≡ length l.fn.self.items;
  room : vec_capacity l.self-inside.slots - vec_len l.self-inside.slots ≡ l.fn.self.room;
}
