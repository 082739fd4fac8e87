use Rattle.std.proofs.Common.{◌≡◌, ℕ, ◌+◌, ◌≤◌, length}
use Rattle.block_pool.specs.PoolState.{home, weighed}
use Rattle.gro.specs.Slots.{counts_of, weighed_slots, AreAlone}
use Rattle.rounds.proofs.round_home.bring_alone.Given as goal

abbrev pub invariant-loop-packet : goal.invariant-loop-packet
invariant-loop-packet l = record {
  alone : AreAlone l.packets.items;
  count : home l.pool + counts_of l.packets.items ≡ home l.fn.pool + counts_of l.fn.packets.items;
  named : (h : ℕ → ℕ) → weighed h l.pool.blocks + weighed_slots h l.packets.items ≡ weighed h l.fn.pool.blocks + weighed_slots h l.fn.packets.items;
  memory : l.fn.packets.room + length l.fn.packets.items ≤ l.packets.room + length l.packets.items;
  made : (l.pool.made ≡ l.fn.pool.made) × (l.pool.taken ≡ l.fn.pool.taken);
}

abbrev pub decreases-loop-packet : goal.decreases-loop-packet
decreases-loop-packet l = length l.packets.items
