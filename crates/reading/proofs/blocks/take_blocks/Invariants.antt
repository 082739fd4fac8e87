use Rattle.std.proofs.Common.{◌≡◌, ℕ, ◌+◌, ◌-◌, ◌^◌, min, length}
use Rattle.std.specs.VecDeque.{deque_capacity}
use Rattle.block_pool.specs.PoolState.{home, weighed}
use Rattle.reading.specs.Laid.{MarkedFrom}
use Rattle.reading.proofs.blocks.take_blocks.Given as goal

abbrev pub invariant-loop-i : goal.invariant-loop-i
invariant-loop-i l = record {
  marks : MarkedFrom l.fn.first l.hold.items;
  count : length l.hold.items ≡ l.i;
  home : home l.pool + l.i ≡ home l.fn.pool;
  named : (h : ℕ → ℕ) → weighed h l.pool.blocks + weighed h l.hold.items ≡ weighed h l.fn.pool.blocks;
  made : l.pool.made ≡ l.fn.pool.made;
  taken : l.pool.taken ≡ min (l.fn.pool.taken + l.i) (2 ^ 64 - 1);
  capacity : deque_capacity l.hold ≡ deque_capacity l.fn.hold;
}
