use Rattle.std.proofs.Common.{◌≡◌, ℕ, ◌+◌, length}
use Rattle.std.specs.VecDeque.{deque_capacity}
use Rattle.block_pool.specs.PoolState.{home, weighed}
use Rattle.reading.proofs.blocks.put_back.Given as goal

abbrev pub invariant-loop-sole : goal.invariant-loop-sole
invariant-loop-sole l = record {
  home : home l.pool + length l.hold.items ≡ home l.fn.pool + (length l.fn.hold.items + 1);
  named : (h : ℕ → ℕ) → weighed h l.pool.blocks + weighed h l.hold.items
      ≡ weighed h l.fn.pool.blocks + (h l.fn.first.block + weighed h l.fn.hold.items);
  made : l.pool.made ≡ l.fn.pool.made;
  taken : l.pool.taken ≡ l.fn.pool.taken;
  capacity : deque_capacity l.hold ≡ deque_capacity l.fn.hold;
}

abbrev pub decreases-loop-sole : goal.decreases-loop-sole
decreases-loop-sole l = length l.hold.items
