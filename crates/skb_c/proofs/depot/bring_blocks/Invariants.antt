use Rattle.std.proofs.Common.{ℕ, ◌≡◌, ◌+◌, ◌≤◌, length, min}
use Rattle.std.specs.List.{sum_by}
use Rattle.raw_block.specs.Views.{SoleState}
use Rattle.block_pool.specs.PoolState.{home}
use Rattle.skb_c.proofs.depot.bring_blocks.Given as goal

abbrev pub invariant-loop-sole : goal.invariant-loop-sole
invariant-loop-sole l = record {
  receipts : l.out.receipts ≡ l.fn.out.receipts;
  room : home l.pool ≤ l.fn.pool.made;
  places : l.pool.made ≡ l.fn.pool.made;
  count : min (home l.pool + length l.out.soles) l.fn.pool.made ≡ min (home l.fn.pool + length l.fn.out.soles) l.fn.pool.made;
  blocks : home l.fn.pool + length l.fn.out.soles ≤ l.fn.pool.made → (h : SoleState → ℕ)
      → (home l.pool + length l.out.soles ≤ l.fn.pool.made)
      × (sum_by h l.pool.blocks + sum_by h l.out.soles ≡ sum_by h l.fn.pool.blocks + sum_by h l.fn.out.soles);
}

abbrev pub decreases-loop-sole : goal.decreases-loop-sole
decreases-loop-sole l = length l.out.soles
