use Rattle.std.proofs.Common.{ℕ, ◌≡◌, ◌+◌, length}
use Rattle.std.specs.List.{sum_by}
use Rattle.raw_block.specs.Views.{SoleState}
use Rattle.block_pool.specs.PoolState.{home}
use Rattle.skb_c.proofs.depot.put_spares.Given as goal

abbrev pub invariant-loop-block : goal.invariant-loop-block
invariant-loop-block l = record {
  count : home l.pool + length l.spares.items ≡ home l.fn.pool + length l.fn.spares.items;
  made : l.pool.made ≡ l.fn.pool.made;
  blocks : (h : SoleState → ℕ) → sum_by h l.pool.blocks + sum_by h l.spares.items
      ≡ sum_by h l.fn.pool.blocks + sum_by h l.fn.spares.items;
}

abbrev pub decreases-loop-block : goal.decreases-loop-block
decreases-loop-block l = length l.spares.items
