use Rattle.std.proofs.Common.{ℕ, ◌≡◌, ◌+◌, ◌≤◌, length, vec_capacity}
use Rattle.std.specs.List.{sum_by}
use Rattle.raw_block.specs.Views.{SoleState}
use Rattle.block_pool.specs.PoolState.{home}
use Rattle.skb_c.proofs.depot.take_spares.Given as goal

abbrev pub invariant-loop : goal.invariant-loop
invariant-loop l = record {
  filled : length l.spares.items ≡ l.counter;
  room : l.fn.n ≤ vec_capacity l.spares;
  count : home l.pool + l.counter ≡ home l.fn.pool;
  made : l.pool.made ≡ l.fn.pool.made;
  blocks : (h : SoleState → ℕ) → sum_by h l.pool.blocks + sum_by h l.spares.items ≡ sum_by h l.fn.pool.blocks;
}
