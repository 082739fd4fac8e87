-- What a pool is told where blocks come home.
use Rattle.std.specs.Prelude.{ℕ, ◌≡◌, ◌+◌}
use Rattle.block_pool.specs.PoolState.{PoolState, home as home_in, weighed}

-- so many blocks that weigh so much came home, and no count of the pool changed
pub record Adds (n : ℕ) (weights : (ℕ → ℕ) → ℕ) (from to : PoolState) : Type 0 where
  pub home : home_in to ≡ home_in from + n
  pub named : (h : ℕ → ℕ) → weighed h to.blocks ≡ weighed h from.blocks + weights h
  pub made : (to.made ≡ from.made) × (to.taken ≡ from.taken)
