use Rattle.std.proofs.Common.{◌≡◌, ℕ, ◌+◌, ◌-◌, ◌≤◌}
use Rattle.block_pool.specs.PoolState.{home, weighed}
use Rattle.block_supply.specs.Lists.{weights_home}
use Rattle.ahead.proofs.next_lists.NextListsSupply.bring.Given as goal

abbrev pub invariant-loop-self : goal.invariant-loop-self
invariant-loop-self g l = record {
  rises : home l.initial.pool ≤ home l.pool;
  made : l.pool.made ≡ l.initial.pool.made;
  taken : l.pool.taken ≡ l.initial.pool.taken;
  named : (h : ℕ → ℕ) → weighed h l.pool.blocks + weights_home h l.initial.self.taker.pass l.initial.self.taker.left
      ≡ weighed h l.initial.pool.blocks + weights_home h l.self.taker.pass l.self.taker.left;
  asked : l.initial.self.taker.pass.empties ≤ l.self.taker.pass.empties;
}

abbrev pub decreases-loop-self : goal.decreases-loop-self
decreases-loop-self g l = l.initial.need - home l.pool
