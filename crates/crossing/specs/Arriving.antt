-- What arrived at the side that reads, and came home.
use Rattle.std.specs.Prelude.{ℕ, ◌≡◌, ◌+◌, ◌≤◌}
use Rattle.block_pool.specs.PoolState.{PoolState, home, weighed}
use Rattle.crossing.specs.declared.arrivals.Arrivals.{Arrivals}
use Rattle.crossing.specs.declared.post.Post.{Ghosts}
use Rattle.block_supply.specs.Lists.{weights_home}

-- what the blocks of lists weigh together, each by its name: by weights of 1 how many they are
abbrev pub weights_to : {W : Type 0} {G : Ghosts W} → Arrivals W G → (ℕ → ℕ) → ℕ
weights_to at h = weights_home h at.taker.pass at.taker.left

-- it went on to this pool, of which nothing was taken; no take that found no list is forgotten
pub record Meets {W : Type 0} {G : Ghosts W} (pool pool' : PoolState) (at at' : Arrivals W G) : Type 0 where
  pub named : (h : ℕ → ℕ) → weighed h pool'.blocks + weights_to at h ≡ weighed h pool.blocks + weights_to at' h
  pub same : (pool'.made ≡ pool.made) × (pool'.taken ≡ pool.taken)
  pub rises : home pool ≤ home pool'
  pub asked : at.taker.pass.empties ≤ at'.taker.pass.empties
