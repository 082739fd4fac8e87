-- Lists of blocks that come home while the other blocks of their round are out: what came, and by weights of 1 how many
-- these are.
use Rattle.std.specs.Prelude.{ℕ, ◌≡◌, ◌-◌, Option, Some, List, []}
use Rattle.raw_block.specs.Views.{SoleState}
use Rattle.block_pool.specs.Giving.{GiverState}
use Rattle.block_pool.specs.Listed.{listed}
use Rattle.block_pool.specs.PassState.{PassState, SharedState}
use Rattle.block_pool.specs.PoolState.{PoolState, home, weighed}

-- what tells no pool from others
abbrev pub no_lists : SharedState
no_lists = record {
  id = record { words = 0; slots = 0; views_name = 0; atom = 0; block = 0; offset = 0; slot_names = [] };
  made = 0;
  places = 0;
}

-- what the blocks of lists weigh, each by its name
abbrev pub weights_listed : (ℕ → ℕ) → List PoolState → ℕ
weights_listed h lists = listed (λ (s : SoleState). h s.block) lists

-- and those that came home of lists that were taken: all but those that are left of one
abbrev pub weights_home : (ℕ → ℕ) → PassState PoolState → PoolState → ℕ
weights_home h pass left = weights_listed h pass.taken - weighed h left.blocks

-- who gives lists to this pool is there, with nothing in its list and all parts of passes but one
pub record HasGiver (pool : SharedState) (giver : Option GiverState) : Type 0 where
  pub it : GiverState
  pub is : giver ≡ Some it
  pub pool_is : it.pool ≡ pool
  pub parts : it.pass.parts ≡ 65535
  pub none : home it.list ≡ 0
