use Rattle.std.proofs.Common.{◌≡◌, ◌+◌, ◌≤◌, ℕ, length}
use Rattle.std.specs.List.{sum_by}
use Rattle.raw_block.specs.Views.{SoleState}
use Rattle.block_pool.specs.PoolState.{MovesLast}
use Rattle.block_pool.proofs.pool.Pool.move_some.Given as goal

abbrev pub invariant-loop : goal.invariant-loop
invariant-loop l =
    (l.counter ≤ l.n) × (l.n ≡ l.initial.n)
    × (length l.self.blocks + l.counter ≡ length l.initial.self.blocks)
    × (length l.other.blocks ≡ length l.initial.other.blocks + l.counter)
    × (l.self.made ≡ l.initial.self.made) × (l.other.made ≡ l.initial.other.made)
    × MovesLast l.initial.self l.self l.initial.other l.other
    × (l.self.taken ≡ l.initial.self.taken) × (l.other.taken ≡ l.initial.other.taken)
    × ((h : SoleState → ℕ) → sum_by h l.self.blocks + sum_by h l.other.blocks ≡ sum_by h l.initial.self.blocks + sum_by h l.initial.other.blocks)
