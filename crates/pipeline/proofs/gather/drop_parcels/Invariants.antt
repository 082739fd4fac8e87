use Rattle.std.proofs.Common.{◌≡◌, ℕ, ◌+◌, length}
use Rattle.rtrb.specs.Ring.{known_items}
use Rattle.block_pool.specs.PoolState.{weighed}
use Rattle.pipeline.specs.Parcels.{blocks_sent, weights_sent}
use Rattle.pipeline.proofs.gather.drop_parcels.Given as goal

abbrev pub invariant-loop-from : goal.invariant-loop-from
invariant-loop-from g l =
    (l.rounds ≡ record l.initial.rounds { stock = l.rounds.stock })
    × (length l.rounds.stock + blocks_sent (known_items l.from) ≡ length l.initial.rounds.stock + blocks_sent (known_items l.initial.from))
    × ((h : ℕ → ℕ) → weighed h l.rounds.stock + weights_sent h (known_items l.from) ≡ weighed h l.initial.rounds.stock + weights_sent h (known_items l.initial.from))

abbrev pub decreases-loop-from : goal.decreases-loop-from
decreases-loop-from g l = length (known_items l.from)
