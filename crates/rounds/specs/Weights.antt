-- What the blocks of a round weigh together, each by its name: where this stays, whatever each name weighs, it has the
-- same blocks.
use Rattle.std.specs.Prelude.{ℕ, ◌+◌}
use Rattle.block_pool.specs.PoolState.{weighed}
use Rattle.gro.specs.Slots.{weighed_slots}
use Rattle.lanes.specs.Lanes.{weighed_queues}
use Rattle.rounds.specs.RoundsState.{RoundState, WorkedState, RestState}

abbrev pub weights_of : RoundState → (ℕ → ℕ) → ℕ
weights_of r h = weighed_slots h r.packets + weighed h r.spares

-- of one that was worked: its packets lie in the queues' lanes until it ends
abbrev pub weights_worked : WorkedState → (ℕ → ℕ) → ℕ
weights_worked w h = weighed_queues h w.lanes.queues.items + weighed h w.spares

abbrev pub weights_left : RestState → (ℕ → ℕ) → ℕ
weights_left r h = weighed_slots h r.packets + weighed_queues h r.lanes.queues.items + weighed h r.spares
