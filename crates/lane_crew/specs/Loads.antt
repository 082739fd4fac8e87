-- What a lane's task carries: the lane at its place among those of its kind, how it is worked, and what gives blocks
-- back once it is.
use Rattle.std.specs.Prelude.{ℕ, Option, List}
use Rattle.tap_filter.specs.declared.instr.Instr.{Instr}
use Rattle.block_pool.specs.Giving.{GiverState}
use Rattle.lanes.specs.declared.lane.QueueLane.{QueueLane}
use Rattle.lanes.specs.declared.lane.TapLane.{TapLane}
use Rattle.lane_crew.specs.declared.loads.QueueLoad.{QueueLoad}
use Rattle.lane_crew.specs.declared.loads.TapLoad.{TapLoad}

abbrev pub queue_load : ℕ → QueueLane → ℕ → Option GiverState → QueueLoad
queue_load at lane segs giver = record { at = at; lane = lane; segs = segs; giver = giver }

abbrev pub tap_load : ℕ → TapLane → ℕ → Option (List Instr) → Option GiverState → TapLoad
tap_load at lane snap filter giver = record { at = at; lane = lane; snap = snap; filter = filter; giver = giver }
