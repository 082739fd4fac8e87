use Rattle.std.proofs.Common.{length}
use Rattle.std.specs.Prelude.{Option}
use Rattle.block_pool.specs.Giving.{GiverState}
use Rattle.std.specs.List.{AllByRecursion}
use Rattle.lanes.specs.declared.lane.Lanes.{Lanes}
use Rattle.lanes.specs.declared.plan.LanePlan.{LanePlan}
use Rattle.lane_crew.specs.Givers.{carried, Divided}
use Rattle.lane_crew.specs.Tasks.{Away, IsPlaced}
use Rattle.lane_crew.proofs.away.work_here.Given as goal

abbrev pub invariant-loop-task : goal.invariant-loop-task
invariant-loop-task g l = record {
  places : AllByRecursion (IsPlaced l.lanes) l.tasks.items;
  back : (plan : LanePlan) (old : Lanes) → Away plan old l.fn.lanes l.fn.tasks.items → Away plan old l.lanes l.tasks.items;
  taken : (old : Option GiverState) → Divided old l.fn.giver (carried l.fn.tasks.items) → Divided old l.giver (carried l.tasks.items);
}

abbrev pub decreases-loop-task : goal.decreases-loop-task
decreases-loop-task g l = length l.tasks.items
