use Rattle.std.proofs.Common.{List, length}
use Rattle.std.specs.Prelude.{Option}
use Rattle.block_pool.specs.Giving.{GiverState}
use Rattle.std.specs.List.{AllByRecursion}
use Rattle.errands.specs.Answers.{EachDid}
use Rattle.lanes.specs.declared.lane.Lanes.{Lanes}
use Rattle.lanes.specs.declared.plan.LanePlan.{LanePlan}
use Rattle.lane_crew.specs.declared.tasks.LaneTask.{LaneTask}
use Rattle.lane_crew.specs.Givers.{returned, Divided}
use Rattle.lane_crew.specs.Tasks.{DidLane, Away, HasPlace}
use Rattle.lane_crew.proofs.Returning.{Answered}
use Rattle.lane_crew.proofs.away.bring_back.Given as goal

abbrev pub invariant-loop-answer : goal.invariant-loop-answer
invariant-loop-answer g l = record {
  places : AllByRecursion (HasPlace l.lanes) l.done.items;
  back : (plan : LanePlan) (old : Lanes) (ts : List LaneTask) → EachDid DidLane ts l.fn.done.items → Away plan old l.fn.lanes ts → Answered plan old l.lanes l.done.items;
  taken : (old : Option GiverState) → Divided old l.fn.giver (returned l.fn.done.items) → Divided old l.giver (returned l.done.items);
}

abbrev pub decreases-loop-answer : goal.decreases-loop-answer
decreases-loop-answer g l = length l.done.items
