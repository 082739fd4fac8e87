use Rattle.block_pool.proofs.Giving.{may_give_twice, leaves_none_behind}
use Rattle.lane_crew.proofs.crew.LaneCrewWorks.run_lanes.Goals as goal

pub returns-else-count_to_share-lt2-clause-gave : goal.returns-else-count_to_share-lt2-clause-gave
returns-else-count_to_share-lt2-clause-gave g c = may_give_twice c.args.giver.now c.run_by_tasks.new.giver c.give_back.new.giver c.run_by_tasks.ensures.gave c.give_back.ensures.gave

pub returns-else-count_to_share-lt2-clause-none_left : goal.returns-else-count_to_share-lt2-clause-none_left
returns-else-count_to_share-lt2-clause-none_left g c = λ gives.
    leaves_none_behind c.args.giver.now c.run_by_tasks.new.giver c.give_back.new.giver c.run_by_tasks.ensures.gave c.give_back.ensures.none_left
