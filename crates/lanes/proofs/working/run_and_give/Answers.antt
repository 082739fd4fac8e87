use Rattle.lanes.proofs.Worked.{did_all}
use Rattle.lanes.proofs.working.run_and_give.Goals as goal

pub returns-clause-did : goal.returns-clause-did
returns-clause-did g c =
    did_all c.args.plan.now c.args.lanes.now c.deref_mut.result.now c.work_and_give.new.queues c.deref_mut-2.result.now c.watch_in_turn.new.taps c.deref_mut.ensures.value c.deref_mut-2.ensures.value
    c.work_and_give.auto.queues c.watch_in_turn.auto.taps c.work_and_give.ensures.did c.watch_in_turn.ensures.did
