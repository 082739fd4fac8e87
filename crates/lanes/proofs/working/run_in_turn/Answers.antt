use Rattle.lanes.proofs.Worked.{did_all}
use Rattle.lanes.proofs.working.run_in_turn.Goals as goal

pub returns : goal.returns
returns g c = record {
  did = did_all c.args.plan.now c.args.lanes.now c.deref_mut.result.now c.work_in_turn.new.queues c.deref_mut-2.result.now c.watch_in_turn.new.taps c.deref_mut.ensures.value c.deref_mut-2.ensures.value
      c.work_in_turn.auto.queues c.watch_in_turn.auto.taps c.work_in_turn.ensures.did c.watch_in_turn.ensures.did;
}
