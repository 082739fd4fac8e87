use Rattle.std.proofs.Common.{◌∙◌, subst}
use Rattle.lanes.specs.Lanes.{DidTap}
use Rattle.lane_crew.specs.declared.loads.TapLoad.{TapLoad}
use Rattle.lane_crew.proofs.tasks.WatchTask.run.Goals as goal

pub returns-clause-did : goal.returns-clause-did
returns-clause-did g c =
    let own = c.deref_mut-own.result.now in
    subst (λ (z : TapLoad). DidTap z.filter z.snap z.lane c.watch.new.lane) (c.deref_mut-own.ensures.value ∙ c.self.view_is)
    (subst (λ z. DidTap z own.snap own.lane c.watch.new.lane) c.program_in.ensures.same c.watch.ensures.did)
