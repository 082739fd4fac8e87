use Rattle.std.proofs.Common.{sym, subst}
use Rattle.std.specs.List.{AllByRecursion}
use Rattle.lane_crew.specs.Givers.{carried, Divided}
use Rattle.lane_crew.specs.Tasks.{Away, IsPlaced}
use Rattle.lane_crew.proofs.Dividing.{divided_did, gave_all}
use Rattle.lane_crew.proofs.Returning.{places_did, placed_away}
use Rattle.lane_crew.proofs.crew.run_by_tasks.Goals as goal

pub bring_back-requires : goal.bring_back-requires
bring_back-requires g c =
    let now = c.send_all.new.lanes in
    let ts = c.send_all.new.tasks.items in
    let ds = c.do_tasks.new.done.items in
    record {
      places = places_did now ts ds c.in-Ok.ensures.did (placed_away c.args.plan.now c.args.lanes.now now ts c.send_all.ensures.away);
      may = (c.args.giver.now, divided_did c.args.giver.now c.send_all.new.giver ts ds c.in-Ok.ensures.did c.send_all.ensures.divided);
    }

pub work_here-requires : goal.work_here-requires
work_here-requires g c =
    let now = c.send_all.new.lanes in
    let ts = c.send_all.new.tasks.items in
    record {
      places = subst (AllByRecursion (IsPlaced now)) (sym c.in-Err.ensures.refused.0) (placed_away c.args.plan.now c.args.lanes.now now ts c.send_all.ensures.away);
      may = (c.args.giver.now, subst (λ z. Divided c.args.giver.now c.send_all.new.giver (carried z)) (sym c.in-Err.ensures.refused.0) c.send_all.ensures.divided);
    }

pub returns-in-Ok-clause-did : goal.returns-in-Ok-clause-did
returns-in-Ok-clause-did g c = c.bring_back.ensures.did c.args.plan.now c.args.lanes.now c.send_all.new.tasks.items c.in-Ok.ensures.did c.send_all.ensures.away

pub returns-in-Err-clause-did : goal.returns-in-Err-clause-did
returns-in-Err-clause-did g c =
    c.work_here.ensures.did c.args.plan.now c.args.lanes.now (subst (Away c.args.plan.now c.args.lanes.now c.send_all.new.lanes) (sym c.in-Err.ensures.refused.0) c.send_all.ensures.away)

pub returns-in-Ok-clause-gave : goal.returns-in-Ok-clause-gave
returns-in-Ok-clause-gave g c =
    let old = c.args.giver.now in
    gave_all old c.bring_back.new.giver
    (c.bring_back.ensures.back old (divided_did old c.send_all.new.giver c.send_all.new.tasks.items c.do_tasks.new.done.items c.in-Ok.ensures.did c.send_all.ensures.divided))

pub returns-in-Err-clause-gave : goal.returns-in-Err-clause-gave
returns-in-Err-clause-gave g c =
    let old = c.args.giver.now in
    gave_all old c.work_here.new.giver
    (c.work_here.ensures.back old (subst (λ z. Divided old c.send_all.new.giver (carried z)) (sym c.in-Err.ensures.refused.0) c.send_all.ensures.divided))
