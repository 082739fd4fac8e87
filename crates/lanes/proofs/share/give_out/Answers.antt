use Rattle.std.proofs.Common.{◌≡◌, List, [], length, set, sym, subst, ◌∙◌, arith}
use Rattle.gro.specs.declared.slot.Slot.{Slot as Held}
use Rattle.lanes.specs.Filling.{SharesOut}
use Rattle.lanes.specs.Work.{spread_of}
use Rattle.lanes.proofs.Planned.{spread_below}
use Rattle.lanes.proofs.Sharing.{alone_had, shares_alone}
use Rattle.lanes.proofs.share.give_out.Goals as goal

pub returns-then-plan-eq1-clause-shares : goal.returns-then-plan-eq1-clause-shares
returns-then-plan-eq1-clause-shares c =
    let plan = c.args.plan.now in
    let open' = c.requires.lanes in
    let ps = c.args.packets.now.items in
    let ls = c.args.lanes.now in
    let d = c.index-lanes-0.result in
    let m = c.give_all.new.lane in
    let n = spread_of plan in
    let one : length ls ≡ 1 = omega (arith, open'.queues, c.if-plan-eq1.true) in
    let none : c.give_all.new.packets.items ≡ [] = c.give_all.ensures.list ∙ alone_had ls d one c.requires.idle in
    subst (λ (z : List Held). SharesOut n ps z ls (set ls 0 m)) (sym none)
    (shares_alone n ps ls d m one (λ key. omega (arith, spread_below plan key open'.plan, c.if-plan-eq1.true)) c.give_all.ensures.given open'.empty)

pub returns-then-plan-eq1-clause-all : goal.returns-then-plan-eq1-clause-all
returns-then-plan-eq1-clause-all c =
    let ls = c.args.lanes.now in
    let one : length ls ≡ 1 = omega (arith, c.requires.lanes.queues, c.if-plan-eq1.true) in
    c.give_all.ensures.list ∙ alone_had ls c.index-lanes-0.result one c.requires.idle
