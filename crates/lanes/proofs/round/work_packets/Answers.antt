use Rattle.std.proofs.Common.{ap, ◌∙◌}
use Rattle.gro.specs.Packets.{PacketsState}
use Rattle.lanes.proofs.Whole.{fills_after, of_packets_after}
use Rattle.lanes.proofs.round.work_packets.Goals as goal

pub finish-requires : goal.finish-requires
finish-requires g c = record {
  theirs =
      of_packets_after c.args.shared c.args.plan.now c.args.packets.now.items c.begin.new.packets.items c.begin.new.lanes c.run_lanes.new.lanes c.in_ok-begin.ensures.all c.in_ok-begin.ensures.filled c.run_lanes.ensures.did;
}

pub returns-clause-kept : goal.returns-clause-kept
returns-clause-kept g c =
    let old = c.args.packets.now.items in
    let ended = c.finish.ensures.ended c.args.shared c.args.plan.now old c.begin.new.lanes c.in_ok-begin.ensures.filled c.run_lanes.ensures.did in
    let none = ap (λ (t : PacketsState). t.items) c.finish.ensures.packets ∙ c.in_ok-begin.ensures.all in
    (fills_after c.finish.result c.args.shared c.args.plan.now old c.finish.new.packets.items c.finish.new.lanes none ended).kept

pub returns-clause-count : goal.returns-clause-count
returns-clause-count g c =
    let old = c.args.packets.now.items in
    let ended = c.finish.ensures.ended c.args.shared c.args.plan.now old c.begin.new.lanes c.in_ok-begin.ensures.filled c.run_lanes.ensures.did in
    let none = ap (λ (t : PacketsState). t.items) c.finish.ensures.packets ∙ c.in_ok-begin.ensures.all in
    (fills_after c.finish.result c.args.shared c.args.plan.now old c.finish.new.packets.items c.finish.new.lanes none ended).count

pub returns-clause-blocks : goal.returns-clause-blocks
returns-clause-blocks g c =
    let old = c.args.packets.now.items in
    let ended = c.finish.ensures.ended c.args.shared c.args.plan.now old c.begin.new.lanes c.in_ok-begin.ensures.filled c.run_lanes.ensures.did in
    let none = ap (λ (t : PacketsState). t.items) c.finish.ensures.packets ∙ c.in_ok-begin.ensures.all in
    (fills_after c.finish.result c.args.shared c.args.plan.now old c.finish.new.packets.items c.finish.new.lanes none ended).blocks

pub returns-clause-named : goal.returns-clause-named
returns-clause-named g c =
    let old = c.args.packets.now.items in
    let ended = c.finish.ensures.ended c.args.shared c.args.plan.now old c.begin.new.lanes c.in_ok-begin.ensures.filled c.run_lanes.ensures.did in
    let none = ap (λ (t : PacketsState). t.items) c.finish.ensures.packets ∙ c.in_ok-begin.ensures.all in
    (fills_after c.finish.result c.args.shared c.args.plan.now old c.finish.new.packets.items c.finish.new.lanes none ended).named

pub returns-clause-alone : goal.returns-clause-alone
returns-clause-alone g c =
    let old = c.args.packets.now.items in
    let ended = c.finish.ensures.ended c.args.shared c.args.plan.now old c.begin.new.lanes c.in_ok-begin.ensures.filled c.run_lanes.ensures.did in
    let none = ap (λ (t : PacketsState). t.items) c.finish.ensures.packets ∙ c.in_ok-begin.ensures.all in
    (fills_after c.finish.result c.args.shared c.args.plan.now old c.finish.new.packets.items c.finish.new.lanes none ended).unshared.alone

pub returns-clause-idle : goal.returns-clause-idle
returns-clause-idle g c =
    let old = c.args.packets.now.items in
    let ended = c.finish.ensures.ended c.args.shared c.args.plan.now old c.begin.new.lanes c.in_ok-begin.ensures.filled c.run_lanes.ensures.did in
    let none = ap (λ (t : PacketsState). t.items) c.finish.ensures.packets ∙ c.in_ok-begin.ensures.all in
    (fills_after c.finish.result c.args.shared c.args.plan.now old c.finish.new.packets.items c.finish.new.lanes none ended).unshared.idle
