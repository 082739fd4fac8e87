use Rattle.taps.specs.Clones.{of_clones}
use Rattle.lanes.specs.Lanes.{of_lanes}
use Rattle.rounds.proofs.Coming.{and_first, and_rest, and_comes}
use Rattle.rounds.proofs.round_home.bring_work.Goals as goal

pub bring_lanes-requires-clause-may : goal.bring_lanes-requires-clause-may
bring_lanes-requires-clause-may c = and_first (of_lanes c.args.lanes.now) (of_clones c.args.clones.items) c.args.pool.now c.args.places.now c.requires.may

pub bring_clones-requires-clause-may : goal.bring_clones-requires-clause-may
bring_clones-requires-clause-may c =
    let l = c.bring_lanes in
    and_rest (of_lanes c.args.lanes.now) (of_clones c.args.clones.items) c.args.pool.now l.new.pool c.args.places.now l.new.places c.requires.may l.ensures.comes

pub returns-clause-comes : goal.returns-clause-comes
returns-clause-comes c =
    let l = c.bring_lanes in
    let k = c.bring_clones in
    and_comes (of_lanes c.args.lanes.now) (of_clones c.args.clones.items) c.args.pool.now l.new.pool k.new.pool c.args.places.now l.new.places k.new.places c.requires.may l.ensures.comes k.ensures.comes
