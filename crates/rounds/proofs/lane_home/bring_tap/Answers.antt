use Rattle.frags.specs.Account.{of_outcomes}
use Rattle.taps.specs.Clones.{of_clones}
use Rattle.rounds.proofs.Coming.{and_rest, and_comes, and_first, nothing_comes}
use Rattle.rounds.proofs.LaneCounts.{no_clones}
use Rattle.rounds.proofs.lane_home.bring_tap.Goals as goal

pub sweep-requires : goal.sweep-requires
sweep-requires c =
    let cs = of_clones c.args.lane.now.clones.items in
    let o = of_outcomes c.args.lane.now.outcomes in
    let p = c.args.pool.now in
    let t = c.args.places.now in
    record { may = and_rest cs o p p t t c.requires.may (nothing_comes cs p t (no_clones c.args.lane.now.clones.items c.requires.spent) (and_first cs o p t c.requires.may)) }

pub returns-clause-comes : goal.returns-clause-comes
returns-clause-comes c =
    let cs = of_clones c.args.lane.now.clones.items in
    let o = of_outcomes c.args.lane.now.outcomes in
    let p = c.args.pool.now in
    let t = c.args.places.now in
    let b = c.sweep in
    and_comes cs o p p b.new.pool t t b.new.places c.requires.may (nothing_comes cs p t (no_clones c.args.lane.now.clones.items c.requires.spent) (and_first cs o p t c.requires.may)) b.ensures.comes
