use Rattle.std.proofs.Common.{refl}
use Rattle.rounds.specs.Merging.{options_of}
use Rattle.rounds.specs.Reads.{reader_at}
use Rattle.checking.proofs.Counted.{all_checked}
use Rattle.checking.proofs.RoundsCounted.{start_lanes, start_within}
use Rattle.checking_beside.proofs.checked.check_beside.Goals as goal

pub returns-clause-checked : goal.returns-clause-checked
returns-clause-checked g c =
    all_checked c.args.rounds.now c.handle_beside.new.rounds (reader_at g.S.Source.left g.S.Source.faults c.args.reader.now c.args.rounds.now.taken)
    (reader_at g.S.Source.left g.S.Source.faults c.handle_beside.new.reader c.handle_beside.new.rounds.taken)
    c.args.totals.now c.handle_beside.new.into c.handle_beside.result refl refl c.requires.start
    c.handle_beside.ensures.handled

pub returns-clause-gives : goal.returns-clause-gives
returns-clause-gives g c = c.handle_beside.ensures.handled.rests.gives

pub handle_beside-requires-clause-start : goal.handle_beside-requires-clause-start
handle_beside-requires-clause-start g c κs within =
    let o = options_of c.args.rounds.now in
    (c.requires.keep, start_lanes o c.args.totals.now c.requires.start, start_within o 0 c.args.totals.now c.requires.start)
