use Rattle.std.proofs.Common.{List, ℕ, ap, subst}
use Rattle.std.specs.Prelude.{OnErr}
use Rattle.off_io.specs.Content.{AppendsPrefix}
use Rattle.rounds.specs.Lanes.{worked_bytes}
use Rattle.rounds.proofs.bench.Bench.write_round.Goals as goal

pub returns-clause-err : goal.returns-clause-err
returns-clause-err g c =
    let order = c.args.file.now.order in
    subst (λ (z : List ℕ). OnErr c.write_lanes.result (AppendsPrefix (g.K.Sink.held c.args.sink.now) (g.K.Sink.held c.write_lanes.new.sink) z))
    (ap (worked_bytes order) c.worked.view_is) c.write_lanes.ensures.err
