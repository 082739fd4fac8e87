use Rattle.std.proofs.Common.{ap, arith, length, refl, subst, sym}
use Rattle.block_pool.specs.PoolState.{weighed}
use Rattle.rounds.specs.Filling.{reached}
use Rattle.rounds.specs.RoundOf.{brought_by, TakesBlocks}
use Rattle.rounds.specs.RoundsState.{RoundState}
use Rattle.rounds.proofs.Pausing.{stands_begun}
use Rattle.ahead.proofs.Beside.{ahead_round, came_ahead, came_none, fills_ahead, lacks_ahead, refused_ahead, unread_ahead}
use Rattle.ahead.proofs.ahead.read_next.Goals as goal

pub returns-in-Err-clause-reads : goal.returns-in-Err-clause-reads
returns-in-Err-clause-reads g c =
    let n = c.read_none in
    let i = c.args.intake.now in
    let e = n.ensures in
    record {
      fills = unread_ahead i.blocks i.budget (reached g.S.Source.left g.S.Source.faults c.args.reader.now) n.result e.none.0 e.none.2 e.end;
      paused = tt;
      refused = tt;
      came = came_none (brought_by g.H.Supply.weights g.H.Supply.refusals c.args.more.now) i n.result.round e.none.0 e.none.1 e.none.2;
      same = (refl, refl, refl, refl);
      budget = e.budget;
      takes = record { within = omega (arith, e.none.2); taken = omega (arith, e.none.2); least = (omega arith, omega arith); most = omega arith };
    }

pub read-halt-requires-clause-stands : goal.read-halt-requires-clause-stands
read-halt-requires-clause-stands g c =
    let here = reached g.S.Source.left g.S.Source.faults c.args.reader.now in
    (here, (here.place, stands_begun _ here c.in-Ok.reading c.requires.ready c.in-Ok.ensures.begun))

pub read-halt-requires-clause-fewer : goal.read-halt-requires-clause-fewer
read-halt-requires-clause-fewer g c = omega (arith, ap length c.in-Ok.ensures.begun.none, c.begin.ensures.budget.0)

pub of-requires : goal.of-requires
of-requires g c = record { kept = λ lacks. let l = c.read-halt.ensures.grows.lacks lacks in (l.0, l.1) }

pub returns-clause-reads : goal.returns-clause-reads
returns-clause-reads g c =
    let r = c.read-halt in
    let e = r.ensures in
    let i = c.args.intake.now in
    let begun = c.in-Ok.ensures.begun in
    let is = c.of.ensures.is in
    let same = ahead_round r.new.round r.result c.of.result is in
    let here = reached g.S.Source.left g.S.Source.faults c.args.reader.now in
    record {
      fills = fills_ahead i.blocks i.budget here (reached g.S.Source.left g.S.Source.faults r.new.reader) r.new.round r.result c.of.result is
          (e.fills here here.place (stands_begun _ here c.in-Ok.reading c.requires.ready begun)) e.grows.size e.grows.fewer e.captured e.need;
      paused = lacks_ahead r.new.round r.result c.of.result is begun.empty e.grows;
      refused = refused_ahead r.new.round r.result c.of.result is e.refused;
      came = came_ahead (brought_by g.H.Supply.weights g.H.Supply.refusals c.args.more.now) (brought_by g.H.Supply.weights g.H.Supply.refusals r.new.more) _ (length i.stock) (length r.new.self.stock)
          (λ h. weighed h i.stock) (λ h. weighed h r.new.self.stock) c.in-Ok.reading r.new.round.round _ begun same e.came;
      same = e.same;
      budget = e.budget;
      takes = subst (λ (x : RoundState). TakesBlocks i.blocks i.taken r.new.self.taken 0 x.blocks) (sym same)
          (subst (λ n. TakesBlocks i.blocks i.taken r.new.self.taken n r.new.round.round.blocks) begun.empty e.grows.takes);
    }
