use Rattle.std.proofs.Common.{◌∙◌, sym, arith}
use Rattle.rounds.specs.Merging.{options_of}
use Rattle.rounds.specs.Reads.{reader_at}
use Rattle.pipeline.specs.Handled.{IsFirstOut}
use Rattle.rounds.proofs.Going.{ready_as}
use Rattle.pipeline.proofs.Together.{all_handled}
use Rattle.pipeline.proofs.drive.handle_by.Given as given
use Rattle.pipeline.proofs.drive.handle_by.Goals as goal
use Rattle.pipeline.proofs.drive.handle_by.Goals.{After-read_round-read}

first_out : (g : given.Over) (c : After-read_round-read g)
    → IsFirstOut (g.H.RoundHandler.ready (options_of c.read_round-read.new.self) c.read_round-read.new.self.keep) c.read_round-read.new.self c.read_round-read.result c.read_round-read.new.reader.place c.args.into.now
first_out g c =
    let r = c.read_round-read.ensures in
    let first = c.args.rounds.now in
    let mid = c.read_round-read.new.self in
    record {
      out = omega (arith, r.home, r.same.0);
      is = record { few = omega (arith, r.read.size, r.budget.1); captured = r.read.captured; numbers = (c.args.reader.now.place.number, r.read.numbers) };
      goes = λ full.
          let p = r.read.full full in
          record { ready = p.ready; link = p.link ∙ c.requires.may.link; packets = omega (arith, p.number, p.full); counted = omega (arith, p.number, r.budget.0) };
      start = ready_as (g.H.RoundHandler.did c.args.handler.now) g.H.RoundHandler.stopped g.H.RoundHandler.ready (options_of mid) (options_of first) mid.keep first.keep 0 c.args.into.now (sym r.same.1)
          (sym r.same.2) c.requires.may.start;
    }

pub handle_on-requires-clause-out : goal.handle_on-requires-clause-out
handle_on-requires-clause-out g c κs within = first_out g (goal.at.handle_on-requires-clause-out g c).After-read_round-read

pub returns-then-is_shared-clause-handled : goal.returns-then-is_shared-clause-handled
returns-then-is_shared-clause-handled g c =
    let r = c.read_round-read.ensures in
    all_handled (g.H.RoundHandler.did c.args.handler.now) g.H.RoundHandler.stopped g.H.RoundHandler.ready c.args.rounds.now c.read_round-read.new.self c.handle_on.new.rounds c.read_round-read.result
    _ _ (reader_at g.S.Source.left g.S.Source.faults c.handle_on.new.reader c.handle_on.new.rounds.taken) c.args.into.now c.handle_on.new.into c.handle_on.result
    r.read r.same r.counts r.least r.named c.handle_on.ensures.handled

pub handle_here-requires : goal.handle_here-requires
handle_here-requires g c = record { out = first_out g (goal.at.handle_here-requires g c).After-read_round-read }

pub returns-else-is_shared-clause-handled : goal.returns-else-is_shared-clause-handled
returns-else-is_shared-clause-handled g c =
    let r = c.read_round-read.ensures in
    all_handled (g.H.RoundHandler.did c.args.handler.now) g.H.RoundHandler.stopped g.H.RoundHandler.ready c.args.rounds.now c.read_round-read.new.self c.handle_here.new.rounds c.read_round-read.result
    _ _ (reader_at g.S.Source.left g.S.Source.faults c.handle_here.new.reader c.handle_here.new.rounds.taken) c.args.into.now c.handle_here.new.into c.handle_here.result
    r.read r.same r.counts r.least r.named c.handle_here.ensures.handled
