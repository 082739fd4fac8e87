use Rattle.std.proofs.Common.{◌≡◌, true, false, map, sym, ◌∙◌}
use Rattle.frame_runs.proofs.Merging.{found_inside}
use Rattle.frame_runs.proofs.engine.Engine.place.Goals as goal

pub takes_at-requires-clause-inside : goal.takes_at-requires-clause-inside
takes_at-requires-clause-inside g c =
    found_inside (map g.F.Frame.packet c.args.packets.now) c.args.self.now _ c.in-Some.found c.requires.runs.index (sym c.find.ensures.place ∙ c.in-Some.is)

pub grow-requires-clause-mergeable : goal.grow-requires-clause-mergeable
grow-requires-clause-mergeable g c = (c.takes_at.ensures.takes.0 c.if-takes_at.true).0

pub returns-in_default : goal.returns-in_default
returns-in_default g c = record { takes = c.begin.ensures.takes c.args.limits }

pub returns-then-takes_at : goal.returns-then-takes_at
returns-then-takes_at g c = record { takes = c.grow.ensures.takes c.args.limits (c.takes_at.ensures.takes.0 c.if-takes_at.true) }

pub returns : goal.returns
returns g c = record {
  takes = c.follow.ensures.takes c.args.limits (λ m. let t : false ≡ true = sym c.if-takes_at.false ∙ c.takes_at.ensures.takes.1 m in cc);
}
