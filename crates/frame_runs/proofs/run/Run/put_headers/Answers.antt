use Rattle.std.proofs.Common.{◌∙◌}
use Rattle.frame_runs.proofs.Running.{first_in_head}
use Rattle.frame_runs.proofs.RunItems.{place, is_laid, is_in_range, frame_by, begins_with}
use Rattle.frame_runs.proofs.run.Run.put_headers.Goals as goal

pub fill_headers-requires-clause-laid : goal.fill_headers-requires-clause-laid
fill_headers-requires-clause-laid g c = is_laid c.args.self.now (g.F.Frame.packet c.args.first.now) c.requires.run.0 c.requires.run.1 c.in-Some.layout c.in-Some.is

pub fill_headers-requires-clause-inside : goal.fill_headers-requires-clause-inside
fill_headers-requires-clause-inside g c =
    first_in_head c.args.self.now (g.F.Frame.packet c.args.first.now) c.requires.run.0 c.in-Some.layout c.in-Some.is c.requires.run.1 c.head.result.now c.head.ensures.front

pub fill_headers-requires-clause-size : goal.fill_headers-requires-clause-size
fill_headers-requires-clause-size g c = c.requires.size ∙ place c.args.self.now (g.F.Frame.packet c.args.first.now) c.requires.run.0 c.requires.run.1 c.in-Some.layout c.in-Some.is

pub fill_headers-requires-clause-ranges : goal.fill_headers-requires-clause-ranges
fill_headers-requires-clause-ranges g c = is_in_range c.args.self.now (g.F.Frame.packet c.args.first.now) c.requires.run.0 c.requires.run.1 c.in-Some.layout c.in-Some.is

pub returns-clause-frame : goal.returns-clause-frame
returns-clause-frame g c = λ rest k.
    let has = first_in_head c.args.self.now (g.F.Frame.packet c.args.first.now) rest c.in-Some.layout c.in-Some.is k c.head.result.now c.head.ensures.front in
    frame_by c.args.self.now (g.F.Frame.packet c.args.first.now) rest k c.in-Some.layout c.in-Some.is c.requires.several c.fill_headers.new.headers c.head.result.now
    (begins_with c.head.result.now (g.F.Frame.packet c.args.first.now).frame c.in-Some.layout.payload_at c.head.ensures.front has) c.fill_headers.ensures.merged
