use Rattle.std.proofs.Common.{◌≡◌, ◌≤◌, Some, length, arith, sym, subst}
use Rattle.frame_layout.specs.Shape.{Layout}
use Rattle.pcap_io.specs.Capture.{Packet}
use Rattle.merge_rule.proofs.Knows.{next_within}
use Rattle.frame_runs.specs.declared.run.Run.{Run}
use Rattle.frame_runs.specs.Engine.{TakesOne}
use Rattle.frame_runs.proofs.Running.{in_head, known, placed, sums, first_in_head, head_of}
use Rattle.merge_rule.specs.Runs.{IsNextProgress}
use Rattle.frame_runs.proofs.run.Run.progress_with.Goals as goal

there : (item : Run) (first next : Packet) (layout : Layout) → item.layout ≡ Some layout → TakesOne item first next
    → layout.payload_at ≤ length next.frame
there item first next layout is t =
    next_within first next t.0 layout item.payload item.flags item.progress
    (known item first t.0 layout is t.1.0) t.1.1

pub next_progress-requires-clause-placed : goal.next_progress-requires-clause-placed
next_progress-requires-clause-placed g c = placed c.args.self.now (g.F.Frame.packet c.args.first.now) c.requires.takes.0 c.in-Some.layout c.in-Some.is c.requires.takes.1.0

pub next_progress-requires-clause-first : goal.next_progress-requires-clause-first
next_progress-requires-clause-first g c = first_in_head c.args.self.now (g.F.Frame.packet c.args.first.now) c.requires.takes.0 c.in-Some.layout c.in-Some.is c.requires.takes.1.0 c.head.result.now c.head.ensures.front

pub next_progress-requires-clause-next : goal.next_progress-requires-clause-next
next_progress-requires-clause-next g c =
    in_head c.head-in-Some.result.now (g.F.Frame.packet c.args.next.now).frame c.in-Some.layout.payload_at c.head-in-Some.ensures.front
    (sums c.args.self.now (g.F.Frame.packet c.args.first.now) c.requires.takes.0 c.in-Some.layout c.in-Some.is c.requires.takes.1.0).2
    (there c.args.self.now (g.F.Frame.packet c.args.first.now) (g.F.Frame.packet c.args.next.now) c.in-Some.layout c.in-Some.is c.requires.takes)

pub next_progress-requires-clause-there : goal.next_progress-requires-clause-there
next_progress-requires-clause-there g c =
    omega (arith, there c.args.self.now (g.F.Frame.packet c.args.first.now) (g.F.Frame.packet c.args.next.now) c.in-Some.layout c.in-Some.is c.requires.takes, c.len-next_len.ensures.len)

pub next_progress-requires-clause-total : goal.next_progress-requires-clause-total
next_progress-requires-clause-total g c =
    let b = sums c.args.self.now (g.F.Frame.packet c.args.first.now) c.requires.takes.0 c.in-Some.layout c.in-Some.is c.requires.takes.1.0 in
    omega (arith, b.1, b.2, c.len-next_len.ensures.len, c.len-next_len.ensures.short)

pub returns-in-Some : goal.returns-in-Some
returns-in-Some g c =
    let run : Run = c.args.self.now in
    let p : Packet = g.F.Frame.packet c.args.first.now in
    let x : Packet = g.F.Frame.packet c.args.next.now in
    record {
      progress = subst (λ z. IsNextProgress z p.frame run.more x.frame run.progress c.next_progress.result) (sym c.in-Some.is)
          (c.next_progress.ensures.progress p.frame x.frame (head_of c.head.result.now p.frame c.len-first_len.result c.head.ensures.front c.len-first_len.ensures.len)
          (head_of c.head-in-Some.result.now x.frame c.len-next_len.result c.head-in-Some.ensures.front c.len-next_len.ensures.len));
    }
