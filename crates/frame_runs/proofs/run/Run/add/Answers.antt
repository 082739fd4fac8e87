use Rattle.std.proofs.Common.{◌∷◌, [], sym, arith, length-append}
use Rattle.pcap_io.specs.Capture.{Packet}
use Rattle.merge_rule.proofs.Knows.{sums_short, grown_by}
use Rattle.frame_runs.specs.declared.run.Run.{Run}
use Rattle.frame_runs.proofs.Running.{few_more}
use Rattle.frame_runs.proofs.run.Run.add.Goals as goal

pub joined-payload-requires : goal.joined-payload-requires
joined-payload-requires g c =
    let r : Run = c.args.self.now in
    record {
      few = sums_short (g.F.Frame.packet c.args.first.now) (g.F.Frame.packet c.args.next.now) c.requires.takes.0 r.layout c.requires.added.0 r.payload
          c.args.addition.now.payload r.flags c.args.addition.now.flags r.progress c.requires.takes.1.0.is c.requires.takes.1.1 c.requires.added.1 (omega (arith, c.len.ensures.len, c.len.ensures.short));
    }

pub overflow_add-self : goal.overflow_add-self
overflow_add-self g c = omega (arith, few_more c.args.self.now (g.F.Frame.packet c.args.first.now) c.requires.takes.0 c.requires.takes.1.0)

pub returns-clause-knows : goal.returns-clause-knows
returns-clause-knows g c =
    let r : Run = c.args.self.now in
    let p : Packet = g.F.Frame.packet c.args.first.now in
    let x : Packet = g.F.Frame.packet c.args.next.now in
    λ rest k m. record {
      is = grown_by p x rest r.layout c.requires.added.0 r.payload c.args.addition.now.payload c.joined-payload.result r.flags
          c.args.addition.now.flags r.progress c.progress_with-progress.result r.more (sym k.more) k.is m c.joined-payload.ensures.sum c.requires.added.1 c.progress_with-progress.ensures.progress;
      more = omega (arith, k.more, length-append rest (x ∷ []));
    }
