use Rattle.std.proofs.Common.{subst}
use Rattle.pcap_io.specs.Capture.{Packet}
use Rattle.merge_rule.specs.Runs.{IsJudged}
use Rattle.frame_runs.proofs.engine.Engine.receive_apart.Goals as goal

pub returns-then-is_refused : goal.returns-then-is_refused
returns-then-is_refused g c = record { takes = c.stand_alone.ensures.takes c.args.limits }

pub stand_alone-requires-then-is_apart-clause-alone : goal.stand_alone-requires-then-is_apart-clause-alone
stand_alone-requires-then-is_apart-clause-alone g c =
    let p : Packet = g.F.Frame.packet c.args.slot.now in
    subst (λ z. IsJudged p.frame p.original z c.judge-candidacy.result.payload c.judge-candidacy.result.flags)
    (c.is_apart.ensures.layout c.if-is_apart.true) c.judge-candidacy.ensures.judged

pub returns-then-is_apart : goal.returns-then-is_apart
returns-then-is_apart g c = record { takes = c.stand_alone-then-is_apart.ensures.takes c.args.limits }
