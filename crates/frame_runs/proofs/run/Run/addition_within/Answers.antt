use Rattle.pcap_io.specs.Capture.{Packet}
use Rattle.frame_runs.proofs.Running.{if_some}
use Rattle.frame_runs.proofs.run.Run.addition_within.Goals as goal

pub is_within-requires : goal.is_within-requires
is_within-requires g c = record { knows = (g.F.Frame.packet c.args.first.now, c.requires.knows); next = c.requires.next }

pub returns-clause-takes : goal.returns-clause-takes
returns-clause-takes g c =
    let p : Packet = g.F.Frame.packet c.args.first.now in
    if_some _ _ c.addition.result
    (λ a t rest k. let m = t rest k in (m, (c.is_within.ensures.within p rest k m).0 c.if-not-is_within.false)) c.addition.ensures.takes
