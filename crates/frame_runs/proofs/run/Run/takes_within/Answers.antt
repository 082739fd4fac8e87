use Rattle.std.proofs.Common.{◌∙◌, sym}
use Rattle.std.proofs.lemmas.Bool.{false≢true}
use Rattle.pcap_io.specs.Capture.{Packet}
use Rattle.frame_runs.proofs.run.Run.takes_within.Goals as goal

pub is_within-requires : goal.is_within-requires
is_within-requires g c = record { knows = (g.F.Frame.packet c.args.first.now, c.requires.knows); next = c.requires.next }

pub returns-then-not-is_within-clause-takes : goal.returns-then-not-is_within-clause-takes
returns-then-not-is_within-clause-takes g c =
    let p : Packet = g.F.Frame.packet c.args.first.now in
    λ rest k. (
      λ e. absurd (false≢true e),
      λ m. absurd (false≢true (sym c.if-not-is_within.true ∙ (c.is_within.ensures.within p rest k m.0).1 m.1)),
    )

pub returns-clause-takes : goal.returns-clause-takes
returns-clause-takes g c =
    let p : Packet = g.F.Frame.packet c.args.first.now in
    λ rest k.
    let d = c.takes.ensures.takes rest k in
    (λ e. (d.0 e, (c.is_within.ensures.within p rest k (d.0 e)).0 c.if-not-is_within.false), λ m. d.1 m.0)
