use Rattle.std.proofs.Common.{◌≡◌, ◌+◌, ◌∷◌, List, length, subst, arith}
use Rattle.std.proofs.lemmas.Bool.{false≢true}
use Rattle.std.specs.Bool.{Decides}
use Rattle.frame_layout.specs.Shape.{Layout}
use Rattle.pcap_io.specs.Capture.{Packet}
use Rattle.merge_rule.specs.Next.{IsNext}
use Rattle.merge_rule.specs.Runs.{IsJudged, IsCandidateOf}
use Rattle.merge_rule.proofs.Knows.{shut_by, no_first_by, no_next_by, takes_next, one_flow}
use Rattle.frame_runs.specs.declared.run.Run.{Run}
use Rattle.frame_runs.specs.Engine.{Knows}
use Rattle.frame_runs.proofs.Running.{known}
use Rattle.frame_runs.proofs.run.Run.takes.Goals as goal

pub returns-then-not-self : goal.returns-then-not-self
returns-then-not-self g c =
    let run : Run = c.args.self.now in
    record {
      takes = λ rest k. (
        λ e. absurd (false≢true e),
        λ m. absurd (shut_by run.layout run.payload run.flags run.progress (g.F.Frame.packet c.args.first.now) (g.F.Frame.packet c.args.next.now)
            rest k.is c.if-not-self.true m),
      );
      flow = λ t. absurd (false≢true t);
    }

pub returns-in_default : goal.returns-in_default
returns-in_default g c =
    record {
      takes = λ rest k. (
        λ e. absurd (false≢true e),
        λ m. absurd (no_next_by c.args.candidacy.now.layout c.args.candidacy.now.payload c.args.candidacy.now.flags (g.F.Frame.packet c.args.first.now)
            (g.F.Frame.packet c.args.next.now) rest c.requires.judged c.in_default.is m),
      );
      flow = λ t. absurd (false≢true t);
    }

pub returns-in-Some-layout : goal.returns-in-Some-layout
returns-in-Some-layout g c =
    let run : Run = c.args.self.now in
    let p : Packet = g.F.Frame.packet c.args.first.now in
    let x : Packet = g.F.Frame.packet c.args.next.now in
    let layout : Layout = c.in-Some-layout.layout in
    let j : IsCandidateOf x.frame x.original c.in-Some._own c.args.candidacy.now.payload c.args.candidacy.now.flags
    = subst (λ z. IsJudged x.frame x.original z c.args.candidacy.now.payload c.args.candidacy.now.flags) c.in-Some.is c.requires.judged in
    let takes = λ (rest : List Packet) (k : Knows run p rest).
    let n : run.more + 1 ≡ length (p ∷ rest) = omega (arith, k.more) in
    let d : Decides c.is_followed_by.result (IsNext layout p.frame (length (p ∷ rest)) run.progress.total run.progress.modes x.frame)
    = subst (λ z. Decides c.is_followed_by.result (IsNext layout p.frame z run.progress.total run.progress.modes x.frame)) n
    c.is_followed_by.ensures.next in
    takes_next p rest layout run.payload run.flags run.progress (known run p rest layout c.in-Some-layout.is k) x c.in-Some._own
    c.args.candidacy.now.payload c.args.candidacy.now.flags c.is_followed_by.result c.if-not-self.false j d in
    record { takes = takes; flow = λ t. one_flow p x c.requires.knows.0 ((takes c.requires.knows.0 c.requires.knows.1).0 t) }

pub returns-in-None : goal.returns-in-None
returns-in-None g c =
    let run : Run = c.args.self.now in
    record {
      takes = λ rest k. (
        λ e. absurd (false≢true e),
        λ m. absurd (no_first_by run.layout run.payload run.flags run.progress (g.F.Frame.packet c.args.first.now) (g.F.Frame.packet c.args.next.now)
            rest k.is c.in-None.is m),
      );
      flow = λ t. absurd (false≢true t);
    }
