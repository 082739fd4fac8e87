use Rattle.std.proofs.Common.{◌≡◌, ◌+◌, ◌∷◌, List, Some, length, subst, arith}
use Rattle.std.specs.Bool.{Decides}
use Rattle.frame_layout.specs.Shape.{Layout}
use Rattle.frame_layout.proofs.Lemmas.{same_shape}
use Rattle.pcap_io.specs.Capture.{Packet}
use Rattle.merge_rule.specs.Next.{IsNext}
use Rattle.merge_rule.specs.Runs.{IsRunOf, IsCandidateOf}
use Rattle.merge_rule.proofs.Knows.{takes_next, one_flow}
use Rattle.frame_runs.specs.declared.candidacy.Addition.{Addition}
use Rattle.frame_runs.specs.declared.run.Run.{Run}
use Rattle.frame_runs.specs.Engine.{Knows}
use Rattle.frame_runs.proofs.Running.{known, if_some}
use Rattle.frame_runs.proofs.run.Run.addition.Goals as goal

pub judge_as-requires : goal.judge_as-requires
judge_as-requires g c =
    let p : Packet = g.F.Frame.packet c.args.first.now in
    let x : Packet = g.F.Frame.packet c.args.next.now in
    let layout : Layout = c.in-Some.layout in
    let r : IsRunOf layout _ _ _ p (p ∷ c.requires.knows.0) = known c.args.self.now p c.requires.knows.0 layout c.in-Some.is c.requires.knows.1 in
    let next : IsNext layout p.frame (c.args.self.now.more + 1) c.args.self.now.progress.total c.args.self.now.progress.modes x.frame
    = c.is_followed_by.ensures.next.0 c.if-not-is_followed_by.false in
    record {
      held = c.requires.next;
      shape = same_shape p.frame x.frame layout r.shape next.alike next.there;
    }

pub returns : goal.returns
returns g c =
    let run : Run = c.args.self.now in
    let p : Packet = g.F.Frame.packet c.args.first.now in
    let x : Packet = g.F.Frame.packet c.args.next.now in
    let layout : Layout = c.in-Some.layout in
    let takes = λ (a : Addition) (j : IsCandidateOf x.frame x.original layout a.payload a.flags) (rest : List Packet) (k : Knows run p rest).
    let n : run.more + 1 ≡ length (p ∷ rest) = omega (arith, k.more) in
    let d : Decides c.is_followed_by.result (IsNext layout p.frame (length (p ∷ rest)) run.progress.total run.progress.modes x.frame)
    = subst (λ z. Decides c.is_followed_by.result (IsNext layout p.frame z run.progress.total run.progress.modes x.frame)) n
    c.is_followed_by.ensures.next in
    (takes_next p rest layout run.payload run.flags run.progress (known run p rest layout c.in-Some.is k) x layout
    a.payload a.flags c.is_followed_by.result c.if-not-self.false j d).0 c.if-not-is_followed_by.false in
    record {
      takes = if_some _ _ c.judge_as.result takes c.judge_as.ensures.candidate;
      added = if_some _ _ c.judge_as.result (λ a j. (Some layout, j)) c.judge_as.ensures.candidate;
      flow = if_some _ _ c.judge_as.result (λ a j. one_flow p x c.requires.knows.0 (takes a j c.requires.knows.0 c.requires.knows.1)) c.judge_as.ensures.candidate;
    }
