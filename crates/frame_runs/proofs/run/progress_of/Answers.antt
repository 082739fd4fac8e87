use Rattle.std.proofs.Common.{subst, sym}
use Rattle.frame_layout.proofs.Lemmas.{bounds}
use Rattle.pcap_io.specs.Capture.{Packet}
use Rattle.merge_rule.specs.Runs.{IsJudged, IsCandidateOf, IsFirstProgress}
use Rattle.merge_rule.proofs.Knows.{placed_by, within}
use Rattle.frame_runs.proofs.Running.{in_head, head_of}
use Rattle.frame_runs.proofs.run.progress_of.Goals as goal

pub first_progress-requires-clause-placed : goal.first_progress-requires-clause-placed
first_progress-requires-clause-placed g c =
    let p : Packet = g.F.Frame.packet c.args.first.now in
    let j : IsCandidateOf p.frame p.original c.in-Some.layout c.args.candidacy.now.payload c.args.candidacy.now.flags
    = subst (λ z. IsJudged p.frame p.original z c.args.candidacy.now.payload c.args.candidacy.now.flags) c.in-Some.is c.requires.judged in
    placed_by p.frame c.in-Some.layout j.shape

pub first_progress-requires-clause-first : goal.first_progress-requires-clause-first
first_progress-requires-clause-first g c =
    let p : Packet = g.F.Frame.packet c.args.first.now in
    let j : IsCandidateOf p.frame p.original c.in-Some.layout c.args.candidacy.now.payload c.args.candidacy.now.flags
    = subst (λ z. IsJudged p.frame p.original z c.args.candidacy.now.payload c.args.candidacy.now.flags) c.in-Some.is c.requires.judged in
    in_head c.head.result.now p.frame c.in-Some.layout.payload_at c.head.ensures.front (bounds p.frame j.in_bytes c.in-Some.layout j.shape).0
    (within p.frame c.in-Some.layout j.shape)

pub returns-in-Some : goal.returns-in-Some
returns-in-Some g c =
    let p : Packet = g.F.Frame.packet c.args.first.now in
    record {
      progress = subst (λ z. IsFirstProgress z p.frame c.first_progress.result) (sym c.in-Some.is)
          (c.first_progress.ensures.progress p.frame (head_of c.head.result.now p.frame c.len-len.result c.head.ensures.front c.len-len.ensures.len));
    }
