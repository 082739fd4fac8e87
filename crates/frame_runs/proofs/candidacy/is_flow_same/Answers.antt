use Rattle.std.proofs.Common.{ℕ, List}
use Rattle.frame_runs.proofs.Judged.{front_of}
use Rattle.frame_runs.proofs.candidacy.is_flow_same.Goals as goal

pub is_flow_of-requires : goal.is_flow_of-requires
is_flow_of-requires g c =
    let t : List ℕ = (g.F.Frame.packet c.args.next.now).frame in
    record { shape = (t, (front_of c.head-next_head.result.now t c.head-next_head.ensures.front, c.requires.shape)) }

pub returns : goal.returns
returns g c =
    let s : List ℕ = (g.F.Frame.packet c.args.first.now).frame in
    let t : List ℕ = (g.F.Frame.packet c.args.next.now).frame in
    record {
      same = c.is_flow_of.ensures.same s t (front_of c.head-first_head.result.now s c.head-first_head.ensures.front)
          (front_of c.head-next_head.result.now t c.head-next_head.ensures.front);
    }
