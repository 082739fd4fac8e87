use Rattle.std.proofs.Common.{ℕ, List}
use Rattle.frame_runs.proofs.Judged.{front_of}
use Rattle.frame_runs.proofs.flow_hash.hash_in.Goals as goal

pub returns : goal.returns
returns g c =
    let f : List ℕ = (g.F.Frame.packet c.args.slot.now).frame in
    record { hash = c.head_hash.ensures.hash f (front_of c.head.result.now f c.head.ensures.front) }
