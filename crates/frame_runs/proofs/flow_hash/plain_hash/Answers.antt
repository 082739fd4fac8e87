use Rattle.std.proofs.Common.{ap, ◌∙◌}
use Rattle.net_bytes.specs.Bytes.{be32}
use Rattle.frame_runs.specs.Flows.{mixed}
use Rattle.frame_runs.proofs.Hashing.{plain_hashed}
use Rattle.frame_runs.proofs.flow_hash.plain_hash.Goals as goal

pub returns : goal.returns
returns c =
    let f = c.args.head.now in
    record {
      hash = c.mixed.ensures.hash
          ∙ ap (λ z. mixed z c.be32-nearer.result c.be32-farther.result c.be32-host.result) c.be32-ports.ensures.number
          ∙ ap (λ z. mixed (be32 f 34) z c.be32-farther.result c.be32-host.result) c.be32-nearer.ensures.number
          ∙ ap (λ z. mixed (be32 f 34) (be32 f 30) z c.be32-host.result) c.be32-farther.ensures.number
          ∙ ap (λ z. mixed (be32 f 34) (be32 f 30) (be32 f 26) z) c.be32-host.ensures.number
          ∙ plain_hashed f c.requires.long;
    }
