use Rattle.std.proofs.Common.{◌∙◌}
use Rattle.frame_runs.proofs.Hashing.{short_hash, long_hash}
use Rattle.frame_runs.proofs.flow_hash.bytes_hash.Goals as goal

pub returns-then-n-lt26 : goal.returns-then-n-lt26
returns-then-n-lt26 c = record { hash = short_hash c.args.bytes.now c.if-n-lt26.true }

pub returns : goal.returns
returns c = record {
  hash = c.mixed.ensures.hash
      ∙ long_hash c.args.bytes.now c.be32.result c.be32-2.result c.be32-3.result c.be32-4.result c.if-n-lt26.false c.be32.ensures.number c.be32-2.ensures.number c.be32-3.ensures.number
      c.be32-4.ensures.number;
}
