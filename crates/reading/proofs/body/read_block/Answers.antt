use Rattle.std.proofs.Common.{sym, ap, subst, length, arith}
use Rattle.offload_model.specs.Laws.{InBytes}
use Rattle.reading.proofs.Filling.{written_range}
use Rattle.reading.proofs.body.read_block.Goals as goal

pub returns-clause-in_bytes : goal.returns-clause-in_bytes
returns-clause-in_bytes g c =
    subst InBytes (sym (written_range c.args.from c.args.to c.args.block.now.bytes c.read_body-read.new.into (omega (arith, c.range_mut-range.ensures.size, c.read_body-read.auto.into))
    (omega (arith, ap length c.bytes.ensures.value, c.bytes.ensures.size, c.requires.range))))
    c.in_bytes.ensures.bytes
