use Rattle.std.proofs.Common.{arith}
use Rattle.frags.proofs.PieceBytes.{count_within}
use Rattle.gro_table.proofs.table.weigh.Goals as goal

pub overflow_add-result : goal.overflow_add-result
overflow_add-result c = omega (arith, c.count.ensures.value, count_within c.args.packet.now.skb.rest c.len.ensures.fits, c.requires.short)

pub returns-clause-few : goal.returns-clause-few
returns-clause-few c = omega (arith, c.count.ensures.value, count_within c.args.packet.now.skb.rest c.len.ensures.fits, c.requires.short)
