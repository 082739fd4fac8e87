use Rattle.std.proofs.Common.{arith}
use Rattle.frags.proofs.PieceBytes.{count_within}
use Rattle.gso_cutter.proofs.merged.Merged.count.Goals as goal

pub overflow_add-result : goal.overflow_add-result
overflow_add-result c = omega (
  arith,
  c.count.ensures.value,
  c.count-2.ensures.within,
  c.len-2.ensures.size,
  c.len-2.ensures.small,
  count_within c.self.inside.skb.rest c.len.ensures.fits,
  c.len.ensures.size,
  c.len.ensures.small,
)
