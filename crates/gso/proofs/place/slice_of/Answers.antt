use Rattle.std.proofs.Common.{arith}
use Rattle.gso.proofs.Places.{piece_at}
use Rattle.gso.proofs.place.slice_of.Goals as goal

pub returns-else-i-eq0 : goal.returns-else-i-eq0
returns-else-i-eq0 c = record {
  bytes = piece_at c.args.skb.now c.args.i c.slice.result.now (omega (arith, c.if-i-eq0.false)) (omega (arith, c.if-i-eq0.false, c.requires.within)) c.slice.ensures.bytes;
}
