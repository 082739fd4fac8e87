use Rattle.std.proofs.Common.{arith, length}
use Rattle.cap_make.proofs.Counting.{counted}
use Rattle.cap_make.proofs.record.count_up.Goals as goal

pub returns : goal.returns
returns c = record { bytes = counted c.args.first c.loop-byte.bytes (length c.args.bytes.now) (omega arith) (λ k h. c.loop-byte.invariant.1 k (omega arith)) }
