use Rattle.std.proofs.Common.{arith}
use Rattle.std.proofs.lemmas.List.{length-take-le}
use Rattle.burst_c.proofs.front.offload_put_ethernet.Goals as goal

pub copy_from_slice-requires : goal.copy_from_slice-requires
copy_from_slice-requires c = length-take-le 14 c.args.frame.now (omega (arith, c.if-frame-le14.false))

pub copy_from_slice-requires-then-version-eq6 : goal.copy_from_slice-requires-then-version-eq6
copy_from_slice-requires-then-version-eq6 c = length-take-le 14 c.args.frame.now (omega (arith, c.if-frame-le14.false))
