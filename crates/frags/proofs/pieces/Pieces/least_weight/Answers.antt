use Rattle.std.proofs.Common.{arith}
use Rattle.frags.proofs.Places.{least_weight-bound}
use Rattle.frags.proofs.pieces.Pieces.least_weight.Goals as goal

pub loop-i-init : goal.loop-i-init
loop-i-init c = let b = least_weight-bound c.self.inside.items.items in record { least = omega arith; full = omega arith }
