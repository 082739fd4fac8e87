use Rattle.std.proofs.Common.{length, ap, arith}
use Rattle.frags.specs.PieceList.{size_of}
use Rattle.frags.proofs.PieceBytes.{count_within}
use Rattle.frags.proofs.pieces.Pieces.count.Goals as goal

pub returns-clause-within : goal.returns-clause-within
returns-clause-within c =
    let a = count_within c.self.inside.items.items c.self.invariant.2 in
    let u = ap size_of c.self.view_is in
    let v = ap length c.self.view_is in
    omega arith
