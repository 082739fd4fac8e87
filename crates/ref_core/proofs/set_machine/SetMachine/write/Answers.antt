use Rattle.std.proofs.Common.{◌≡◌, length, Some, arith}
use Rattle.ref_core.specs.SetMachine.{block_of}
use Rattle.ref_core.proofs.Placing.{placed_found}
use Rattle.ref_core.proofs.set_machine.SetMachine.write.Goals as goal

pub set_byte-requires : goal.set_byte-requires
set_byte-requires c = let e : block_of c.args.holder c.self.inside.pairs.items ≡ Some c.in-Some.block = cc in
    record { inside = (placed_found (length c.self.inside.memory) c.args.holder c.self.inside.pairs.items c.in-Some.block c.self.invariant e, omega arith) }
