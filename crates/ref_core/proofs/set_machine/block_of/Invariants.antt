use Rattle.std.proofs.Common.{◌≡◌, drop}
use Rattle.ref_core.specs.SetMachine.{block_of}
use Rattle.ref_core.proofs.set_machine.block_of.Given as goal

abbrev pub invariant-loop-pair : goal.invariant-loop-pair
invariant-loop-pair l = block_of l.holder l.pairs ≡ block_of l.holder (drop l.pair-index l.pairs)
