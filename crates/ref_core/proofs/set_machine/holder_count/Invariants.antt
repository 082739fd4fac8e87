use Rattle.std.proofs.Common.{◌≡◌, ◌+◌, ◌≤◌, drop}
use Rattle.ref_core.specs.SetMachine.{holder_count}
use Rattle.ref_core.proofs.set_machine.holder_count.Given as goal

abbrev pub invariant-loop-pair : goal.invariant-loop-pair
invariant-loop-pair l = record {
  few : l.count ≤ l.pair-index;
  rest : holder_count l.block l.pairs ≡ l.count + holder_count l.block (drop l.pair-index l.pairs);
}
