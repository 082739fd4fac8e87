use Rattle.std.proofs.Common.{◌≡◌, ◌-◌, ◌≤◌, ◌++◌, length, drop, take}
use Rattle.ref_core.specs.SetMachine.{without}
use Rattle.ref_core.proofs.set_machine.remove_pair.Given as goal

abbrev pub invariant-loop-i : goal.invariant-loop-i
invariant-loop-i l = record {
  in_range : l.i ≤ length l.pairs.items;
  rest : without l.holder l.pairs.items ≡ take l.i l.pairs.items ++ without l.holder (drop l.i l.pairs.items);
  same : l.pairs ≡ l.fn.pairs;
}

abbrev pub decreases-loop-i : goal.decreases-loop-i
decreases-loop-i l = length l.pairs.items - l.i
