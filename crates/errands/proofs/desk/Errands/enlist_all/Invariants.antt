use Rattle.std.proofs.Common.{◌≡◌, All, length}
use Rattle.errands.proofs.desk.Errands.enlist_all.Given as goal

abbrev pub invariant-loop : goal.invariant-loop
invariant-loop g l = record {
  same : l.asker ≡ l.fn.asker;
  own : All (λ r. r ≡ l.self) l.runners.items;
  count : length l.runners.items ≡ l.counter;
}
