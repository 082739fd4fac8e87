use Rattle.std.proofs.Common.{◌≡◌, ◌+◌, ◌≤◌, ◌++◌, None, length, vec_capacity}
use Rattle.std.specs.List.{AllByRecursion}
use Rattle.errands.proofs.serving.ask_all.Given as goal

abbrev pub invariant-loop-task : goal.invariant-loop-task
invariant-loop-task g l = record {
  desk : l.asker.desk ≡ l.fn.asker.desk;
  log : l.asker.log ++ l.tasks.items ≡ l.fn.asker.log ++ l.fn.tasks.items;
  back : l.asker.back ≡ l.fn.asker.back;
  vacant : AllByRecursion (λ p. p ≡ None) l.places.items;
  size : length l.places.items + length l.tasks.items ≡ length l.fn.tasks.items;
  room : vec_capacity l.fn.places ≤ vec_capacity l.places;
}

abbrev pub decreases-loop-task : goal.decreases-loop-task
decreases-loop-task g l = length l.tasks.items
