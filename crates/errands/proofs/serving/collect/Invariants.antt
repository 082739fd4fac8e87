use Rattle.std.proofs.Common.{◌≡◌, ◌+◌, length}
use Rattle.errands.specs.Answers.{AllBack, Places, missing}
use Rattle.errands.proofs.serving.collect.Given as goal

abbrev pub invariant-loop-got : goal.invariant-loop-got
invariant-loop-got g l = record {
  desk : l.asker.desk ≡ l.fn.asker.desk;
  runner : l.runner ≡ l.fn.runner;
  log : l.asker.log ≡ l.fn.asker.log;
  size : length l.places.items ≡ length l.fn.places.items;
  before : AllBack l.fn.first l.asker.back;
  places : Places g.J.Job.did l.fn.asker.log l.asker.back l.fn.first l.places.items;
  still : missing l.places.items + l.got ≡ length l.fn.places.items;
}
