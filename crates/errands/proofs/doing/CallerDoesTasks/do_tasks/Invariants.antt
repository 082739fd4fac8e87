use Rattle.std.proofs.Common.{◌≡◌, ◌+◌, ◌≤◌, ◌++◌, List, length}
use Rattle.std.specs.VecDeque.{deque_capacity}
use Rattle.errands.specs.Answers.{EachDid}
use Rattle.errands.proofs.doing.CallerDoesTasks.do_tasks.Given as goal

abbrev pub invariant-loop-task : goal.invariant-loop-task
invariant-loop-task g l = record {
  did : (front : List g.row.T.Denot) × (l.fn.tasks.items ≡ front ++ l.tasks.items) × EachDid g.J.Job.did front l.done.items;
  room : length l.done.items + length l.tasks.items ≤ deque_capacity l.done;
}

abbrev pub decreases-loop-task : goal.decreases-loop-task
decreases-loop-task g l = length l.tasks.items
