use Rattle.std.proofs.Common.{◌≡◌, ◌+◌, ◌≤◌, ◌++◌, Some, map, length}
use Rattle.std.specs.VecDeque.{deque_capacity}
use Rattle.errands.specs.Answers.{missing}
use Rattle.errands.proofs.serving.give_out.Given as goal

abbrev pub invariant-loop-place : goal.invariant-loop-place
invariant-loop-place g l = record {
  out : l.places.items ++ map Some l.done.items ≡ l.fn.places.items;
  size : length l.places.items + length l.done.items ≡ length l.fn.places.items;
  all : missing l.places.items ≡ 0;
  room : deque_capacity l.fn.done ≤ deque_capacity l.done;
}

abbrev pub decreases-loop-place : goal.decreases-loop-place
decreases-loop-place g l = length l.places.items
