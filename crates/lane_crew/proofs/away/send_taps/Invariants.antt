use Rattle.std.proofs.Common.{◌≡◌, ◌+◌, ◌≤◌, max, ℕ}
use Rattle.std.specs.VecDeque.{deque_len, deque_capacity}
use Rattle.std.specs.Prelude.{Option}
use Rattle.block_pool.specs.Giving.{GiverState}
use Rattle.lane_crew.specs.Givers.{carried, Divided, HaveShares}
use Rattle.lane_crew.specs.Tasks.{SentTaps}
use Rattle.lane_crew.proofs.away.send_taps.Given as goal

abbrev pub invariant-loop-at : goal.invariant-loop-at
invariant-loop-at g l = record {
  sent : SentTaps l.plan l.at l.fn.taps l.taps l.fn.tasks.items l.tasks.items;
  carried_on : (old : Option GiverState) → Divided old l.fn.giver (carried l.fn.tasks.items) → Divided old l.giver (carried l.tasks.items);
  shares_on : (n : ℕ) → max 1 l.at_work ≤ n → HaveShares n l.fn.giver l.fn.tasks.items → HaveShares n l.giver l.tasks.items;
  few : deque_len l.tasks ≤ deque_len l.fn.tasks + l.at;
  room : deque_capacity l.tasks ≡ deque_capacity l.fn.tasks;
}
