use Rattle.std.proofs.Common.{◌≡◌, ◌+◌, ◌≤◌, ◌++◌, false, length}
use Rattle.std.specs.VecDeque.{deque_len, deque_capacity}
use Rattle.frags.specs.Gifts.{front, back, cut_worn}
use Rattle.frags.specs.PieceList.{AllFit, size_of}
use Rattle.frags.proofs.cuts.split_into.Given as goal

abbrev pub invariant-loop-piece : goal.invariant-loop-piece
invariant-loop-piece l = record {
  fits : AllFit l.items.items;
  within : l.left ≤ size_of l.items.items;
  room : deque_len l.first + length (front l.left l.items.items) ≤ deque_capacity l.first;
  fresh : cut_worn l.left l.items.items ≡ false;
  front : l.first.items ++ front l.left l.items.items ≡ front l.at l.fn.items.items;
  back : back l.left l.items.items ≡ back l.at l.fn.items.items;
}

abbrev pub decreases-loop-piece : goal.decreases-loop-piece
decreases-loop-piece l = length l.items.items
