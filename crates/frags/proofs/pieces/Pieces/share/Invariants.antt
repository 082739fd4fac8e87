use Rattle.std.proofs.Common.{◌≡◌, ◌≤◌, length}
use Rattle.std.specs.VecDeque.{deque_len, deque_capacity}
use Rattle.frags.specs.Gifts.{kept_first, given_first}
use Rattle.frags.specs.PieceList.{size_of}
use Rattle.frags.proofs.pieces.Pieces.share.Given as goal

abbrev pub invariant-loop-i : goal.invariant-loop-i
invariant-loop-i l = record {
  kept : l.self-inside.items.items ≡ kept_first l.i l.fn.self;
  given : l.items.items ≡ given_first l.i l.fn.self;
  all : l.n ≡ length l.fn.self;
  room : l.n ≤ deque_capacity l.items;
  so_far : deque_len l.items ≡ l.i;
  size : l.self-inside.size ≡ size_of l.fn.self;
}
