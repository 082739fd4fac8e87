use Rattle.std.proofs.Common.{◌≡◌, ◌+◌, ◌-◌, ◌≤◌, ◌<◌, ◌^◌, length}
use Rattle.frags.specs.Account.{Keeps, both, of_outcomes}
use Rattle.frags.specs.Growth.{Grows}
use Rattle.frags.specs.PieceList.{of_pieces, cut_front, size_of, AllFit}
use Rattle.frags.proofs.pieces.Pieces.cut_front.Given as goal

abbrev pub invariant-loop-piece : goal.invariant-loop-piece
invariant-loop-piece l = record {
  rest : cut_front l.n l.fn.self ≡ cut_front l.left l.self-inside.items.items;
  size : l.self-inside.size ≡ size_of l.self-inside.items.items;
  small : l.self-inside.size < 2 ^ 32;
  fits : AllFit l.self-inside.items.items;
  enough : l.left ≤ l.self-inside.size;
  fewer : length l.self-inside.items.items ≤ length l.fn.self;
  places : l.fn.out.spare + length l.self-inside.items.items ≤ l.out.spare + length l.fn.self;
  grows : Grows (length l.fn.self - length l.self-inside.items.items) l.fn.out l.out;
  kept : Keeps (both (of_pieces l.fn.self) (of_outcomes l.fn.out)) (both (of_pieces l.self-inside.items.items) (of_outcomes l.out));
}

abbrev pub decreases-loop-piece : goal.decreases-loop-piece
decreases-loop-piece l = length l.self-inside.items.items
