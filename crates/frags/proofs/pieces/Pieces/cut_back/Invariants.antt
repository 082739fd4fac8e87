use Rattle.std.proofs.Common.{◌≡◌, ◌+◌, ◌-◌, ◌≤◌, ◌<◌, ◌^◌, length}
use Rattle.frags.specs.Account.{Keeps, both, of_outcomes}
use Rattle.frags.specs.Growth.{Grows}
use Rattle.frags.specs.PieceList.{of_pieces, keep_front, size_of, AllFit}
use Rattle.frags.proofs.pieces.Pieces.cut_back.Given as goal

abbrev pub invariant-loop-piece : goal.invariant-loop-piece
invariant-loop-piece l = record {
  rest : keep_front l.keep l.self-inside.items.items ≡ keep_front l.keep l.fn.self;
  kept_size : l.keep ≡ size_of l.fn.self - l.n;
  size : l.self-inside.size ≡ size_of l.self-inside.items.items;
  small : l.self-inside.size < 2 ^ 32;
  fits : AllFit l.self-inside.items.items;
  enough : l.keep ≤ l.self-inside.size;
  fewer : length l.self-inside.items.items ≤ length l.fn.self;
  places : l.fn.out.spare + length l.self-inside.items.items ≤ l.out.spare + length l.fn.self;
  grows : Grows (length l.fn.self - length l.self-inside.items.items) l.fn.out l.out;
  kept : Keeps (both (of_pieces l.fn.self) (of_outcomes l.fn.out)) (both (of_pieces l.self-inside.items.items) (of_outcomes l.out));
}

abbrev pub decreases-loop-piece : goal.decreases-loop-piece
decreases-loop-piece l = length l.self-inside.items.items
