use Rattle.std.proofs.Common.{◌≡◌, ◌+◌, ◌≤◌, length}
use Rattle.frags.specs.PieceList.{AreWhole}
use Rattle.frags.proofs.pieces.Pieces.free.Given as goal

abbrev pub invariant-loop-piece : goal.invariant-loop-piece
invariant-loop-piece l = record {
  few : l.freed + length l.items.items ≤ length l.fn.self;
  whole : AreWhole l.fn.self → AreWhole l.items.items;
  all : AreWhole l.fn.self → l.freed + length l.items.items ≡ length l.fn.self;
}

abbrev pub decreases-loop-piece : goal.decreases-loop-piece
decreases-loop-piece l = length l.items.items
