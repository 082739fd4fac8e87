use Rattle.std.proofs.Common.{◌+◌, ◌-◌, ◌≤◌, length}
use Rattle.frags.specs.Account.{Keeps, KeepsBlocks, both, of_outcomes}
use Rattle.frags.specs.Growth.{Grows}
use Rattle.frags.specs.PieceList.{of_pieces}
use Rattle.frags.specs.OutcomesState.{OutcomesState}
use Rattle.frags.specs.Returns.{ReturnsPieces}
use Rattle.frags.proofs.pieces.Pieces.release.Given as goal

abbrev pub invariant-loop-piece : goal.invariant-loop-piece
invariant-loop-piece l = record {
  fewer : length l.items.items ≤ length l.fn.self;
  grows : Grows (length l.fn.self - length l.items.items) l.fn.out l.out;
  places : l.fn.out.spare + length l.items.items ≤ l.out.spare + length l.fn.self;
  kept : Keeps (both (of_pieces l.fn.self) (of_outcomes l.fn.out)) (both (of_pieces l.items.items) (of_outcomes l.out));
  blocks : KeepsBlocks (both (of_pieces l.fn.self) (of_outcomes l.fn.out))
      (both (of_pieces l.items.items) (of_outcomes l.out));
  rest : (z : OutcomesState) → ReturnsPieces l.items.items l.out z → ReturnsPieces l.fn.self l.fn.out z;
}

abbrev pub decreases-loop-piece : goal.decreases-loop-piece
decreases-loop-piece l = length l.items.items
