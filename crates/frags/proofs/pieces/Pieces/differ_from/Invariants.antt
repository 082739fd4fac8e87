use Rattle.std.proofs.Common.{◌≡◌, ℕ, ◌<◌, ◌≢◌, length, get_or}
use Rattle.frags.specs.PieceList.{size_of}
use Rattle.frags.specs.declared.pieces.Piece.{Piece}
use Rattle.frags.proofs.pieces.Pieces.differ_from.Given as goal

-- nothing changes, and of the first i pieces none is of the Sole's block
abbrev pub invariant-loop-i : goal.invariant-loop-i
invariant-loop-i l = record {
  others : (k : ℕ) (d : Piece) → k < l.i → (get_or l.fn.self k d).part.life.block ≢ l.fn.sole.block;
  items : l.self-inside.items.items ≡ l.fn.self;
  sole : l.sole ≡ l.fn.sole;
  end : l.i-end ≡ length l.fn.self;
  size : l.self-inside.size ≡ size_of l.fn.self;
}
