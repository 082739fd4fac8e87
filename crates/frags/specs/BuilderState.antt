-- What a contract sees of a list of pieces that is put together: the pieces, and how many more there is room for.
use Rattle.std.specs.Prelude.{ℕ, List}
use Rattle.frags.specs.declared.pieces.Piece.{Piece}

pub record BuilderState : Type 0 where
  pub pieces : List Piece
  pub room : ℕ
