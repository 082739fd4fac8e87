use Rattle.std.proofs.Common.{◌∙◌, List, length, ap, sym}
use Rattle.frags.specs.PieceList.{bytes_of}
use Rattle.frags.specs.declared.pieces.Piece.{Piece}
use Rattle.frags.proofs.PieceBytes.{length-bytes_of}
use Rattle.frags.proofs.pieces.Pieces.len.Goals as goal

pub returns-clause-bytes : goal.returns-clause-bytes
returns-clause-bytes c = c.self.invariant.0 ∙ sym (length-bytes_of c.self.inside.items.items c.self.invariant.2)
    ∙ ap (λ (z : List Piece). length (bytes_of z)) c.self.view_is
