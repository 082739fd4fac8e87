use Rattle.std.proofs.Common.{◌∷◌, [], ◌∙◌, length, length-append, ap, arith}
use Rattle.frags.specs.PieceList.{size_of}
use Rattle.frags.specs.declared.pieces.Piece.{Piece}
use Rattle.frags.proofs.PieceBytes.{size_of-append}
use Rattle.buffer_tests.proofs.pieces.blocks.put.Goals as goal

pub returns-in_default : goal.returns-in_default
returns-in_default c = record {
  left = let x : Piece = record { part = c.args.part; from = c.args.from; to = c.args.to } in
      let e = c.in_default.ensures.appended in
      let l = ap length e ∙ length-append c.args.pieces.now (x ∷ []) in
      let s = ap size_of e ∙ size_of-append c.args.pieces.now (x ∷ []) in
      let r = c.requires.fits in
      (omega arith, omega arith, omega arith);
}
