use Rattle.std.proofs.Common.{◌∙◌}
use Rattle.frags.proofs.Places.{byte_in-is}
use Rattle.frags.proofs.pieces.Pieces.byte_at.Goals as goal

pub returns : goal.returns
returns c = record {
  byte = λ d. c.find_byte.ensures.byte ∙ byte_in-is c.args.i c.args.self.now c.find_byte.ensures.fits c.requires.within d;
}
