use Rattle.std.proofs.Common.{◌≡◌, ◌∙◌, ap, subst, arith}
use Rattle.std.proofs.lemmas.Grind.{common_steps}
use Rattle.frags.specs.PieceList.{bytes_of, cut_front, AllFit}
use Rattle.frags.proofs.PieceBytes.{cut_bytes}
use Rattle.frags.proofs.pieces.Pieces.cut_front.Goals as goal

pub returns-clause-bytes : goal.returns-clause-bytes
returns-clause-bytes c =
    let e : c.pop_front.new.self.items ≡ cut_front c.args.n c.args.self.now = grind (arith, common_steps) in
    ap bytes_of e ∙ cut_bytes c.args.n c.args.self.now (subst AllFit c.self.view_is c.self.invariant.2)
