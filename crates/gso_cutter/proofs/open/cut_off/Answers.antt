use Rattle.std.proofs.Common.{◌≡◌, true, false, Err, sym, subst, ◌∙◌}
use Rattle.frags.specs.Gifts.{IsSplit}
use Rattle.frags.specs.declared.pieces.ShareFault.{ShareFault}
use Rattle.gso_cutter.specs.Opening.{Enough}
use Rattle.gso_cutter.proofs.Weights.{enough_back, never_worn}
use Rattle.gso_cutter.proofs.open.cut_off.Goals as goal

pub returns-in-Ok-clause-enough : goal.returns-in-Ok-clause-enough
returns-in-Ok-clause-enough c = subst Enough (sym (c.replace-front.ensures.after ∙ c.in-Ok.ensures.split.3)) (enough_back c.args.n c.args.pieces.now c.len.ensures.fits c.requires.enough)

pub unreachable-requires : goal.unreachable-requires
unreachable-requires c = let e : false ≡ true = sym (never_worn c.args.n c.args.pieces.now c.requires.enough) ∙ (subst (λ (e : ShareFault). IsSplit c.args.n c.args.pieces.now c.split_at.new.self
    (Err e)) c.in-Err-Worn.field-0-is c.in-Err-Worn.ensures.split).1 in cc
