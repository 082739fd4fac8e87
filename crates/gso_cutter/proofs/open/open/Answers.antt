use Rattle.std.proofs.Common.{◌∙◌, sym, subst}
use Rattle.gso_cutter.specs.Opening.{OpensAccount}
use Rattle.gso_cutter.proofs.Weights.{open_nothing, bare}
use Rattle.gso_cutter.proofs.open.open.Goals as goal

pub returns-then-len-at-clause-account : goal.returns-then-len-at-clause-account
returns-then-len-at-clause-account c = open_nothing c.args.skb.now c.args.pieces.now

pub returns-then-len-at-clause-bare : goal.returns-then-len-at-clause-bare
returns-then-len-at-clause-bare c = bare c.args.skb.now c.args.at c.len.ensures.fits (sym c.len.ensures.size ∙ c.if-len-at.true) c.requires.front

pub returns-in_err-cut-clause-account : goal.returns-in_err-cut-clause-account
returns-in_err-cut-clause-account c =
    subst (λ z. OpensAccount c.args.skb.now c.args.pieces.now z c.args.pieces.now) (sym c.in_err-cut.ensures.same) (open_nothing c.args.skb.now c.args.pieces.now)
