use Rattle.std.proofs.Common.{◌≡◌, ◌+◌, ◌-◌, ap, ◌∙◌, arith}
use Rattle.inet_sum.specs.Sum.{folded}
use Rattle.inet_sum.proofs.Folds.{even_total}
use Rattle.frame_layout.proofs.Zeroed.{pseudo_even}
use Rattle.frame_layout.proofs.Whole.{close_total}
use Rattle.frame_layout.proofs.sums.carried_front.Goals as goal

pub returns-then-is_close-clause-fold : goal.returns-then-is_close-clause-fold
returns-then-is_close-clause-fold c =
    let front = c.args.front.now in
    let close = c.is_close.ensures.close c.if-is_close.true in
    let n : c.unfolded.result + c.from.result + c.from-then-is_close.result
    ≡ c.unfolded.result + c.args.protocol + (front.len - c.args.at) = omega (arith, c.from.ensures, c.from-then-is_close.ensures) in
    ap folded n
    ∙ close_total front.head.now c.args.ip c.args.protocol c.args.at front.end (front.len - c.args.at) c.unfolded.result
    close.0 close.1 c.requires.inside front.inside c.unfolded.ensures.fold

pub returns-clause-fold : goal.returns-clause-fold
returns-clause-fold c =
    let front = c.args.front.now in
    even_total _ _ c.pseudo.result c.unfolded-2.result
    (pseudo_even front.head.now c.args.ip.layer c.args.ip.at c.args.protocol (front.len - c.args.at) c.requires.there)
    c.pseudo.ensures.fold c.unfolded-2.ensures.fold
