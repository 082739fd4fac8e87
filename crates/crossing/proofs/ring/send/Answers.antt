use Rattle.std.proofs.Common.{◌∙◌, ◌++◌, ◌∷◌, [], ap}
use Rattle.rtrb.specs.Ring.{sent}
use Rattle.crossing.proofs.ring.send.Goals as goal

pub returns-in-Ok-clause-sent : goal.returns-in-Ok-clause-sent
returns-in-Ok-clause-sent g c =
    c.in-Ok.ensures.ok.0 ∙ ap (λ z. z ++ c.loop.item ∷ []) c.loop.invariant.1 ∙ ap (λ z. sent c.args.ring.now ++ z ∷ []) c.loop.invariant.2
