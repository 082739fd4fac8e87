use Rattle.std.proofs.Common.{◌≡◌, ◌∙◌, ℕ, None, Some, List}
use Rattle.skb.specs.SkbState.{buffer_bytes}
use Rattle.gso.proofs.Fronted.{same_shape}
use Rattle.gso.proofs.judging.merged.Goals as goal

pub returns-in_default-clause-refused : goal.returns-in_default-clause-refused
returns-in_default-clause-refused c = λ s.
    let f : List ℕ = buffer_bytes c.args.skb.now in
    let front : List ℕ = c.front_bytes-front.result.now in
    let k = c.front_bytes-front.ensures in
    let none : None ≡ Some s.layout
    = c.in_default.ensures.shape ∙ same_shape f front k.joined k.in_bytes k.enough ∙ s.cuttable.shape_is in
    absurd cc
