use Rattle.std.proofs.Common.{List, ap, sym, subst, length, refl}
use Rattle.raw_block.specs.Views.{SoleState}
use Rattle.rounds.specs.Fresh.{NumberedFrom}
use Rattle.rounds.proofs.Rounding.{round_none}
use Rattle.rounds.proofs.round_stages.no_round.Goals as goal

pub invariant_of-result : goal.invariant_of-result
invariant_of-result c =
    let none = c.new.ensures.none in
    let bare = ap (λ (xs : List SoleState). length xs) c.new-2.ensures.none.0 in (
      round_none c.new.result.items (length c.new-2.result.blocks) 0 none bare refl,
      (0, subst (NumberedFrom 0) (sym none) tt),
    )
