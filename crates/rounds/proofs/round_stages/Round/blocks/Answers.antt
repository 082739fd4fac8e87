use Rattle.std.proofs.Common.{◌≡◌, List, [], ◌∷◌, refl, arith, subst}
use Rattle.block_supply.proofs.Listing.{ones}
use Rattle.gro.specs.declared.slot.Slot.{Slot}
use Rattle.gro.specs.Slots.{counts_of, weighed_slots}
use Rattle.rounds.specs.RoundsState.{RoundState}
use Rattle.rounds.specs.Weights.{weights_of}
use Rattle.rounds.proofs.round_stages.Round.blocks.Goals as goal

slots_ones : (ps : List Slot) → weighed_slots (λ _. 1) ps ≡ counts_of ps
slots_ones [] = refl
slots_ones (p ∷ ps) = omega (arith, ones p.skb.rest, slots_ones ps)

pub returns-clause-weighs : goal.returns-clause-weighs
returns-clause-weighs c =
    let r = c.self.inside in
    subst (λ (z : RoundState). weights_of z (λ _. 1) ≡ z.blocks) c.self.view_is (omega (arith, slots_ones r.packets.items, ones r.spares.blocks, c.self.invariant.0.count))
