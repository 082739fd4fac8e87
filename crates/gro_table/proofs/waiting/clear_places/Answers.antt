use Rattle.std.proofs.Common.{◌≡◌, suc, Option, [], ◌∷◌, List, length, sym, ap, ◌∙◌, arith}
use Rattle.gro_table.specs.declared.packet.Packet.{Packet as Held}
use Rattle.gro_table.specs.Waiting.{one_in, found}
use Rattle.gro_table.proofs.waiting.clear_places.Goals as goal

pub loop-place-preserved : goal.loop-place-preserved
loop-place-preserved c = λ k. sym (ap (λ (z : List (Option Held)). found z (suc k)) c.in-Some.ensures.items) ∙ c.loop-place.invariant (suc k)

pub unreachable-requires : goal.unreachable-requires
unreachable-requires c =
    let none : one_in c.in-Some.place ≡ [] = sym (ap (λ (z : List (Option Held)). found z 0) c.in-Some.ensures.items) ∙ c.loop-place.invariant 0 in
    let some : c.in_default-place.field-0 ∷ [] ≡ [] = sym (ap one_in c.in_default-place.is) ∙ none in
    omega (arith, ap length some)
