use Rattle.std.proofs.Common.{◌≡◌, Option, None, length, ap, ◌∙◌, sym, arith}
use Rattle.gro_table.specs.declared.packet.Packet.{Packet as Held}
use Rattle.gro_table.specs.Waiting.{one_in}
use Rattle.gro_table.proofs.Emptying.{found_below, found_is}
use Rattle.gro_table.proofs.waiting.take_at.Goals as goal

pub index_mut-place-requires : goal.index_mut-place-requires
index_mut-place-requires c = omega (arith, found_below c.args.waiting.now.items c.args.index c.requires.there, c.args.waiting.now.ok.0)

pub unreachable-requires : goal.unreachable-requires
unreachable-requires c =
    let old : Option Held = c.index_mut-place.result.now in
    let is = found_is c.args.waiting.now.items c.args.index old (found_below c.args.waiting.now.items c.args.index c.requires.there) in
    let none : old ≡ None = sym c.take.ensures.value ∙ c.in_default.is in
    omega (arith, c.requires.there, ap length is, ap (λ (z : Option Held). length (one_in z)) (sym c.index_mut-place.ensures.value ∙ none))

pub returns-clause-packet : goal.returns-clause-packet
returns-clause-packet c =
    let old : Option Held = c.index_mut-place.result.now in
    found_is c.args.waiting.now.items c.args.index old (found_below c.args.waiting.now.items c.args.index c.requires.there)
    ∙ ap one_in (sym c.index_mut-place.ensures.value ∙ sym c.take.ensures.value ∙ c.in-Some.is)
