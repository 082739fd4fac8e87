use Rattle.std.proofs.Common.{ℕ, arith, ap, get_or}
use Rattle.rounds.specs.Table.{place_missing, place_weight}
use Rattle.rounds.proofs.Places.{missing-set, missing-at, missing_weight-set, sole_named}
use Rattle.rounds.proofs.mark_table.bring_one.Goals as goal

pub bring-requires : goal.bring-requires
bring-requires c =
    let i = missing-at c.args.places.now c.mark-mark.result c.index-places-mark.result (omega arith) in
    record { room = omega (arith, i, c.requires.room) }

pub returns-then-mark-places-clause-count : goal.returns-then-mark-places-clause-count
returns-then-mark-places-clause-count c =
    let i = missing-set c.args.places.now c.mark-mark.result c.bring.new.place c.index-places-mark.result (omega arith) in
    let h = ap place_missing c.bring.ensures.place in
    omega (arith, i, h, c.bring.ensures.home)

pub returns-then-mark-places-clause-named : goal.returns-then-mark-places-clause-named
returns-then-mark-places-clause-named c = λ names h named.
    let ps = c.args.places.now in
    let k = c.mark-mark.result in
    let d = c.index-places-mark.result in
    let w : ℕ → ℕ = λ m. h (names m) in
    let i = missing_weight-set w 0 ps k c.args.sole.mark c.bring.new.place d (omega arith) (omega (arith, c.mark-mark.ensures.value)) in
    let own = ap (λ (n : ℕ). place_weight (h n) (get_or ps k d)) (sole_named names c.args.sole named) in
    let none = ap (place_weight (w c.args.sole.mark)) c.bring.ensures.place in
    omega (arith, i, own, none, c.bring.ensures.named h)
