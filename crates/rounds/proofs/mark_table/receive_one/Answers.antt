use Rattle.std.proofs.Common.{arith}
use Rattle.rounds.proofs.Places.{missing-set, missing_weight-set, receives-missing, receives-weight}
use Rattle.rounds.proofs.mark_table.receive_one.Goals as goal

pub returns-clause-count : goal.returns-clause-count
returns-clause-count c =
    let i = missing-set c.args.places.now c.mark-mark.result c.receive.new.place c.index-places-mark.result (omega (arith, c.requires.range, c.mark-mark.ensures.value)) in
    let r = receives-missing _ _ _ c.receive.ensures.receives in
    omega (arith, i, r)

pub returns-clause-named : goal.returns-clause-named
returns-clause-named c = λ w.
    let i = missing_weight-set w 0 c.args.places.now c.mark-mark.result c.args.receipt.mark c.receive.new.place c.index-places-mark.result (omega (arith, c.requires.range, c.mark-mark.ensures.value))
    (omega (arith, c.mark-mark.ensures.value)) in
    let r = receives-weight (w c.args.receipt.mark) _ _ _ c.receive.ensures.receives in
    omega (arith, i, r)
