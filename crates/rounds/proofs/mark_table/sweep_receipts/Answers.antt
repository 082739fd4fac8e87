use Rattle.std.proofs.Common.{true, arith, refl}
use Rattle.frags.specs.RoundAccount.{of_lives}
use Rattle.rounds.specs.Marks.{all, others}
use Rattle.rounds.specs.Table.{place_at}
use Rattle.rounds.proofs.Places.{counted_all, of_life}
use Rattle.rounds.proofs.mark_table.sweep_receipts.Goals as goal

pub receive_one-requires-clause-range : goal.receive_one-requires-clause-range
receive_one-requires-clause-range c =
    let r = c.in-Some.receipt in
    let a = (c.in-Some.ensures.kept all r.mark).0 in
    let b = (c.loop-receipt.invariant.settles r.mark).0 (λ l. true) in
    let w = counted_all r.mark r.life r.weight in
    let lt = c.requires.marked.range r.mark (omega (arith, a, b, w, c.weight.ensures.range, c.weight.ensures.value)) in
    omega (arith, lt, c.loop-receipt.invariant.size)

pub receive_one-requires-clause-life : goal.receive_one-requires-clause-life
receive_one-requires-clause-life c =
    let r = c.in-Some.receipt in
    let one = c.requires.marked.lives r.mark in
    let a = (c.in-Some.ensures.kept (of_lives (others one.0)) r.mark).0 in
    let b = (c.loop-receipt.invariant.settles r.mark).0 (others one.0) in
    of_life one.0 (place_at c.loop-receipt.places r.mark) r.mark r (c.loop-receipt.invariant.owed r.mark) refl (omega (arith, c.weight.ensures.range, c.weight.ensures.value))
    (omega (arith, a, b, one.1))
