use Rattle.std.proofs.Common.{arith}
use Rattle.merge_rule.proofs.Headers.{field_fits}
use Rattle.merge_rule.proofs.alike.alike_to.Goals as goal

pub overflow_add-at : goal.overflow_add-at
overflow_add-at c =
    let rest = c.requires.apart.0 in
    let b = field_fits c.loop-place.to c.args.at c.args.end c.args.fields.now rest c.loop-place.place-index (0, 0) c.loop-place-test.true ((c.loop-place.invariant rest).1 c.requires.apart.1) in
    omega (arith, b.1, c.ranges.end.fits)

pub is_same-requires-clause-first : goal.is_same-requires-clause-first
is_same-requires-clause-first c =
    let rest = c.requires.apart.0 in
    let b = field_fits c.loop-place.to c.args.at c.args.end c.args.fields.now rest c.loop-place.place-index (0, 0) c.loop-place-test.true ((c.loop-place.invariant rest).1 c.requires.apart.1) in
    omega (arith, b.1, c.requires.first)

pub is_same-requires-clause-next : goal.is_same-requires-clause-next
is_same-requires-clause-next c =
    let rest = c.requires.apart.0 in
    let b = field_fits c.loop-place.to c.args.at c.args.end c.args.fields.now rest c.loop-place.place-index (0, 0) c.loop-place-test.true ((c.loop-place.invariant rest).1 c.requires.apart.1) in
    omega (arith, b.1, c.requires.next)

pub overflow_add-to : goal.overflow_add-to
overflow_add-to c =
    let rest = c.requires.apart.0 in
    let b = field_fits c.loop-place.to c.args.at c.args.end c.args.fields.now rest c.loop-place.place-index (0, 0) c.loop-place-test.true ((c.loop-place.invariant rest).1 c.requires.apart.1) in
    omega (arith, b.1, c.ranges.end.fits)

pub overflow_add-to-in-loop-place : goal.overflow_add-to-in-loop-place
overflow_add-to-in-loop-place c =
    let rest = c.requires.apart.0 in
    let b = field_fits c.loop-place.to c.args.at c.args.end c.args.fields.now rest c.loop-place.place-index (0, 0) c.loop-place-test.true ((c.loop-place.invariant rest).1 c.requires.apart.1) in
    omega (arith, b.1, c.ranges.end.fits)
