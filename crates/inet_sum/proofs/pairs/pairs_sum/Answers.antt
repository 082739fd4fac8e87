use Rattle.std.proofs.Common.{◌+◌, ◌*◌, ◌^◌, ◌<◌, ◌≤◌, length, take_all, ap, ◌∙◌, arith}
use Rattle.inet_sum.specs.Sum.{fold_of as fold_of_bytes}
use Rattle.inet_sum.proofs.Held.{more, closed, number_small}
use Rattle.inet_sum.proofs.pairs.pairs_sum.Goals as goal

pub loop-i-preserved : goal.loop-i-preserved
loop-i-preserved c =
    let xs = c.args.bytes.now in
    let i = c.loop-i.i in
    let inside : 16 * i + 16 ≤ length xs = omega (arith, c.loop-i-test.true, c.requires.whole) in
    more xs i c.loop-i.totals c.loop-i.highs c.pair_at-pair.result inside c.requires.few (number_small xs (16 * i) inside c.type_inv.bytes)
    c.pair_at-pair.ensures.pair c.loop-i.invariant

pub returns-clause-fold : goal.returns-clause-fold
returns-clause-fold c =
    let xs = c.args.bytes.now in
    let i = c.loop-i.i in
    let few : i < 2 ^ 28 = omega (arith, c.loop-i.auto.i-end, c.requires.few) in
    let all : length xs ≤ 16 * i = omega (arith, c.loop-i-test.false, c.requires.whole) in
    c.turned.ensures.fold ∙ closed i c.loop-i.totals c.loop-i.highs _ few c.loop-i.invariant ∙ ap fold_of_bytes (take_all (16 * i) xs all)
