use Rattle.std.proofs.Common.{◌<◌, length, ap, arith}
use Rattle.gro.specs.declared.slot.Slot.{Slot}
use Rattle.frame_runs.proofs.Chains.{all_step}
use Rattle.gro_table.proofs.Placing.{pieces_step}
use Rattle.gro_table.proofs.places.count_pieces.Goals as goal

pub overflow_add-count : goal.overflow_add-count
overflow_add-count c =
    let inside = all_step (λ j. j < length c.args.list.now.slots.items) c.args.next.now c.loop-left.left c.loop-left.k c.loop-left-test.true c.loop-left.invariant.inside in
    let step = pieces_step c.args.list.now c.args.next.now c.loop-left.left c.loop-left.k c.index.result.now c.requires.paired c.loop-left-test.true inside.0 in
    let own = ap (λ (s : Slot). length s.skb.rest) c.index.ensures in
    omega (arith, c.requires.few, c.loop-left.invariant.sum, step, own, c.count-count.ensures.value)

pub loop-left-preserved : goal.loop-left-preserved
loop-left-preserved c =
    let inside = all_step (λ j. j < length c.args.list.now.slots.items) c.args.next.now c.loop-left.left c.loop-left.k c.loop-left-test.true c.loop-left.invariant.inside in
    let step = pieces_step c.args.list.now c.args.next.now c.loop-left.left c.loop-left.k c.index.result.now c.requires.paired c.loop-left-test.true inside.0 in
    let own = ap (λ (s : Slot). length s.skb.rest) c.index.ensures in
    record {
      sum = omega (arith, c.loop-left.invariant.sum, step, own, c.count-count.ensures.value);
      inside = inside.1;
    }
