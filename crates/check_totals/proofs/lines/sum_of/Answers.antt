use Rattle.std.proofs.Common.{arith, ◌*◌, ◌^◌, length, take, subst, sym, length-take}
use Rattle.offload_model.proofs.Lists.{all_taken}
use Rattle.check_totals.specs.Counts.{IsQueueWithin}
use Rattle.check_totals.proofs.Adding.{all_at}
use Rattle.check_totals.proofs.Summing.{sum_within, within_more}
use Rattle.check_totals.proofs.lines.sum_of.Goals as goal

pub plus-sum-requires : goal.plus-sum-requires
plus-sum-requires c =
    let n = 2 ^ 50 in
    let xs = c.args.queues.now in
    let front = take c.queues.queue-index xs in
    record {
      within = (
        subst (IsQueueWithin (2 ^ 62)) (sym c.queues.invariant)
            (within_more (length front * n) (2 ^ 62) _ (omega (arith, length-take c.queues.queue-index xs, c.requires.lanes)) (sum_within n front
            (all_taken (IsQueueWithin n) c.queues.queue-index xs c.requires.within))),
        within_more n (2 ^ 62) _ (omega arith) (all_at (IsQueueWithin n) xs c.queues.queue-index _ c.requires.within c.queues-test.true),
      );
    }
