use Rattle.std.proofs.Common.{◌∷◌, [], length, length-append, ap, sym, subst, arith}
use Rattle.std.specs.Prelude.{All}
use Rattle.lanes.specs.Lanes.{IsIdleQueue}
use Rattle.lanes.proofs.Listing.{all_last}
use Rattle.lanes.proofs.fill.fit_queues.Goals as goal

pub loop-queue-preserved : goal.loop-queue-preserved
loop-queue-preserved c =
    let l = c.loop-queue in
    let made = c.new.result in
    let more = c.push_reserved.ensures.items in
    record {
      idle = subst (All IsIdleQueue) (sym more) (all_last IsIdleQueue l.fitting.items made l.invariant.idle c.new.ensures.idle);
      size = omega (arith, ap length more, length-append l.fitting.items (made ∷ []), l.invariant.size);
      room = omega (arith, c.push_reserved.ensures.capacity, l.invariant.room);
    }
