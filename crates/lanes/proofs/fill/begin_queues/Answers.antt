use Rattle.std.proofs.Common.{◌+◌, length-set, ◌∙◌, arith}
use Rattle.lanes.specs.Lanes.{IsIdleQueue}
use Rattle.lanes.specs.Sharing.{IsSharing}
use Rattle.lanes.proofs.Listing.{all_set, each_placed, place_set}
use Rattle.lanes.proofs.fill.begin_queues.Goals as goal

pub begin_queue-requires : goal.begin_queue-requires
begin_queue-requires c = record { idle = c.loop-i.invariant.idle c.loop-i.i c.index-lanes-i.result (omega arith) }

pub loop-i-preserved : goal.loop-i-preserved
loop-i-preserved c =
    let l = c.loop-i in
    let m = c.begin_queue.new.lane in
    record {
      idle = all_set IsIdleQueue l.lanes l.i m l.invariant.idle c.begin_queue.ensures.idle;
      begun = λ n every. place_set (IsSharing n every every) l.lanes l.i (l.i + 1) m (omega arith) (l.invariant.begun n every) (c.begin_queue.ensures.begun n every);
      size = length-set l.lanes l.i m ∙ l.invariant.size;
    }

pub returns-clause-open : goal.returns-clause-open
returns-clause-open c =
    let l = c.loop-i in
    λ n every. each_placed (IsSharing n every every) l.lanes (λ i d lt. l.invariant.begun n every i d (omega (arith, lt, l.invariant.size, c.loop-i-test.false)) lt)
