use Rattle.std.proofs.Common.{◌+◌, drop, get_or, arith}
use Rattle.lanes.specs.declared.lane.QueueLane.{QueueLane}
use Rattle.lanes.specs.Lanes.{of_queue, of_queues, IsIdleQueue}
use Rattle.lanes.proofs.Listing.{did_none, did_more}
use Rattle.rounds.proofs.Coming.{may_rest, may_first, comes_none, comes_step, comes_all}
use Rattle.rounds.proofs.LaneCounts.{dropped, queue_first, queue_counts_first, no_queues}
use Rattle.rounds.proofs.lane_home.bring_queues.Goals as goal

pub loop-i-init : goal.loop-i-init
loop-i-init c = record {
  comes = comes_none (of_queues c.args.lanes.now) c.args.pool.now c.args.places.now c.requires.may;
  idle = did_none (λ (old new : QueueLane). IsIdleQueue new) c.args.lanes.now;
  bare = c.requires.bare;
  room = c.requires.spare;
  spare = omega arith;
}

pub bring_queue-requires-clause-may : goal.bring_queue-requires-clause-may
bring_queue-requires-clause-may c =
    let l = c.loop-i in
    let old = c.args.lanes.now in
    let d = c.index-lanes-i.result in
    let x = get_or l.lanes l.i d in
    may_first (of_queues (drop l.i old)) (of_queue x) (of_queues (drop (l.i + 1) old)) l.pool l.places
    (queue_first l.i (l.i + 1) old d x (omega arith) c.loop-i-test.true (l.invariant.idle.back l.i d (omega arith)))
    (may_rest (of_queues old) (of_queues (drop l.i old)) c.args.pool.now l.pool c.args.places.now l.places c.requires.may l.invariant.comes)

pub bring_queue-requires-clause-spare : goal.bring_queue-requires-clause-spare
bring_queue-requires-clause-spare c =
    let l = c.loop-i in
    let d = c.index-lanes-i.result in
    let k = queue_counts_first l.i (l.i + 1) c.args.lanes.now d (get_or l.lanes l.i d) (omega arith) c.loop-i-test.true (l.invariant.idle.back l.i d (omega arith)) in
    omega (arith, k, l.invariant.room)

pub loop-i-preserved : goal.loop-i-preserved
loop-i-preserved c =
    let l = c.loop-i in
    let old = c.args.lanes.now in
    let d = c.index-lanes-i.result in
    let x = get_or l.lanes l.i d in
    let e = c.bring_queue in
    let same = l.invariant.idle.back l.i d (omega arith) in
    let k = queue_counts_first l.i (l.i + 1) old d x (omega arith) c.loop-i-test.true same in
    record {
      comes = comes_step (of_queues old) (of_queues (drop l.i old)) (of_queue x) (of_queues (drop (l.i + 1) old)) c.args.pool.now l.pool e.new.pool c.args.places.now l.places e.new.places
          (queue_first l.i (l.i + 1) old d x (omega arith) c.loop-i-test.true same) l.invariant.comes e.ensures.comes;
      idle = did_more (λ (old new : QueueLane). IsIdleQueue new) l.i (l.i + 1) old l.lanes d e.new.lane (omega arith) c.loop-i-test.true e.ensures.idle l.invariant.idle;
      bare = e.ensures.bare;
      room = omega (arith, k, e.ensures.spare, l.invariant.room);
      spare = omega (arith, k, e.ensures.spare, l.invariant.spare);
    }

pub returns-clause-comes : goal.returns-clause-comes
returns-clause-comes c =
    let l = c.loop-i in
    let old = c.args.lanes.now in
    comes_all (of_queues old) (of_queues (drop l.i old)) c.args.pool.now l.pool c.args.places.now l.places
    (no_queues (drop l.i old) (dropped l.i old (omega (arith, c.loop-i-test.false)))) l.invariant.comes

pub returns-clause-spare : goal.returns-clause-spare
returns-clause-spare c =
    let l = c.loop-i in
    omega (arith, l.invariant.spare)

pub returns-clause-idle : goal.returns-clause-idle
returns-clause-idle c =
    let l = c.loop-i in
    λ i d lt. l.invariant.idle.front i d (omega (arith, lt, l.invariant.idle.size, c.loop-i-test.false)) (omega (arith, lt, l.invariant.idle.size))
