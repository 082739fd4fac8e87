use Rattle.std.proofs.Common.{◌+◌, ap, get_or, refl, arith, subst, sym, ◌∙◌}
use Rattle.gro.specs.Slots.{AreAlone}
use Rattle.lanes.specs.declared.lane.QueueLane.{QueueLane}
use Rattle.lanes.specs.Lanes.{counts_of_queues, weighed_queues, IsIdleQueue}
use Rattle.lanes.proofs.Listing.{did_none, did_more}
use Rattle.rounds.proofs.LaneCounts.{dropped, queue_counts_first, queue_weights_first}
use Rattle.rounds.proofs.lane_home.bring_queues_alone.Goals as goal

pub loop-i-init : goal.loop-i-init
loop-i-init c = record {
  count = refl;
  named = λ h. refl;
  made = (refl, refl);
  idle = did_none (λ (old new : QueueLane). IsIdleQueue new) c.args.lanes.now;
}

pub bring_queue_alone-requires-clause-alone : goal.bring_queue_alone-requires-clause-alone
bring_queue_alone-requires-clause-alone c =
    let l = c.loop-i in
    let d = c.index-lanes-i.result in
    subst (λ (z : QueueLane). AreAlone z.packets.items) (sym (l.invariant.idle.back l.i d (omega arith))) (c.requires.alone l.i d c.loop-i-test.true)

pub bring_queue_alone-requires-clause-room : goal.bring_queue_alone-requires-clause-room
bring_queue_alone-requires-clause-room c =
    let l = c.loop-i in
    let d = c.index-lanes-i.result in
    let k = queue_counts_first l.i (l.i + 1) c.args.lanes.now d (get_or l.lanes l.i d) (omega arith) c.loop-i-test.true (l.invariant.idle.back l.i d (omega arith)) in
    omega (arith, k, l.invariant.count, l.invariant.made.0, c.requires.room)

pub loop-i-preserved : goal.loop-i-preserved
loop-i-preserved c =
    let l = c.loop-i in
    let old = c.args.lanes.now in
    let d = c.index-lanes-i.result in
    let x = get_or l.lanes l.i d in
    let e = c.bring_queue_alone in
    let k = queue_counts_first l.i (l.i + 1) old d x (omega arith) c.loop-i-test.true (l.invariant.idle.back l.i d (omega arith)) in
    record {
      count = omega (arith, k, e.ensures.adds.home, l.invariant.count);
      named = λ h. omega (arith, queue_weights_first h l.i (l.i + 1) old d x (omega arith) c.loop-i-test.true (l.invariant.idle.back l.i d (omega arith)), e.ensures.adds.named h, l.invariant.named h);
      made = (e.ensures.adds.made.0 ∙ l.invariant.made.0, e.ensures.adds.made.1 ∙ l.invariant.made.1);
      idle = did_more (λ (old new : QueueLane). IsIdleQueue new) l.i (l.i + 1) old l.lanes d e.new.lane (omega arith) c.loop-i-test.true
          e.ensures.idle l.invariant.idle;
    }

pub returns-clause-adds : goal.returns-clause-adds
returns-clause-adds c =
    let l = c.loop-i in
    let none = dropped l.i c.args.lanes.now (omega (arith, c.loop-i-test.false)) in
    record {
      home = omega (arith, ap counts_of_queues none, l.invariant.count);
      named = λ h. omega (arith, ap (weighed_queues h) none, l.invariant.named h);
      made = l.invariant.made;
    }

pub returns-clause-idle : goal.returns-clause-idle
returns-clause-idle c =
    let l = c.loop-i in
    λ i d lt. l.invariant.idle.front i d (omega (arith, lt, l.invariant.idle.size, c.loop-i-test.false)) (omega (arith, lt, l.invariant.idle.size))
