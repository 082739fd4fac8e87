use Rattle.std.proofs.Common.{◌+◌, length, length-set, set, ap, arith}
use Rattle.lanes.specs.declared.lane.QueueLane.{QueueLane}
use Rattle.lanes.specs.Sharing.{HasMemory, StaysAs}
use Rattle.lanes.proofs.Listing.{did_more, did_none, place_set}
use Rattle.lanes.proofs.Sharing.{lane_few, stay_rest}
use Rattle.lanes.proofs.share.start_all.Goals as goal

pub loop-i-init : goal.loop-i-init
loop-i-init c = record {
  stay = did_none StaysAs c.args.lanes.now;
  memory = λ k d lt. absurd (omega (arith, lt));
}

pub start-requires : goal.start-requires
start-requires c =
    let l = c.loop-i in
    let d = c.index-lanes-i.result in
    let n = lane_few l.i c.args.lanes.now d (omega (arith, l.invariant.stay.size)) in
    record { few = omega (arith, n, ap (λ (z : QueueLane). length z.packets.items) (l.invariant.stay.back l.i d (omega arith)), c.requires.few) }

pub loop-i-preserved : goal.loop-i-preserved
loop-i-preserved c =
    let l = c.loop-i in
    let m = c.start.new.lane in
    let e = c.in_ok-start.ensures in
    record {
      stay = did_more StaysAs l.i (l.i + 1) c.args.lanes.now l.lanes c.index-lanes-i.result m (omega arith) (omega (arith, l.invariant.stay.size)) e.stays l.invariant.stay;
      memory = place_set (λ k x. HasMemory x) l.lanes l.i (l.i + 1) m (omega arith) l.invariant.memory e.memory;
    }

pub returns-in_err-start-clause-stay : goal.returns-in_err-start-clause-stay
returns-in_err-start-clause-stay c =
    let l = c.loop-i in
    let m = c.start.new.lane in
    stay_rest (l.i + 1) c.args.lanes.now (set l.lanes l.i m)
    (did_more StaysAs l.i (l.i + 1) c.args.lanes.now l.lanes c.index-lanes-i.result m (omega arith) (omega (arith, l.invariant.stay.size)) c.in_err-start.ensures.stays l.invariant.stay)

pub returns-in_err-start-clause-size : goal.returns-in_err-start-clause-size
returns-in_err-start-clause-size c = omega (arith, length-set c.loop-i.lanes c.loop-i.i c.start.new.lane, c.loop-i.invariant.stay.size)

pub returns-clause-stay : goal.returns-clause-stay
returns-clause-stay c = stay_rest c.loop-i.i c.args.lanes.now c.loop-i.lanes c.loop-i.invariant.stay

pub returns-clause-memory : goal.returns-clause-memory
returns-clause-memory c = λ k d lt. c.loop-i.invariant.memory k d (omega (arith, lt, c.loop-i-test.false, c.loop-i.invariant.stay.size)) lt

pub returns-clause-size : goal.returns-clause-size
returns-clause-size c = c.loop-i.invariant.stay.size
