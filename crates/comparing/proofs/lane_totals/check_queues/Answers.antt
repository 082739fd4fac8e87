use Rattle.std.proofs.Common.{◌++◌, map, sym, ap, subst, arith}
use Rattle.taps.specs.Clones.{packet_of}
use Rattle.lanes.specs.Work.{merged_in}
use Rattle.check_totals.specs.Returned.{flows_of}
use Rattle.comparing.specs.Items.{MayCompare, totals_by}
use Rattle.comparing.proofs.ItemTotals.{all_get, mapped_next}
use Rattle.comparing.proofs.Laning.{lanes_next, lanes_all}
use Rattle.comparing.proofs.lane_totals.check_queues.Goals as goal

pub loop-i-init : goal.loop-i-init
loop-i-init c =
    let ps = map packet_of c.args.kept.now in
    record {
      flows = c.requires.flows;
      so_far = record { now = flows_of ps; are = c.requires.left; totals = ap (λ z. z ++ totals_by (flows_of ps) (map merged_in c.args.lanes.now)) c.in_ok-totals.ensures.items };
      size = omega (arith, c.in_ok-totals.ensures.len);
      room = omega (arith, c.in_ok-totals.ensures.capacity);
    }

pub check_queue-requires-clause-lane : goal.check_queue-requires-clause-lane
check_queue-requires-clause-lane c = subst MayCompare (sym c.index-lanes-i.is) (all_get MayCompare c.args.lanes.now c.loop-i.i c.index-lanes-i.result (omega arith) c.requires.lanes)

pub push_reserved-requires : goal.push_reserved-requires
push_reserved-requires c = omega (arith, c.loop-i.invariant.size, c.loop-i.invariant.room)

pub loop-i-preserved : goal.loop-i-preserved
loop-i-preserved c =
    let l = c.loop-i in
    let ls = c.args.lanes.now in
    let ps = map packet_of c.args.kept.now in
    let lane = c.index-lanes-i.result in
    let x = l.invariant.so_far in
    record {
      flows = c.check_queue.ensures.flows;
      so_far = lanes_next ps (map merged_in ls) l.i (merged_in lane) l.flows c.check_queue.new.flows l.totals.items c.push_reserved.new.self.items c.check_queue.result x
          (mapped_next merged_in ls l.i lane (omega arith) c.index-lanes-i.is) c.push_reserved.ensures.items (c.check_queue.ensures.totals x.now x.are);
      size = omega (arith, l.invariant.size, c.push_reserved.ensures.len);
      room = omega (arith, l.invariant.room, c.push_reserved.ensures.capacity);
    }

pub returns : goal.returns
returns c = record {
  totals = lanes_all (map packet_of c.args.kept.now) c.args.lanes.now c.loop-i.i c.loop-i.flows c.loop-i.totals.items c.loop-i-test.false c.loop-i.invariant.so_far;
}
