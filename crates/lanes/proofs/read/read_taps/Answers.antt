use Rattle.std.proofs.Common.{◌+◌, map, length-set, ◌∙◌, arith}
use Rattle.gro.specs.Slots.{packet_of}
use Rattle.lanes.specs.Lanes.{IsIdleTap}
use Rattle.lanes.specs.Work.{shown_by, IsWatched}
use Rattle.lanes.proofs.Listing.{all_set, each_placed, place_set}
use Rattle.lanes.proofs.read.read_taps.Goals as goal

pub loop-i-preserved : goal.loop-i-preserved
loop-i-preserved g c =
    let l = c.loop-i in
    let i = l.invariant in
    let m = c.read_tap.new.lane in
    let e = c.in_ok-read_tap.ensures in
    let P = IsWatched c.args.plan.now.snap (shown_by c.args.plan.now (map packet_of c.args.packets.now.items)) in
    record {
      idle = all_set IsIdleTap l.lanes l.i m i.idle e.idle;
      read = place_set P l.lanes l.i (l.i + 1) m (omega arith) i.read e.read;
      size = length-set l.lanes l.i m ∙ i.size;
    }

pub returns-clause-read : goal.returns-clause-read
returns-clause-read g c =
    let l = c.loop-i in
    let P = IsWatched c.args.plan.now.snap (shown_by c.args.plan.now (map packet_of c.args.packets.now.items)) in
    each_placed P l.lanes (λ k d lt. l.invariant.read k d (omega (arith, lt, l.invariant.size, c.loop-i-test.false)) lt)
