use Rattle.std.proofs.Common.{◌+◌, get_or, sym, subst, arith}
use Rattle.lanes.specs.Lanes.{DidTap, IsTapReady}
use Rattle.lanes.proofs.Listing.{did_none, did_more}
use Rattle.lanes.proofs.working.watch_in_turn.Goals as goal

pub loop-i-init : goal.loop-i-init
loop-i-init g c = did_none (DidTap c.args.plan.now.filter c.args.plan.now.snap) c.args.taps.now

pub watch-requires : goal.watch-requires
watch-requires g c =
    let d = c.index-taps-i.result in
    record { ready = subst IsTapReady (sym (c.loop-i.invariant.back c.loop-i.i d (omega arith))) (c.requires.ready c.loop-i.i d c.loop-i-test.true) }

pub loop-i-preserved : goal.loop-i-preserved
loop-i-preserved g c =
    let did = subst (λ z. DidTap z c.args.plan.now.snap (get_or c.loop-i.taps c.loop-i.i c.index-taps-i.result) c.watch.new.lane) c.program_in.ensures.same c.watch.ensures.did in
    did_more (DidTap c.args.plan.now.filter c.args.plan.now.snap) c.loop-i.i (c.loop-i.i + 1) c.args.taps.now c.loop-i.taps c.index-taps-i.result c.watch.new.lane
    (omega arith) c.loop-i-test.true did c.loop-i.invariant

pub returns : goal.returns
returns g c = record { did = λ i d lt. c.loop-i.invariant.front i d (omega (arith, lt, c.loop-i-test.false)) lt }
