use Rattle.std.proofs.Common.{◌≡◌, ◌+◌, [], drop, get_or, sym, subst, arith}
use Rattle.lanes.specs.declared.lane.TapLane.{TapLane}
use Rattle.lanes.specs.Lanes.{of_tap, of_taps, IsIdleTap}
use Rattle.lanes.proofs.Listing.{did_none, did_more}
use Rattle.rounds.proofs.Coming.{may_rest, may_first, comes_none, comes_step, comes_all}
use Rattle.rounds.proofs.LaneCounts.{dropped, tap_first, no_taps}
use Rattle.rounds.proofs.lane_home.bring_taps.Goals as goal

pub loop-i-init : goal.loop-i-init
loop-i-init c = record {
  comes = comes_none (of_taps c.args.lanes.now) c.args.pool.now c.args.places.now c.requires.may;
  idle = did_none (λ (old new : TapLane). IsIdleTap new) c.args.lanes.now;
}

pub bring_tap-requires-clause-may : goal.bring_tap-requires-clause-may
bring_tap-requires-clause-may c =
    let l = c.loop-i in
    let old = c.args.lanes.now in
    let d = c.index-lanes-i.result in
    let x = get_or l.lanes l.i d in
    may_first (of_taps (drop l.i old)) (of_tap x) (of_taps (drop (l.i + 1) old)) l.pool l.places
    (tap_first l.i (l.i + 1) old d x (omega arith) c.loop-i-test.true (l.invariant.idle.back l.i d (omega arith)))
    (may_rest (of_taps old) (of_taps (drop l.i old)) c.args.pool.now l.pool c.args.places.now l.places c.requires.may l.invariant.comes)

pub bring_tap-requires-clause-spent : goal.bring_tap-requires-clause-spent
bring_tap-requires-clause-spent c =
    let l = c.loop-i in
    let d = c.index-lanes-i.result in
    subst (λ (z : TapLane). z.clones.items ≡ []) (sym (l.invariant.idle.back l.i d (omega arith))) (c.requires.spent l.i d c.loop-i-test.true)

pub loop-i-preserved : goal.loop-i-preserved
loop-i-preserved c =
    let l = c.loop-i in
    let old = c.args.lanes.now in
    let d = c.index-lanes-i.result in
    let x = get_or l.lanes l.i d in
    let e = c.bring_tap in
    let same = l.invariant.idle.back l.i d (omega arith) in
    record {
      comes = comes_step (of_taps old) (of_taps (drop l.i old)) (of_tap x) (of_taps (drop (l.i + 1) old)) c.args.pool.now l.pool e.new.pool c.args.places.now l.places e.new.places
          (tap_first l.i (l.i + 1) old d x (omega arith) c.loop-i-test.true same) l.invariant.comes e.ensures.comes;
      idle = did_more (λ (old new : TapLane). IsIdleTap new) l.i (l.i + 1) old l.lanes d e.new.lane (omega arith) c.loop-i-test.true e.ensures.idle l.invariant.idle;
    }

pub returns-clause-comes : goal.returns-clause-comes
returns-clause-comes c =
    let l = c.loop-i in
    let old = c.args.lanes.now in
    comes_all (of_taps old) (of_taps (drop l.i old)) c.args.pool.now l.pool c.args.places.now l.places
    (no_taps (drop l.i old) (dropped l.i old (omega (arith, c.loop-i-test.false)))) l.invariant.comes

pub returns-clause-idle : goal.returns-clause-idle
returns-clause-idle c =
    let l = c.loop-i in
    λ i d lt. l.invariant.idle.front i d (omega (arith, lt, l.invariant.idle.size, c.loop-i-test.false)) (omega (arith, lt, l.invariant.idle.size))
