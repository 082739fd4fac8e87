use Rattle.std.proofs.Common.{◌≡◌, [], length-set, ap, ◌∙◌, arith}
use Rattle.taps.specs.Clones.{blocks_of}
use Rattle.lanes.specs.declared.lane.TapLane.{TapLane}
use Rattle.lanes.specs.Lanes.{of_taps, IsIdleTap, IsTapReady}
use Rattle.lanes.proofs.Adding.{blocks_both, keeps_both, set_blocks, set_keeps}
use Rattle.lanes.proofs.Listing.{all_set, front_set}
use Rattle.lanes.proofs.fill.give_all_up.Goals as goal

pub loop-i-preserved : goal.loop-i-preserved
loop-i-preserved c =
    let l = c.loop-i in
    let i = l.invariant in
    let m = c.give_up.new.lane in
    let e = ap blocks_of c.give_up.ensures.none in
    let s = length-set l.lanes l.i m in
    record {
      ready = all_set IsTapReady l.lanes l.i m i.ready (omega (arith, e));
      kept = keeps_both (of_taps c.args.lanes.now) (of_taps l.lanes) (of_taps _) i.kept (set_keeps l.i l.lanes c.index-lanes-i.result m (omega arith) c.give_up.ensures.kept);
      blocks = blocks_both (of_taps c.args.lanes.now) (of_taps l.lanes) (of_taps _) i.blocks (set_blocks l.i l.lanes c.index-lanes-i.result m (omega arith) c.give_up.ensures.blocks);
      none = λ k d lt in_lanes. front_set (λ (t : TapLane). t.clones.items ≡ []) l.lanes l.i m i.none c.give_up.ensures.none k d (omega (arith, lt)) in_lanes;
      idle = λ h. all_set IsIdleTap l.lanes l.i m (i.idle h) (c.give_up.ensures.idle (i.idle h l.i c.index-lanes-i.result (omega arith)));
      size = s ∙ i.size;
    }
