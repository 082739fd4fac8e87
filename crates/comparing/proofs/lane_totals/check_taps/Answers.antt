use Rattle.std.proofs.Common.{◌∙◌, map, ap, sym, subst}
use Rattle.std.specs.Prelude.{IfSome}
use Rattle.std.proofs.lemmas.List.{take_all}
use Rattle.lanes.specs.declared.lane.TapLane.{TapLane}
use Rattle.comparing.specs.Texts.{IsShort, totals_of_texts}
use Rattle.comparing.proofs.ItemTotals.{all_get, mapped_more}
use Rattle.comparing.proofs.lane_totals.check_taps.Goals as goal

pub check_tap-requires : goal.check_tap-requires
check_tap-requires c = record {
  short = subst (λ (l : TapLane). IfSome l.texts IsShort) (sym c.index-lanes-i.is)
      (all_get (λ (l : TapLane). IfSome l.texts IsShort) c.args.lanes.now c.loop-i.i c.index-lanes-i.result c.loop-i-test.true c.requires.short);
}

pub loop-i-preserved : goal.loop-i-preserved
loop-i-preserved c =
    mapped_more (λ (l : TapLane). totals_of_texts l.texts) c.args.lanes.now c.loop-i.i c.index-lanes-i.result c.loop-i.totals.items c.push_reserved.new.self.items c.check_tap.result
    c.loop-i-test.true c.index-lanes-i.is c.check_tap.ensures.totals c.loop-i.invariant c.push_reserved.ensures.items

pub returns : goal.returns
returns c = record {
  totals = c.loop-i.invariant ∙ ap (map (λ (l : TapLane). totals_of_texts l.texts)) (take_all c.loop-i.i c.args.lanes.now c.loop-i-test.false);
}
