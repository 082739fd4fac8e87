use Rattle.lanes.proofs.Adding.{same_after}
use Rattle.std.specs.Prelude.{true}
use Rattle.std.proofs.Common.{length, sym, ◌∙◌}
use Rattle.std.proofs.lemmas.Bool.{eqb-true}
use Rattle.lanes.proofs.Idle.{none_served}
use Rattle.lanes.proofs.fill.clone_for_taps.Goals as goal

pub returns-clause-same : goal.returns-clause-same
returns-clause-same g c = same_after 9 c.args.packets.now.items c.fill_taps.new.packets.items c.fill_taps.ensures.after

pub returns-then-is_empty-clause-serves : goal.returns-then-is_empty-clause-serves
returns-then-is_empty-clause-serves g c =
    none_served true c.args.plan.now c.args.packets.now.items c.args.lanes.now tt (eqb-true (length c.args.lanes.now) 0 (sym c.is_empty.ensures ∙ c.if-is_empty.true))
