use Rattle.std.proofs.Common.{subst, sym}
use Rattle.std.specs.Prelude.{All, IsSome}
use Rattle.lanes.specs.declared.lane.TapLane.{TapLane}
use Rattle.lanes.specs.Work.{Did}
use Rattle.lanes.proofs.Whole.{is_done, is_refused}
use Rattle.lanes.proofs.round.finish.Goals as goal

pub returns-then-are_read-clause-ended : goal.returns-then-are_read-clause-ended
returns-then-are_read-clause-ended c = λ shared plan old before f d.
    let m = c.check_soles.new.lanes in
    is_done shared plan old before m f (subst (Did plan before) (sym c.check_soles.ensures.same.1) d)
    (subst (All (λ (t : TapLane). IsSome t.texts)) c.deref.ensures.value (c.are_read.ensures.read c.if-are_read.true))

pub returns-else-are_read-clause-ended : goal.returns-else-are_read-clause-ended
returns-else-are_read-clause-ended c = λ shared plan old before f d.
    is_refused shared plan old before c.check_soles.new.lanes f (subst (Did plan before) (sym c.check_soles.ensures.same.1) d)
