use Rattle.std.proofs.Common.{◌∙◌, length, sym, ap, subst}
use Rattle.std.specs.Prelude.{All}
use Rattle.lanes.specs.Lanes.{IsIdleQueue}
use Rattle.lanes.proofs.Listing.{refilled}
use Rattle.lanes.specs.Sharing.{EachFrom, IsSharing}
use Rattle.lanes.proofs.fill.open_lanes.Goals as goal

pub returns-clause-idle : goal.returns-clause-idle
returns-clause-idle c =
    let qs = c.fit_queues.new.lanes in (
      subst (All IsIdleQueue) (sym (refilled qs.len c.begin_queues.new.lanes qs.items (c.begin_queues.ensures.size ∙ ap length c.deref_mut.ensures.value) qs.ok.0)) c.begin_queues.ensures.idle,
      c.fit_taps.ensures.idle,
    )

pub returns-clause-size : goal.returns-clause-size
returns-clause-size c =
    let qs = c.fit_queues.new.lanes in
    let long = c.begin_queues.ensures.size ∙ ap length c.deref_mut.ensures.value in
    (ap length (refilled qs.len c.begin_queues.new.lanes qs.items long qs.ok.0) ∙ long ∙ c.in_ok-fit_queues.ensures.size, c.in_ok-fit_taps.ensures.size)

pub returns-clause-open : goal.returns-clause-open
returns-clause-open c = λ n every.
    let qs = c.fit_queues.new.lanes in
    subst (EachFrom (IsSharing n every every) 0) (sym (refilled qs.len c.begin_queues.new.lanes qs.items (c.begin_queues.ensures.size ∙ ap length c.deref_mut.ensures.value) qs.ok.0))
    (c.begin_queues.ensures.open n every)
