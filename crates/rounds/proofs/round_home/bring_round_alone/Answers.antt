use Rattle.std.proofs.Common.{List, length, sym, ap, ◌∙◌, subst}
use Rattle.std.specs.Prelude.{All}
use Rattle.lanes.specs.declared.lane.QueueLane.{QueueLane}
use Rattle.lanes.specs.Lanes.{IsIdleQueue}
use Rattle.lanes.proofs.Listing.{refilled}
use Rattle.rounds.proofs.round_home.bring_round_alone.Goals as goal

pub returns-clause-idle : goal.returns-clause-idle
returns-clause-idle c =
    let l = c.args.lanes.now in
    let q = c.bring_queues_alone in
    let size = q.ensures.size ∙ ap length c.deref_mut.ensures.value in
    (subst (λ (z : List QueueLane). All IsIdleQueue z) (sym (refilled l.queues.len q.new.lanes l.queues.items size l.queues.ok.0)) q.ensures.idle, c.requires.idle)
