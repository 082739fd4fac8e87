use Rattle.std.proofs.Common.{◌+◌, ◌≤◌, List, length, sym, ap, ◌∙◌, subst}
use Rattle.std.specs.Prelude.{All}
use Rattle.lanes.specs.declared.lane.QueueLane.{QueueLane}
use Rattle.lanes.specs.declared.lane.TapLane.{TapLane}
use Rattle.lanes.specs.Lanes.{counts_of_queues, of_queues, of_taps, IsIdleQueue, IsIdleTap}
use Rattle.lanes.proofs.Listing.{refilled}
use Rattle.rounds.specs.Marks.{nothing}
use Rattle.rounds.specs.Table.{Comes, MayCome}
use Rattle.rounds.proofs.Coming.{and_first, and_rest, and_comes}
use Rattle.rounds.proofs.lane_home.bring_lanes.Goals as goal

pub bring_queues-requires-clause-may : goal.bring_queues-requires-clause-may
bring_queues-requires-clause-may c =
    let l = c.args.lanes.now in
    subst (λ (z : List QueueLane). MayCome (of_queues z) c.args.pool.now c.args.places.now) (sym c.deref_mut.ensures.value)
    (and_first (of_queues l.queues.items) (of_taps l.taps.items) c.args.pool.now c.args.places.now c.requires.may)

pub bring_taps-requires-clause-may : goal.bring_taps-requires-clause-may
bring_taps-requires-clause-may c =
    let l = c.args.lanes.now in
    let q = c.bring_queues in
    let came = subst (λ (z : List QueueLane). Comes (of_queues z) nothing c.args.pool.now c.args.places.now q.new.pool q.new.places) c.deref_mut.ensures.value q.ensures.comes in
    subst (λ (z : List TapLane). MayCome (of_taps z) q.new.pool q.new.places) (sym c.deref_mut-2.ensures.value)
    (and_rest (of_queues l.queues.items) (of_taps l.taps.items) c.args.pool.now q.new.pool c.args.places.now q.new.places c.requires.may came)

pub returns-clause-comes : goal.returns-clause-comes
returns-clause-comes c =
    let l = c.args.lanes.now in
    let q = c.bring_queues in
    let t = c.bring_taps in
    let came = subst (λ (z : List QueueLane). Comes (of_queues z) nothing c.args.pool.now c.args.places.now q.new.pool q.new.places) c.deref_mut.ensures.value q.ensures.comes in
    let last = subst (λ (z : List TapLane). Comes (of_taps z) nothing q.new.pool q.new.places t.new.pool t.new.places) c.deref_mut-2.ensures.value t.ensures.comes in
    and_comes (of_queues l.queues.items) (of_taps l.taps.items) c.args.pool.now q.new.pool t.new.pool c.args.places.now q.new.places t.new.places c.requires.may came last

pub returns-clause-idle : goal.returns-clause-idle
returns-clause-idle c =
    let l = c.args.lanes.now in
    let q = c.bring_queues in
    let t = c.bring_taps in (
      subst (λ (z : List QueueLane). All IsIdleQueue z) (sym (refilled l.queues.len q.new.lanes l.queues.items (q.ensures.size ∙ ap length c.deref_mut.ensures.value) l.queues.ok.0)) q.ensures.idle,
      subst (λ (z : List TapLane). All IsIdleTap z) (sym (refilled l.taps.len t.new.lanes l.taps.items (t.ensures.size ∙ ap length c.deref_mut-2.ensures.value) l.taps.ok.0)) t.ensures.idle,
    )

pub returns-clause-spare : goal.returns-clause-spare
returns-clause-spare c =
    subst (λ (z : List QueueLane). c.args.out.now.spare ≤ c.bring_queues.new.out.spare + counts_of_queues z) c.deref_mut.ensures.value c.bring_queues.ensures.spare
