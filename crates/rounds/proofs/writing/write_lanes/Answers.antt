use Rattle.std.proofs.Common.{List, ap}
use Rattle.std.proofs.lemmas.Result.{err_from_is_err_and}
use Rattle.std.specs.List.{flat_map}
use Rattle.lanes.specs.declared.lane.QueueLane.{QueueLane}
use Rattle.lanes.specs.declared.lane.TapLane.{TapLane}
use Rattle.rounds.specs.Lanes.{queue_bytes, tap_bytes}
use Rattle.rounds.proofs.Lanes.{ok_at, err_at, front_at}
use Rattle.rounds.proofs.writing.write_lanes.Goals as goal

pub returns-in_err-write_queues-clause-err : goal.returns-in_err-write_queues-clause-err
returns-in_err-write_queues-clause-err g c =
    let p = err_from_is_err_and c.from_residual.result c.from_residual.ensures.1 in
    let order = c.args.file.now.order in
    rw p.1 (front_at _ _ (flat_map (queue_bytes order) c.deref.result.now) (flat_map (queue_bytes order) c.args.lanes.now.queues.items) (flat_map (tap_bytes order) c.args.lanes.now.taps.items)
    (ap (λ (z : List QueueLane). flat_map (queue_bytes order) z) c.deref.ensures.value) c.in_err-write_queues.ensures.err)

pub returns-clause-ok : goal.returns-clause-ok
returns-clause-ok g c =
    let order = c.args.file.now.order in
    ok_at c.write_taps.result _ _ _ (flat_map (queue_bytes order) c.deref.result.now) (flat_map (tap_bytes order) c.deref-2.result.now) (flat_map (queue_bytes order) c.args.lanes.now.queues.items)
    (flat_map (tap_bytes order) c.args.lanes.now.taps.items)
    (ap (λ (z : List QueueLane). flat_map (queue_bytes order) z) c.deref.ensures.value) (ap (λ (z : List TapLane). flat_map (tap_bytes order) z) c.deref-2.ensures.value)
    c.in_ok-write_queues.ensures.ok c.write_taps.ensures.ok

pub returns-clause-err : goal.returns-clause-err
returns-clause-err g c =
    let order = c.args.file.now.order in
    err_at c.write_taps.result _ _ _ (flat_map (queue_bytes order) c.deref.result.now) (flat_map (tap_bytes order) c.deref-2.result.now) (flat_map (queue_bytes order) c.args.lanes.now.queues.items)
    (flat_map (tap_bytes order) c.args.lanes.now.taps.items)
    (ap (λ (z : List QueueLane). flat_map (queue_bytes order) z) c.deref.ensures.value) (ap (λ (z : List TapLane). flat_map (tap_bytes order) z) c.deref-2.ensures.value)
    c.in_ok-write_queues.ensures.ok c.write_taps.ensures.err
