use Rattle.std.proofs.Common.{◌≡◌, ◌+◌, [], ◌∷◌, ◌++◌, sym, ap, ◌∙◌, subst, arith, ℕ, le_refl, le_antisymm}
use Rattle.std.specs.VecDeque.{deque_len, deque_capacity, deque_items}
use Rattle.lane_crew.specs.declared.tasks.LaneTask.TheVariants as asked
use Rattle.lane_crew.specs.Givers.{carried}
use Rattle.lanes.specs.Lanes.{DidQueue, IsFilled}
use Rattle.lane_crew.specs.Tasks.{IsOfQueues, IsElseQueue, Parted, SentQueues}
use Rattle.lane_crew.proofs.Dividing.{divided_is, divided_sent, shares_is, shares_sent}
use Rattle.lanes.proofs.Listing.{all_behind}
use Rattle.lane_crew.proofs.Returning.{one_more, parted_here, parted_sent, own_queue}
use Rattle.lane_crew.proofs.away.send_queues.Goals as goal
use Rattle.lane_crew.proofs.away.send_queues.Goals.{in-Some, in-None}

pub loop-at-preserved : goal.loop-at-preserved
loop-at-preserved g c =
    let segs = c.args.segs in
    let old = c.args.queues.now in
    let now = c.loop-at.queues in
    let at = c.loop-at.at in
    let i = c.loop-at.invariant in
    let more = i.sent.0 in
    elim c.match-load_queue.branch [
      | in-None w ↦ record {
        sent = (
          more,
          ap deque_items w.tasks-is ∙ i.sent.1,
          i.sent.2,
          subst (λ z. Parted (DidQueue segs) IsElseQueue (at + 1) old z more) (sym w.queues-is)
              (parted_here (DidQueue segs) IsElseQueue at (at + 1) old now more w.index-queues-at-in-None.result w.work.new.lane (omega arith) c.loop-at-test.true w.work.ensures.did i.sent.3),
        );
        carried_on = λ o d. divided_is o c.loop-at.giver c.load_queue.new.giver c.loop-at.tasks.items c.match-load_queue.tasks.items w.in-None.ensures.carried (ap deque_items w.tasks-is) (i.carried_on o d);
        shares_on = λ n le h. shares_is n c.loop-at.giver c.load_queue.new.giver c.loop-at.tasks.items c.match-load_queue.tasks.items w.in-None.ensures.carried (ap deque_items w.tasks-is) (i.shares_on n le h);
        few = omega (arith, i.few, ap deque_len w.tasks-is);
        room = ap deque_capacity w.tasks-is ∙ i.room;
      }
      | in-Some w ↦
          let t = asked.Queue w.send-task.result in
          let x = w.index-queues-at-in-Some.result in
          let own = own_queue segs at old now x w.in-Some.load.value.giver w.send-task.result w.send-task.ensures.same (i.sent.3.rest at x (omega arith)) c.loop-at-test.true in
          record {
            sent = (
              more ++ t ∷ [],
              one_more c.match-load_queue.tasks.items c.loop-at.tasks.items c.args.tasks.now.items more t (subst (λ z. z.items ≡ c.loop-at.tasks.items ++ t ∷ [])
                  (sym w.tasks-is) w.push_back_reserved.ensures.items) i.sent.1,
              all_behind (IsOfQueues segs old) more (t ∷ []) i.sent.2 (own, tt),
              subst (λ z. Parted (DidQueue segs) IsElseQueue (at + 1) old z (more ++ t ∷ [])) (sym w.queues-is)
                  (parted_sent (DidQueue segs) IsElseQueue at (at + 1) old now more t w.send-task.new.lane (omega arith) (λ apart. apart (ap (λ z. z.at) w.send-task.ensures.same)) i.sent.3),
            );
            carried_on = λ o d.
                let us = c.match-load_queue.tasks.items in
                divided_sent o c.loop-at.giver c.load_queue.new.giver w.in-Some.load.value.giver c.loop-at.tasks.items us t (ap deque_items w.tasks-is ∙ w.push_back_reserved.ensures.items)
                (ap (λ z. z.giver) w.send-task.ensures.same) (w.in-Some.ensures.carried.divided o (carried c.loop-at.tasks.items)) (i.carried_on o d);
            shares_on = λ n le h.
                let us = c.match-load_queue.tasks.items in
                shares_sent _ n c.loop-at.giver c.load_queue.new.giver w.in-Some.load.value.giver c.loop-at.tasks.items us t (omega (arith, le, c.saturating_sub-among.ensures))
                (ap deque_items w.tasks-is ∙ w.push_back_reserved.ensures.items) (ap (λ z. z.giver) w.send-task.ensures.same) w.in-Some.ensures.carried (i.shares_on n le h);
            few = omega (arith, i.few, ap deque_len w.tasks-is, w.push_back_reserved.ensures.len);
            room = ap deque_capacity w.tasks-is ∙ w.push_back_reserved.ensures.capacity ∙ i.room;
          }
    ]

pub work-requires : goal.work-requires
work-requires g c =
    let l = c.loop-at in
    let x = c.index-queues-at-in-None.result in
    record { filled = subst IsFilled (sym (l.invariant.sent.3.rest l.at x (le_refl l.at))) (c.requires.filled l.at x c.loop-at-test.true) }

pub send-task-requires : goal.send-task-requires
send-task-requires g c =
    let l = c.loop-at in
    let x = c.index-queues-at-in-Some.result in
    record { filled = subst IsFilled (sym (l.invariant.sent.3.rest l.at x (le_refl l.at))) (c.requires.filled l.at x c.loop-at-test.true) }

pub returns-clause-sent : goal.returns-clause-sent
returns-clause-sent g c =
    subst (λ (n : ℕ). SentQueues c.args.segs n c.args.queues.now c.loop-at.queues c.args.tasks.now.items c.loop-at.tasks.items) (le_antisymm c.loop-at.auto.at-end c.loop-at-test.false)
    c.loop-at.invariant.sent
