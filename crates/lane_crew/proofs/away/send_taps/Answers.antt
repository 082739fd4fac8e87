use Rattle.std.proofs.Common.{◌≡◌, ◌+◌, [], ◌∷◌, ◌++◌, get_or, sym, ap, ◌∙◌, subst, arith, ℕ, le_antisymm}
use Rattle.std.specs.VecDeque.{deque_len, deque_capacity, deque_items}
use Rattle.lane_crew.specs.declared.tasks.LaneTask.TheVariants as asked
use Rattle.lane_crew.specs.Givers.{carried}
use Rattle.lanes.specs.Lanes.{DidTap}
use Rattle.lane_crew.specs.Tasks.{IsOfTaps, IsElseTap, Parted, SentTaps}
use Rattle.lane_crew.proofs.Dividing.{divided_is, divided_sent, shares_is, shares_sent}
use Rattle.lanes.proofs.Listing.{all_behind}
use Rattle.lane_crew.proofs.Returning.{one_more, parted_here, parted_sent, own_tap}
use Rattle.lane_crew.proofs.away.send_taps.Goals as goal
use Rattle.lane_crew.proofs.away.send_taps.Goals.{in-Some, in-None}

pub loop-at-preserved : goal.loop-at-preserved
loop-at-preserved g c =
    let plan = c.args.plan.now in
    let old = c.args.taps.now in
    let now = c.loop-at.taps in
    let at = c.loop-at.at in
    let i = c.loop-at.invariant in
    let more = i.sent.0 in
    elim c.match-load_tap.branch [
      | in-Some w ↦
          let t = asked.Tap w.send-task.result in
          let x = w.index-taps-at-in-Some.result in
          let own =
          own_tap plan at old now x w.in-Some.load.value.filter w.in-Some.load.value.giver w.send-task.result w.send-task.ensures.same w.in-Some.ensures.same
          (i.sent.3.rest at x (omega arith)) c.loop-at-test.true in
          record {
            sent = (
              more ++ t ∷ [],
              one_more c.match-load_tap.tasks.items c.loop-at.tasks.items c.args.tasks.now.items more t (subst (λ z. z.items ≡ c.loop-at.tasks.items ++ t ∷ [])
                  (sym w.tasks-is) w.push_back_reserved.ensures.items) i.sent.1,
              all_behind (IsOfTaps plan old) more (t ∷ []) i.sent.2 (own, tt),
              subst (λ z. Parted (DidTap plan.filter plan.snap) IsElseTap (at + 1) old z (more ++ t ∷ [])) (sym w.taps-is)
                  (parted_sent (DidTap plan.filter plan.snap) IsElseTap at (at + 1) old now more t w.send-task.new.lane (omega arith)
                  (λ apart. apart (ap (λ z. z.at) w.send-task.ensures.same)) i.sent.3),
            );
            carried_on = λ o d.
                let us = c.match-load_tap.tasks.items in
                divided_sent o c.loop-at.giver c.load_tap.new.giver w.in-Some.load.value.giver c.loop-at.tasks.items us t (ap deque_items w.tasks-is ∙ w.push_back_reserved.ensures.items)
                (ap (λ z. z.giver) w.send-task.ensures.same) (w.in-Some.ensures.carried.divided o (carried c.loop-at.tasks.items)) (i.carried_on o d);
            shares_on = λ n le h.
                let us = c.match-load_tap.tasks.items in
                shares_sent _ n c.loop-at.giver c.load_tap.new.giver w.in-Some.load.value.giver c.loop-at.tasks.items us t (omega (arith, le, c.saturating_sub-among.ensures))
                (ap deque_items w.tasks-is ∙ w.push_back_reserved.ensures.items) (ap (λ z. z.giver) w.send-task.ensures.same) w.in-Some.ensures.carried (i.shares_on n le h);
            few = omega (arith, i.few, ap deque_len w.tasks-is, w.push_back_reserved.ensures.len);
            room = ap deque_capacity w.tasks-is ∙ w.push_back_reserved.ensures.capacity ∙ i.room;
          }
      | in-None w ↦
          let x = w.index-taps-at-in-None.result in
          let did = subst (λ z. DidTap z plan.snap (get_or now at x) w.watch.new.lane) w.program_in.ensures.same w.watch.ensures.did in
          record {
            sent = (
              more,
              ap deque_items w.tasks-is ∙ i.sent.1,
              i.sent.2,
              subst (λ z. Parted (DidTap plan.filter plan.snap) IsElseTap (at + 1) old z more) (sym w.taps-is)
                  (parted_here (DidTap plan.filter plan.snap) IsElseTap at (at + 1) old now more x w.watch.new.lane (omega arith) c.loop-at-test.true did i.sent.3),
            );
            carried_on = λ o d. divided_is o c.loop-at.giver c.load_tap.new.giver c.loop-at.tasks.items c.match-load_tap.tasks.items w.in-None.ensures.carried (ap deque_items w.tasks-is) (i.carried_on o d);
            shares_on = λ n le h. shares_is n c.loop-at.giver c.load_tap.new.giver c.loop-at.tasks.items c.match-load_tap.tasks.items w.in-None.ensures.carried (ap deque_items w.tasks-is) (i.shares_on n le h);
            few = omega (arith, i.few, ap deque_len w.tasks-is);
            room = ap deque_capacity w.tasks-is ∙ i.room;
          }
    ]

pub returns-clause-sent : goal.returns-clause-sent
returns-clause-sent g c =
    subst (λ (n : ℕ). SentTaps c.args.plan.now n c.args.taps.now c.loop-at.taps c.args.tasks.now.items c.loop-at.tasks.items) (le_antisymm c.loop-at.auto.at-end c.loop-at-test.false)
    c.loop-at.invariant.sent
