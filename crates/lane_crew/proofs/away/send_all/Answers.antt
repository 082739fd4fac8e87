use Rattle.std.proofs.Common.{◌+◌, ◌≤◌, length, max, sym, subst, arith}
use Rattle.std.specs.Vec.{with_items}
use Rattle.lane_crew.specs.Givers.{carried, Divided, HaveShares}
use Rattle.lane_crew.specs.Tasks.{SentQueues, SentTaps}
use Rattle.lane_crew.proofs.Dividing.{divided_same}
use Rattle.lanes.proofs.Listing.{refilled}
use Rattle.lane_crew.proofs.Returning.{all_away}
use Rattle.lane_crew.proofs.away.send_all.Goals as goal

pub returns : goal.returns
returns g c =
    let old = c.args.lanes.now in
    let plan = c.args.plan.now in
    let qs = c.send_queues.new.queues in
    let ls = c.send_taps.new.taps in
    let before = c.args.tasks.now.items in
    let mid = c.send_queues.new.tasks.items in
    let giver = c.args.giver.now in
    let after = c.send_taps.new.tasks.items in
    let q = subst (λ xs. SentQueues plan.segs (length xs) xs qs before mid) c.deref_mut.ensures.value c.send_queues.ensures.sent in
    let t = subst (λ xs. SentTaps plan (length xs) xs ls mid after) c.deref_mut-2.ensures.value c.send_taps.ensures.sent in
    record {
      away = all_away plan old (record { queues = with_items old.queues qs; taps = with_items old.taps ls }) qs ls before mid after c.requires.none
          (refilled old.queues.len qs old.queues.items q.3.size (omega (arith, old.queues.ok)))
          (refilled old.taps.len ls old.taps.items t.3.size (omega (arith, old.taps.ok)))
          q t;
      divided = c.send_taps.ensures.carried giver (c.send_queues.ensures.carried giver
          (subst (λ z. Divided giver giver (carried z)) (sym c.requires.none) (divided_same giver)));
      shares =
          let n = max 1 (length old.queues.items + length old.taps.items) in
          let le : max 1 c.min-at_work.result ≤ n = omega (arith, c.min-at_work.ensures, c.saturating_add-all.ensures, c.len.ensures, c.len-2.ensures, old.queues.ok, old.taps.ok) in
          c.send_taps.ensures.shares n le (c.send_queues.ensures.shares n le (subst (HaveShares n giver) (sym c.requires.none) tt));
    }
