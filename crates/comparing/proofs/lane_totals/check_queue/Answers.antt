use Rattle.std.proofs.Common.{◌≡◌, ◌∙◌, List, ℕ, map, ap, subst}
use Rattle.offload_model.specs.Merged.{Merged}
use Rattle.taps.specs.Clones.{packet_of}
use Rattle.lanes.specs.Work.{merged_in}
use Rattle.comparing.specs.Items.{AreLeft, item_at, totals_of_items}
use Rattle.check_totals.specs.Returned.{behind_items}
use Rattle.comparing.proofs.Laning.{lane_items}
use Rattle.comparing.proofs.lane_totals.check_queue.Goals as goal

pub returns-clause-totals : goal.returns-clause-totals
returns-clause-totals c = λ left are.
    let lane = c.args.lane.now in
    let slots = c.slots.result.now in
    let ps = map packet_of c.args.kept.now in
    let items : map (item_at slots c.deref.result.now) c.deref-2.result.now ≡ merged_in lane =
    ap (λ (z : List ℕ). map (item_at slots z) c.deref-2.result.now) c.deref.ensures.value
    ∙ ap (map (item_at slots lane.engine.next.items)) c.deref-2.ensures.value
    ∙ lane_items slots lane c.slots.ensures.slots in
    let t = c.check_items.ensures.totals left are in
    subst (λ (z : List Merged). (c.check_items.result ≡ totals_of_items left z) × AreLeft ps c.check_items.new.flows (behind_items left z)) items t
