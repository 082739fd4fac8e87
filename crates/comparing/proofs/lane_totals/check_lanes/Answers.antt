use Rattle.std.proofs.Common.{◌≡◌, ◌∙◌, List, map, sym, ap, subst}
use Rattle.std.specs.List.{AllByRecursion}
use Rattle.taps.specs.Clones.{packet_of}
use Rattle.lanes.specs.declared.lane.QueueLane.{QueueLane}
use Rattle.lanes.specs.declared.lane.TapLane.{TapLane}
use Rattle.lanes.specs.Work.{merged_in}
use Rattle.check_totals.specs.declared.totals.TapTotals.{TapTotals}
use Rattle.check_totals.specs.declared.totals.QueueTotals.{QueueTotals}
use Rattle.check_totals.specs.Returned.{flows_of}
use Rattle.comparing.specs.Compared.{AreShortTaps}
use Rattle.comparing.specs.Items.{MayCompare, totals_by}
use Rattle.comparing.specs.Texts.{totals_of_texts}
use Rattle.comparing.proofs.Laning.{all_totals, counts}
use Rattle.comparing.proofs.lane_totals.check_lanes.Goals as goal

pub check_queues-requires-clause-lanes : goal.check_queues-requires-clause-lanes
check_queues-requires-clause-lanes c = subst (λ (z : List QueueLane). AllByRecursion MayCompare z) (sym c.deref.ensures.value) c.requires.lanes

pub check_queues-requires-clause-left : goal.check_queues-requires-clause-left
check_queues-requires-clause-left c = record { are = c.in_ok-flows.ensures.left }

pub check_taps-requires : goal.check_taps-requires
check_taps-requires c = record { short = subst AreShortTaps (sym c.deref-2.ensures.value) c.requires.short }

pub returns : goal.returns
returns c =
    let ps = map packet_of c.args.kept.now in
    let queues = c.args.lanes.now.queues.items in
    let taps = c.args.lanes.now.taps.items in
    let counted = subst (λ (z : List QueueLane). c.in_ok-queues.queues.items ≡ totals_by (flows_of ps) (map merged_in z)) c.deref.ensures.value c.in_ok-queues.ensures.totals in
    let told = subst (λ (z : List TapLane). c.in_ok-taps.taps.items ≡ map (λ (l : TapLane). totals_of_texts l.texts) z) c.deref-2.ensures.value c.in_ok-taps.ensures.totals in
    record {
      compared = ap (λ (z : List QueueTotals). counts z c.in_ok-taps.taps.items) counted ∙ ap (λ (z : List TapTotals). counts (totals_by (flows_of ps) (map merged_in queues)) z) told;
      totals = λ o captured below eq et m w. all_totals o ps queues taps c.in_ok-queues.queues.items c.in_ok-taps.taps.items below eq et captured m w counted told;
    }
