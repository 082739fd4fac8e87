use Rattle.std.proofs.Common.{◌≡◌, List, map, sym, subst}
use Rattle.std.specs.Prelude.{IfOk}
use Rattle.std.specs.List.{AllByRecursion}
use Rattle.pcap_io.specs.Capture.{Packet}
use Rattle.offload_model.specs.Captured.{IsCaptured}
use Rattle.taps.specs.declared.clones.TapClone.{TapClone}
use Rattle.taps.specs.Clones.{packet_of}
use Rattle.lanes.specs.declared.lane.Lanes.{Lanes}
use Rattle.lanes.specs.Work.{options_by}
use Rattle.lanes.proofs.Planned.{spread_below}
use Rattle.comparing.specs.Compared.{compared_lanes, AreShortTaps}
use Rattle.check_totals.specs.Counts.{Counts, round_totals}
use Rattle.comparing.specs.Items.{MayCompare}
use Rattle.checking.proofs.Kept.{are_lent}
use Rattle.comparing.proofs.Laning.{are_captured}
use Rattle.checking.proofs.round_check.check_worked.Goals as goal

pub check_lanes-requires-clause-lanes : goal.check_lanes-requires-clause-lanes
check_lanes-requires-clause-lanes c = subst (λ (l : Lanes). AllByRecursion MayCompare l.queues.items) (sym c.lanes-lanes.ensures.lanes) c.requires.worked.queues

pub check_lanes-requires-clause-short : goal.check_lanes-requires-clause-short
check_lanes-requires-clause-short c = subst (λ (l : Lanes). AreShortTaps l.taps.items) (sym c.lanes-lanes.ensures.lanes) c.requires.worked.taps

pub returns : goal.returns
returns c =
    let lanes = c.lanes-lanes.result.now in
    let kept = c.clones.result.now in
    let w = c.args.worked.now in
    let r = c.check_lanes.result in
    record {
      compared = subst (λ (l : Lanes). IfOk r (λ (t : Counts). t ≡ compared_lanes l (map packet_of w.clones))) c.lanes-lanes.ensures.lanes
          (subst (λ (k : List TapClone). IfOk r (λ (t : Counts). t ≡ compared_lanes lanes (map packet_of k))) c.clones.ensures.clones c.check_lanes.ensures.compared);
      totals = λ budget ps own.
          let o = options_by c.args.plan.now budget in
          let is = are_lent o ps w lanes kept c.lanes-lanes.ensures.lanes c.clones.ensures.clones own in
          let captured = subst (λ (k : List TapClone). AllByRecursion IsCaptured (map packet_of k)) (sym c.clones.ensures.clones) c.requires.worked.captured in
          subst (λ (z : List Packet). IfOk r (λ (t : Counts). t ≡ round_totals o z)) is.same
          (c.check_lanes.ensures.totals o (are_captured 0 (map packet_of kept) captured is.rising) (λ key. spread_below c.args.plan.now key c.requires.plan) (sym is.queues) (sym is.taps) is.merged
          is.watched);
    }
