use Rattle.std.proofs.Common.{refl, sym, ap, subst, arith}
use Rattle.std.specs.HashMap.{spare}
use Rattle.slab.specs.Slab.{Slab}
use Rattle.frame_runs.specs.declared.flows.Flows.{Flows}
use Rattle.frame_runs.specs.declared.flows.Group.{Group}
use Rattle.frame_runs.specs.Flows.{bucket_in, AreFlows}
use Rattle.frame_runs.proofs.Flowing.{flows_same, resized}
use Rattle.frame_runs.proofs.flows.Flows.reserve.Goals.{After-reserve}
use Rattle.frame_runs.proofs.flows.Flows.reserve.Goals as goal

abbrev before : (c : After-reserve) → Flows
before c = record { groups = c.self.inside.groups; entries = c.self.inside.keys.entries; room = spare c.self.inside.keys; places = c.self.inside.places.items }

pub returns-in_err-reserve-clause-flows : goal.returns-in_err-reserve-clause-flows
returns-in_err-reserve-clause-flows c = λ ps flows.
    let f : Flows = before (goal.at.returns-in_err-reserve-clause-flows c).After-reserve in
    flows_same ps f _ (ap (λ (z : Slab Group). z.slots) c.reserve.ensures.rest_kept) (λ q. refl) (λ h. refl)
    (subst (AreFlows ps) (sym c.self.view_is) flows)

pub returns-in_err-reserve-2-clause-flows : goal.returns-in_err-reserve-2-clause-flows
returns-in_err-reserve-2-clause-flows c = λ ps flows.
    let f : Flows = before (goal.at.returns-in_err-reserve-2-clause-flows c).After-reserve in
    flows_same ps f _ (ap (λ (z : Slab Group). z.slots) c.reserve.ensures.rest_kept) (c.reserve-2.ensures.entries.2) (λ h. refl)
    (subst (AreFlows ps) (sym c.self.view_is) flows)

pub returns-in_err-resize-clause-flows : goal.returns-in_err-resize-clause-flows
returns-in_err-resize-clause-flows c = λ ps flows.
    let f : Flows = before (goal.at.returns-in_err-resize-clause-flows c).After-reserve in
    flows_same ps f _ (ap (λ (z : Slab Group). z.slots) c.reserve.ensures.rest_kept) (c.reserve-2.ensures.entries.2) (λ h. resized f.places c.resize.new.self.items _ 256 _ (omega (arith, c.if-len-lt-PLACES.true, c.len.ensures, c.self.inside.places.ok.0)) c.resize.ensures.items (bucket_in h))
    (subst (AreFlows ps) (sym c.self.view_is) flows)

pub returns-in_ok-resize-clause-flows : goal.returns-in_ok-resize-clause-flows
returns-in_ok-resize-clause-flows c = λ ps flows.
    let f : Flows = before (goal.at.returns-in_ok-resize-clause-flows c).After-reserve in
    flows_same ps f _ (ap (λ (z : Slab Group). z.slots) c.reserve.ensures.rest_kept) (c.reserve-2.ensures.entries.2) (λ h. resized f.places c.resize.new.self.items _ 256 _ (omega (arith, c.if-len-lt-PLACES.true, c.len.ensures, c.self.inside.places.ok.0)) c.resize.ensures.items (bucket_in h))
    (subst (AreFlows ps) (sym c.self.view_is) flows)

pub returns-else-len-lt-PLACES-clause-flows : goal.returns-else-len-lt-PLACES-clause-flows
returns-else-len-lt-PLACES-clause-flows c = λ ps flows.
    let f : Flows = before (goal.at.returns-else-len-lt-PLACES-clause-flows c).After-reserve in
    flows_same ps f _ (ap (λ (z : Slab Group). z.slots) c.reserve.ensures.rest_kept) (c.reserve-2.ensures.entries.2) (λ h. refl)
    (subst (AreFlows ps) (sym c.self.view_is) flows)
