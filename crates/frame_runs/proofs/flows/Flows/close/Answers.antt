use Rattle.std.proofs.Common.{◌≡◌, ℕ, false, true, Option, List, sym, ◌∙◌}
use Rattle.frame_layout.specs.Key.{key_of}
use Rattle.frame_runs.proofs.Flowing.{closed_here, closed_by_key}
use Rattle.frame_runs.proofs.flows.Flows.close.Goals as goal

pub returns-then-is_run-clause-flows : goal.returns-then-is_run-clause-flows
returns-then-is_run-clause-flows g c = λ ps flows own.
    let key : Option (List ℕ) = key_of (g.F.Frame.packet c.args.slot.now).frame in
    (closed_here ps c.args.self.now c.remove_at.new.self key c.args.hash c.at_place-at.result c.args.run flows own c.requires.hash c.at_place-at.ensures.place
    (c.is_run.ensures.run.0 c.if-is_run.true) c.remove_at.ensures.groups c.remove_at.ensures.entries c.remove_at.ensures.places).are

pub returns-then-is_run-clause-puts : goal.returns-then-is_run-clause-puts
returns-then-is_run-clause-puts g c = λ ps flows own.
    let key : Option (List ℕ) = key_of (g.F.Frame.packet c.args.slot.now).frame in
    (closed_here ps c.args.self.now c.remove_at.new.self key c.args.hash c.at_place-at.result c.args.run flows own c.requires.hash c.at_place-at.ensures.place
    (c.is_run.ensures.run.0 c.if-is_run.true) c.remove_at.ensures.groups c.remove_at.ensures.entries c.remove_at.ensures.places).puts

pub returns-clause-flows : goal.returns-clause-flows
returns-clause-flows g c = λ ps flows own.
    let key : Option (List ℕ) = key_of (g.F.Frame.packet c.args.slot.now).frame in
    (closed_by_key ps c.args.self.now c.remove_by_key.new.self key c.args.hash c.at_place-at.result c.args.run flows own c.requires.hash c.at_place-at.ensures.place
    (λ h. let t : false ≡ true = sym c.if-is_run.false ∙ c.is_run.ensures.run.1 h in cc)
    c.remove_by_key.ensures.groups c.remove_by_key.ensures.slots c.remove_by_key.ensures.places).are

pub returns-clause-puts : goal.returns-clause-puts
returns-clause-puts g c = λ ps flows own.
    let key : Option (List ℕ) = key_of (g.F.Frame.packet c.args.slot.now).frame in
    (closed_by_key ps c.args.self.now c.remove_by_key.new.self key c.args.hash c.at_place-at.result c.args.run flows own c.requires.hash c.at_place-at.ensures.place
    (λ h. let t : false ≡ true = sym c.if-is_run.false ∙ c.is_run.ensures.run.1 h in cc)
    c.remove_by_key.ensures.groups c.remove_by_key.ensures.slots c.remove_by_key.ensures.places).puts
