use Rattle.std.proofs.Common.{◌≡◌, ℕ, Some, Option, List, sym, ap, ◌∙◌}
use Rattle.std.specs.Map.{lookup}
use Rattle.slab.specs.Slab.{get}
use Rattle.frame_layout.specs.Key.{key_eq, key_of}
use Rattle.frame_runs.specs.declared.flows.Flows.{Flows}
use Rattle.frame_runs.specs.Flows.{slot_of}
use Rattle.frame_runs.proofs.Flowing.{finds_live}
use Rattle.frame_runs.proofs.flows.Flows.run_by_key.Goals as goal

pub returns-clause-some : goal.returns-clause-some
returns-clause-some g c = λ ps flows.
    let key : Option (List ℕ) = key_of (g.F.Frame.packet c.args.slot.now).frame in
    let at : ℕ = c.in_ok-at.field-0.now in
    let held : slot_of c.args.self.now key ≡ Some at
    = ap (λ (z : Flows). lookup (key_eq key) z.entries) (sym c.self.view_is)
    ∙ ap (λ z. lookup (key_eq z) c.self.inside.keys.entries) (sym c.flow_key-key.ensures.key) ∙ sym c.in_ok-at.ensures.value in
    finds_live ps c.args.self.now key at c.in_ok-group.group.now flows held (ap (λ (z : Flows). get z.groups at) (sym c.self.view_is) ∙ sym c.in_ok-group.ensures)
