use Rattle.std.proofs.Common.{ℕ, Bool, Some, None, Option, List, sym, subst}
use Rattle.std.specs.Prelude.{if◌then◌else◌}
use Rattle.frame_layout.specs.Key.{key_of}
use Rattle.frame_runs.specs.declared.flows.Flows.{Flows}
use Rattle.frame_runs.specs.Flows.{Puts}
use Rattle.frame_runs.proofs.Flowing.{puts_same}
use Rattle.frame_runs.proofs.flows.Flows.begin.Goals as goal

pub returns-else-is_open-clause-puts : goal.returns-else-is_open-clause-puts
returns-else-is_open-clause-puts g c = λ ps flows is none.
    let f : Flows = c.args.self.now in
    let key : Option (List ℕ) = key_of (g.F.Frame.packet c.args.slot.now).frame in
    subst (λ (b : Bool). Puts ps f key (if b then Some c.args.group.run else None) f) (sym c.if-is_open.false) (puts_same ps f key None none)
