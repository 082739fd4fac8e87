use Rattle.std.proofs.Common.{ℕ, Bool, Option, None, Some, List, sym, subst}
use Rattle.std.specs.Prelude.{if◌then◌else◌}
use Rattle.frame_layout.specs.Key.{key_of}
use Rattle.frame_runs.specs.declared.flows.Flows.{Flows}
use Rattle.frame_runs.specs.Flows.{Puts}
use Rattle.frame_runs.proofs.Flowing.{puts_same}
use Rattle.frame_runs.proofs.engine.settle.Goals as goal

pub returns-then-is_open-clause-puts : goal.returns-then-is_open-clause-puts
returns-then-is_open-clause-puts g c = λ ps flows own.
    let f : Flows = c.args.flows.now in
    let key : Option (List ℕ) = key_of (g.F.Frame.packet c.args.slot.now).frame in
    subst (λ (b : Bool). Puts ps f key (if b then Some c.args.place else None) f) (sym c.if-is_open.true) (puts_same ps f key (Some c.args.place) own.0)

pub returns-clause-flows : goal.returns-clause-flows
returns-clause-flows g c = λ ps flows own. c.close.ensures.flows ps flows own

pub returns-clause-puts : goal.returns-clause-puts
returns-clause-puts g c = λ ps flows own.
    let f : Flows = c.args.flows.now in
    let key : Option (List ℕ) = key_of (g.F.Frame.packet c.args.slot.now).frame in
    subst (λ (b : Bool). Puts ps f key (if b then Some c.args.place else None) c.close.new.self) (sym c.if-is_open.false) (c.close.ensures.puts ps flows own)
