use Rattle.std.proofs.Common.{◌≡◌, ℕ, Option, Some, None, sym, subst, ap, ◌∙◌}
use Rattle.std.specs.Prelude.{IfSome}
use Rattle.ref_core.specs.WeightMachine.{WeightState, IsWeighed, IsHoldingIn, holding_of}
use Rattle.ref_core.specs.declared.weight_machine.Holding.{Holding}
use Rattle.ref_core.proofs.Weighing.{found_in}
use Rattle.ref_core.proofs.weight_machine.WeightMachine.holding_of.Goals as goal

live_if : (w : WeightState) → IsWeighed w → (h : ℕ) (o : Option Holding) → o ≡ holding_of h w.holdings → IfSome o (IsHoldingIn w)
live_if w i h None e = tt
live_if w i h (Some x) e = found_in w i h x (sym e)

pub returns-clause-live : goal.returns-clause-live
returns-clause-live c = let w = c.args.self.now in let i : IsWeighed w = subst IsWeighed c.self.view_is c.self.invariant in
    let e : c.copied.result ≡ holding_of c.args.holder w.holdings = c.copied.ensures ∙ c.get.ensures.value ∙ ap (λ (s : WeightState). holding_of c.args.holder s.holdings) c.self.view_is in
    live_if w i c.args.holder c.copied.result e
