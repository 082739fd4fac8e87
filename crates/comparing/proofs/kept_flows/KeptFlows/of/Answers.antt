use Rattle.std.proofs.Common.{◌∙◌, ◌-◌, ◌<◌, ℕ, length, map, ap, sym, subst, arith, le_refl}
use Rattle.std.proofs.lemmas.List.{get_or-map, length-map}
use Rattle.taps.specs.Clones.{packet_of}
use Rattle.comparing.specs.KeptFlows.{AreFlowsFrom}
use Rattle.comparing.proofs.Entering.{all_entered, next_free}
use Rattle.comparing.proofs.kept_flows.KeptFlows.of.Goals as goal

pub loop-i-preserved : goal.loop-i-preserved
loop-i-preserved c =
    let l = c.loop-i in
    let kept = c.args.kept.now in
    let less : l.i - 1 < length kept = omega (arith, l.invariant.within, c.loop-i-test.true) in
    record {
      within = omega (arith, l.invariant.within);
      flows = c.in_ok-enter.ensures.flows (map packet_of kept)
          (λ d. get_or-map packet_of kept (l.i - 1) c.index-kept-i.result d less ∙ ap packet_of (sym c.index-kept-i.is))
          (subst (λ (k : ℕ). AreFlowsFrom (map packet_of kept) k l.flows) (omega (arith, c.loop-i-test.true)) l.invariant.flows);
    }

pub returns-clause-flows : goal.returns-clause-flows
returns-clause-flows c =
    let l = c.loop-i in
    all_entered (map packet_of c.args.kept.now) l.flows (subst (λ (k : ℕ). AreFlowsFrom (map packet_of c.args.kept.now) k l.flows) (omega (arith, c.loop-i-test.false)) l.invariant.flows)

pub loop-i-init : goal.loop-i-init
loop-i-init c = record {
  within = le_refl (length c.args.kept.now);
  flows = c.in_ok-flows.ensures.none (map packet_of c.args.kept.now) (length-map c.args.kept.now packet_of);
}

pub enter-requires : goal.enter-requires
enter-requires c = record { within = next_free c.args.kept.now c.loop-i.flows c.loop-i.i c.loop-i.invariant.within c.loop-i-test.true c.loop-i.invariant.flows }
