use Rattle.std.proofs.Common.{ℕ, ◌-◌, Bool, arith}
use Rattle.std.specs.Prelude.{◌==◌}
use Rattle.ip_headers.specs.Ip4.{identification}
use Rattle.frame_layout.specs.declared.layout.Layer.TheVariants.{Ethernet}
use Rattle.merge_rule.proofs.Headers.{modes_small, modes_step}
use Rattle.merge_rule.proofs.next.modes_of.Goals as goal

pub mode_before-modes-requires-clause-few : goal.mode_before-modes-requires-clause-few
mode_before-modes-requires-clause-few c =
    let stays : ℕ → Bool = λ at. identification c.args.next.now at == identification c.args.first.now at in
    omega (arith, c.loop-i.invariant.1, modes_small stays c.args.headers.now c.loop-i.i c.requires.few)

pub loop-i-preserved : goal.loop-i-preserved
loop-i-preserved c =
    let stays : ℕ → Bool = λ at. identification c.args.next.now at == identification c.args.first.now at in (
      omega (arith, c.loop-i.invariant.0),
      modes_step stays c.args.headers.now (c.loop-i.i - 1) c.loop-i.i (record { layer = Ethernet; at = 0 }) c.loop-i.modes c.mode_before-modes.result
          (omega arith) (omega (arith, c.loop-i.invariant.0)) c.loop-i.invariant.1 c.mode_before-modes.ensures.modes,
    )
