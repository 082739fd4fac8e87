use Rattle.std.proofs.Common.{◌≡◌, ◌∙◌, ℕ, length, set, ap, arith}
use Rattle.std.specs.Option.{unwrap_or}
use Rattle.std.specs.HashMap.{get}
use Rattle.taps.specs.Clones.{packet_of}
use Rattle.frame_layout.specs.Key.{key_eq}
use Rattle.comparing.specs.KeptFlows.{place_of}
use Rattle.comparing.proofs.Entering.{entered}
use Rattle.comparing.proofs.kept_flows.KeptFlows.enter.Goals as goal

pub returns-in-Ok-clause-flows : goal.returns-in-Ok-clause-flows
returns-in-Ok-clause-flows c = λ ps is was.
    let f = c.args.self.now in
    let k = c.flow_of.result in
    let long : c.len-behind.result ≡ length f.next.items = omega (arith, c.len-behind.ensures) in
    let place : c.unwrap_or.result ≡ place_of f k
    = c.unwrap_or.ensures ∙ ap (λ z. unwrap_or z c.len-behind.result) c.in-Ok.ensures.old ∙ ap (unwrap_or (get key_eq f.first k)) long in
    entered ps f _ c.args.i (packet_of c.args.clone.now) k c.requires.within is c.flow_of.ensures.key was c.in-Ok.ensures.updates.0 (ap (λ (z : ℕ). set f.next.items c.args.i z) place)
