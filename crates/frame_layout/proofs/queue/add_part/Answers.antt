use Rattle.std.proofs.Common.{◌≡◌, ℕ, ◌+◌, ◌-◌, ◌++◌, ◌∷◌, take, drop, sym, ap, ◌∙◌}
use Rattle.std.proofs.Common.{arith}
use Rattle.frame_layout.specs.Key.{flow_part}
use Rattle.frame_layout.specs.declared.layout.Layer.{Layer}
use Rattle.frame_layout.proofs.queue.add_part.Goals as goal

pub returns-in-Ip6-clause-items : goal.returns-in-Ip6-clause-items
returns-in-Ip6-clause-items c =
    let f = c.args.frame.now in
    let at = c.args.header.at in
    let key = c.args.key.now.items in
    let n : (at + 40) - (at + 8) ≡ 32 = omega arith in
    c.add_marked-in-Ip6.ensures.items ∙ ap (λ (z : ℕ). key ++ 6 ∷ take z (drop (at + 8) f)) n
    ∙ ap (λ (l : Layer). key ++ flow_part f l at) (sym c.in-Ip6.is)
