use Rattle.std.proofs.Common.{◌≡◌, ◌∙◌, inl, refl, ap, arith}
use Rattle.skb.specs.SkbState.{SkbState, of_buffer}
use Rattle.gso_cutter.specs.Whole.{WholeState}
use Rattle.gso_cutter.proofs.whole.Whole.next.Goals as goal

pub returns-then-not-self-clause-account : goal.returns-then-not-self-clause-account
returns-then-not-self-clause-account c = (c.args.self.now.skb.head, (inl refl, λ t m. (omega arith, omega arith)))

pub returns-in_default-clause-account : goal.returns-in_default-clause-account
returns-in_default-clause-account c =
    let same : c.cut_behind.new.skb ≡ c.args.self.now.skb = c.in_default.ensures.same ∙ ap (λ (w : WholeState). w.skb) c.self.view_is in (
      c.args.self.now.skb.head,
      (
        inl refl,
        λ t m.
            let a = ap (λ (z : SkbState). (of_buffer z).held t m) same in
            let b = ap (λ (z : SkbState). (of_buffer z).homes t.blocks m) same in
            (omega arith, omega arith),
      ),
    )
