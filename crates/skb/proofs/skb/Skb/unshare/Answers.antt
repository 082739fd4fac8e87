use Rattle.std.proofs.Common.{subst, refl}
use Rattle.frags.specs.Account.{Keeps, both, of_sole}
use Rattle.skb.specs.SkbState.{SkbState, of_buffer, of_unshared}
use Rattle.skb.proofs.Buffers.{unshared_keeps}
use Rattle.skb.proofs.skb.Skb.unshare.Goals as goal

pub returns-clause-kept : goal.returns-clause-kept
returns-clause-kept c =
    let s = c.self.inside in
    let a : SkbState = record { head = s.head; from = s.from; to = s.to; rest = s.rest } in
    let b : SkbState = record { head = c.replace_with.new.dest; from = s.from; to = s.to; rest = s.rest } in
    subst (λ (z : SkbState). Keeps (both (of_buffer z) (of_sole c.args.spare))
    (both (of_buffer b) (of_unshared c.replace_with.result))) c.self.view_is (unshared_keeps a b c.args.spare
    c.replace_with.result c.replace_with.ensures refl)
