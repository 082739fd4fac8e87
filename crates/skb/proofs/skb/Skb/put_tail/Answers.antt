use Rattle.std.proofs.Common.{◌≤◌, ◌+◌, length, subst, sym, arith}
use Rattle.std.specs.Prelude.{Ok}
use Rattle.frags.specs.declared.holder.Holder.TheVariants.{Sole}
use Rattle.skb.specs.SkbState.{SkbState, IsPut, tailroom}
use Rattle.skb.proofs.Buffers.{puts}
use Rattle.skb.proofs.skb.Skb.put_tail.Goals as goal

pub returns-in-Sole-clause-put : goal.returns-in-Sole-clause-put
returns-in-Sole-clause-put c =
    let s = c.self.inside in
    let a : SkbState = record { head = s.head; from = s.from; to = s.to; rest = s.rest } in
    let b : SkbState = record { head = Sole c.write_at.new.sole; from = s.from; to = s.to + length c.args.bytes.now; rest = s.rest } in
    let i = c.self.invariant in
    let r : length c.args.bytes.now ≤ tailroom c.args.self.now = omega arith in
    let q : length c.args.bytes.now ≤ tailroom a = subst (λ (z : SkbState). length c.args.bytes.now ≤ tailroom z) (sym c.self.view_is) r in
    subst (λ (z : SkbState). IsPut z c.args.bytes.now b (Ok tt)) c.self.view_is
    (puts a c.in-Sole.sole c.write_at.new.sole c.args.bytes.now c.in-Sole.is c.write_at.ensures.bytes
    c.write_at.ensures.mark c.write_at.ensures.block i.2 i.0 i.1 q)
