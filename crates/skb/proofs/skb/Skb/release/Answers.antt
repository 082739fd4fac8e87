use Rattle.std.proofs.Common.{◌+◌, arith, ap}
use Rattle.frags.specs.PieceList.{pieces_held}
use Rattle.frags.specs.Account.{every, of_holder}
use Rattle.skb.specs.SkbState.{SkbState}
use Rattle.skb.proofs.skb.Skb.release.Goals as goal

pub returns-clause-kept : goal.returns-clause-kept
returns-clause-kept c = λ t m.
    let e = c.give_back_holder.ensures.kept t m in
    let f = c.release.ensures.kept t m in
    let u = ap (λ (z : SkbState). pieces_held t m z.rest) c.self.view_is in
    let v = ap (λ (z : SkbState). (of_holder z.head).held t m) c.self.view_is in
    let w = ap (λ (z : SkbState). (of_holder z.head).homes t.blocks m) c.self.view_is in
    (omega arith, omega arith)

pub returns-clause-blocks : goal.returns-clause-blocks
returns-clause-blocks c = λ bs m.
    let e = c.give_back_holder.ensures.blocks bs m in
    let f = c.release.ensures.blocks bs m in
    let u = ap (λ (z : SkbState). pieces_held (every bs) m z.rest) c.self.view_is in
    let v = ap (λ (z : SkbState). (of_holder z.head).held (every bs) m + (of_holder z.head).homes bs m) c.self.view_is in
    omega (arith, e, f, u, v)
