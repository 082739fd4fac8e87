use Rattle.std.proofs.Common.{◌∙◌, sym}
use Rattle.comparing.proofs.Pieces.{split_is, back_left, front_within}
use Rattle.comparing.proofs.bytes.Bytes.take.Goals as goal

pub invariant_of-self : goal.invariant_of-self
invariant_of-self c =
    let u = c.self.inside in
    back_left u.piece.now c.opened-next.result.0.now c.split_at.result.0.now c.split_at.result.1.now u.skb.now u.next c.opened-next.result.1 u.left c.min-n.result c.args.most c.self.invariant c.opened-next.ensures.same
    c.min-n.ensures c.split_at.ensures.front c.split_at.ensures.back
    c.opened-next.ensures.within

pub returns-clause-bytes : goal.returns-clause-bytes
returns-clause-bytes c =
    let u = c.self.inside in
    sym c.self.view_is
    ∙ split_is u.piece.now c.opened-next.result.0.now c.split_at.result.0.now c.split_at.result.1.now u.skb.now u.next c.opened-next.result.1 u.left c.min-n.result c.args.most c.self.invariant c.opened-next.ensures.same
    c.min-n.ensures c.split_at.ensures.front c.split_at.ensures.back

pub overflow_sub-self : goal.overflow_sub-self
overflow_sub-self c =
    let u = c.self.inside in
    front_within u.piece.now c.opened-next.result.0.now c.split_at.result.0.now c.split_at.result.1.now u.skb.now u.next c.opened-next.result.1 u.left c.min-n.result c.args.most c.self.invariant c.opened-next.ensures.same
    c.min-n.ensures c.split_at.ensures.front c.split_at.ensures.back
