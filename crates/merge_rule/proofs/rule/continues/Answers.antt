use Rattle.std.proofs.Common.{arith}
use Rattle.merge_rule.proofs.Headers.{next_by}
use Rattle.merge_rule.proofs.rule.continues.Goals as goal

pub returns-then-total : goal.returns-then-total
returns-then-total c = record {
  next = next_by c.args.layout.now c.args.first.now c.args.first_len c.args.count c.args.progress.now.total c.args.progress.now.modes c.args.next.now
      c.args.next_len _ _ _ c.requires.placed.laid (omega (arith, c.if-next_len-first_len.false)) (omega (arith, c.payload_at-at.ensures.place, c.if-next_len-at.false))
      (omega (arith, c.payload_at-at.ensures.place, c.if-total.true)) (omega (arith, c.payload_at-at.ensures.place, c.requires.total, c.requires.behind))
      (omega (arith, c.payload_at-at.ensures.place)) c.are_headers_next.ensures.next;
}
