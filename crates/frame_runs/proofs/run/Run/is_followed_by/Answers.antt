use Rattle.std.proofs.Common.{arith}
use Rattle.frame_runs.proofs.Running.{head_of, in_head, few_more, placed, sums, first_in_head}
use Rattle.frame_runs.proofs.run.Run.is_followed_by.Goals as goal

pub overflow_add-self : goal.overflow_add-self
overflow_add-self g c = omega (arith, few_more c.args.self.now (g.F.Frame.packet c.args.first.now) c.requires.knows.0 c.requires.knows.1)

pub is_next-requires-clause-placed : goal.is_next-requires-clause-placed
is_next-requires-clause-placed g c =
    placed c.args.self.now (g.F.Frame.packet c.args.first.now) c.requires.knows.0 c.args.layout.now c.requires.layout c.requires.knows.1

pub is_next-requires-clause-first : goal.is_next-requires-clause-first
is_next-requires-clause-first g c =
    first_in_head c.args.self.now (g.F.Frame.packet c.args.first.now) c.requires.knows.0 c.args.layout.now c.requires.layout c.requires.knows.1 c.head.result.now c.head.ensures.front

pub is_next-requires-clause-next : goal.is_next-requires-clause-next
is_next-requires-clause-next g c = λ h.
    in_head c.head-2.result.now (g.F.Frame.packet c.args.next.now).frame c.args.layout.now.payload_at c.head-2.ensures.front
    (sums c.args.self.now (g.F.Frame.packet c.args.first.now) c.requires.knows.0 c.args.layout.now c.requires.layout c.requires.knows.1).2
    (omega (arith, h, c.len-next_len.ensures.len))

pub is_next-requires-clause-behind : goal.is_next-requires-clause-behind
is_next-requires-clause-behind g c =
    (sums c.args.self.now (g.F.Frame.packet c.args.first.now) c.requires.knows.0 c.args.layout.now c.requires.layout c.requires.knows.1).0

pub is_next-requires-clause-total : goal.is_next-requires-clause-total
is_next-requires-clause-total g c =
    let b = sums c.args.self.now (g.F.Frame.packet c.args.first.now) c.requires.knows.0 c.args.layout.now c.requires.layout c.requires.knows.1 in
    omega (arith, b.1, b.2)

pub is_next-requires-clause-few : goal.is_next-requires-clause-few
is_next-requires-clause-few g c = omega (arith, c.len-next_len.ensures.short, c.len-next_len.ensures.len)

pub returns : goal.returns
returns g c = record {
  next = c.is_next.ensures.next (g.F.Frame.packet c.args.first.now).frame (g.F.Frame.packet c.args.next.now).frame
      (head_of c.head.result.now (g.F.Frame.packet c.args.first.now).frame c.len-first_len.result c.head.ensures.front c.len-first_len.ensures.len)
      (head_of c.head-2.result.now (g.F.Frame.packet c.args.next.now).frame c.len-next_len.result c.head-2.ensures.front c.len-next_len.ensures.len);
}
