use Rattle.std.proofs.Common.{arith}
use Rattle.skb.specs.SkbState.{buffer_bytes}
use Rattle.segment_rule.proofs.Segments.{places}
use Rattle.gso.proofs.segments.Segments.headers_len.Goals as goal

pub returns-clause-low : goal.returns-clause-low
returns-clause-low c =
    let k = c.self.invariant in
    omega (arith, c.payload_at.ensures.place, (places c.self.inside.cut.now (buffer_bytes c.self.inside.skb.now) k.in_bytes k.of).low)
