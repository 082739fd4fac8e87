use Rattle.std.proofs.Common.{drop, subst, sym}
use Rattle.inet_sum.specs.Stands.{StandsFor}
use Rattle.skb.specs.SkbState.{buffer_bytes}
use Rattle.gso.specs.Places.{SegmentsState, IsPayloadPlace, own_at}
use Rattle.gso.proofs.Payloads.{known_sum, last_all}
use Rattle.gso.proofs.segments.Segments.sum.Goals as goal

pub returns-in-Some : goal.returns-in-Some
returns-in-Some c =
    let s = c.self.inside in
    let i = c.args.i in
    let from = c.args.from in
    let g : SegmentsState = record { skb = s.skb.now; cut = s.cut.now; sums = s.sums.now } in
    let ready = c.self.invariant in
    let at = subst (λ (z : SegmentsState). IsPayloadPlace z i from) (sym c.self.view_is) c.requires.at in
    let part = c.in-Some.ensures.part (drop g.cut.layout.payload_at (buffer_bytes g.skb)) ready.known (last_all g i from
    ready at) in
    record {
      sum = subst (λ (z : SegmentsState). StandsFor c.in-Some.sum (own_at z from)) c.self.view_is (known_sum g i from
          ready at c.in-Some.sum part);
    }
