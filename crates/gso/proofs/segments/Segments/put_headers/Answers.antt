use Rattle.std.proofs.Common.{◌≡◌, ◌++◌, sym, subst}
use Rattle.inet_sum.specs.Stands.{StandsFor}
use Rattle.skb.specs.SkbState.{buffer_bytes}
use Rattle.segment_rule.specs.Segmentations.{segment_at}
use Rattle.gso.specs.Places.{SegmentsState, IsPayloadPlace, own_at}
use Rattle.gso.proofs.Payloads.{laid, ranges, short, segment_is, copied}
use Rattle.gso.proofs.segments.Segments.put_headers.Goals as goal

pub put_headers-requires-clause-laid : goal.put_headers-requires-clause-laid
put_headers-requires-clause-laid c =
    let g : SegmentsState = record { skb = c.self.inside.skb.now; cut = c.self.inside.cut.now; sums = c.self.inside.sums.now } in
    let h = c.head-2 in
    let at = subst (λ (z : SegmentsState). IsPayloadPlace z c.args.i c.args.from) (sym c.self.view_is) c.requires.at in
    let headers = copied g.skb g.cut.layout.payload_at c.payload_at.result h.result.now c.copy_from_slice.new.self c.copy_from_slice.ensures.after c.payload_at.ensures.place h.ensures.bytes h.ensures.size
    c.self.invariant.front in
    laid g c.args.i c.args.from c.self.invariant at c.copy_from_slice.new.self headers

pub put_headers-requires-clause-ranges : goal.put_headers-requires-clause-ranges
put_headers-requires-clause-ranges c =
    let g : SegmentsState = record { skb = c.self.inside.skb.now; cut = c.self.inside.cut.now; sums = c.self.inside.sums.now } in
    let h = c.head-2 in
    let at = subst (λ (z : SegmentsState). IsPayloadPlace z c.args.i c.args.from) (sym c.self.view_is) c.requires.at in
    let stands = subst (λ (z : SegmentsState). StandsFor c.sum-sum.result (own_at z c.args.from)) (sym c.self.view_is) c.sum-sum.ensures.sum in
    let headers = copied g.skb g.cut.layout.payload_at c.payload_at.result h.result.now c.copy_from_slice.new.self c.copy_from_slice.ensures.after c.payload_at.ensures.place h.ensures.bytes h.ensures.size
    c.self.invariant.front in
    ranges g c.args.i c.args.from c.self.invariant at c.copy_from_slice.new.self headers c.sum-sum.result stands

pub put_headers-requires-clause-few : goal.put_headers-requires-clause-few
put_headers-requires-clause-few c =
    let g : SegmentsState = record { skb = c.self.inside.skb.now; cut = c.self.inside.cut.now; sums = c.self.inside.sums.now } in
    let h = c.head-2 in
    let at = subst (λ (z : SegmentsState). IsPayloadPlace z c.args.i c.args.from) (sym c.self.view_is) c.requires.at in
    let stands = subst (λ (z : SegmentsState). StandsFor c.sum-sum.result (own_at z c.args.from)) (sym c.self.view_is) c.sum-sum.ensures.sum in
    let headers = copied g.skb g.cut.layout.payload_at c.payload_at.result h.result.now c.copy_from_slice.new.self c.copy_from_slice.ensures.after c.payload_at.ensures.place h.ensures.bytes h.ensures.size
    c.self.invariant.front in
    short g c.args.i c.args.from c.self.invariant at c.copy_from_slice.new.self headers c.sum-sum.result stands

pub returns-clause-segment : goal.returns-clause-segment
returns-clause-segment c =
    let g : SegmentsState = record { skb = c.self.inside.skb.now; cut = c.self.inside.cut.now; sums = c.self.inside.sums.now } in
    let h = c.head-2 in
    let at = subst (λ (z : SegmentsState). IsPayloadPlace z c.args.i c.args.from) (sym c.self.view_is) c.requires.at in
    let stands = subst (λ (z : SegmentsState). StandsFor c.sum-sum.result (own_at z c.args.from)) (sym c.self.view_is) c.sum-sum.ensures.sum in
    let headers = copied g.skb g.cut.layout.payload_at c.payload_at.result h.result.now c.copy_from_slice.new.self c.copy_from_slice.ensures.after c.payload_at.ensures.place h.ensures.bytes h.ensures.size
    c.self.invariant.front in
    subst (λ (z : SegmentsState). c.put_headers.new.head ++ own_at z c.args.from ≡ segment_at z.cut (buffer_bytes z.skb) c.args.i) c.self.view_is
    (segment_is g c.args.i c.args.from c.self.invariant at c.copy_from_slice.new.self headers c.put_headers.new.head (c.put_headers.ensures.segment (own_at g c.args.from) stands))
