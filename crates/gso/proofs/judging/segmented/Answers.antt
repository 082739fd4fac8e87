use Rattle.std.proofs.Common.{◌≡◌, ◌<◌, ◌≤◌, ◌+◌, ◌^◌, ◌∙◌, ℕ, min, ◌++◌, Some, List, length, drop, sym, ap, subst, arith}
use Rattle.pcap_io.specs.Capture.{packet}
use Rattle.frame_layout.specs.Shape.{Layout}
use Rattle.frame_layout.specs.Segment.{IsSegOf}
use Rattle.offload_model.specs.Segments.{IsLawfulSuper}
use Rattle.skb.specs.SkbState.{buffer_bytes}
use Rattle.segment_rule.specs.Segmentations.{IsJudged}
use Rattle.gso.specs.Sums.{AreSumsOf}
use Rattle.gso.proofs.Fronted.{IsKnown, known, headers_in, whole_len, dropped_few}
use Rattle.gso.proofs.judging.segmented.Goals.{After-payload-1, After-whole-payload, In-Some, In-Some-segmentation_of}
use Rattle.gso.proofs.judging.segmented.Goals as goal

-- what the sums say of the buffer's frame
here : (c : After-whole-payload)
    → IsKnown (buffer_bytes c.args.skb.now) c.args.front.now c.args.layout.payload_at c.args.head.now.m c.sums_of-sums.result c.whole-payload.result
here c =
    let r = c.requires in
    let u = c.sums_of-sums in
    known (buffer_bytes c.args.skb.now) c.args.front.now c.args.layout.payload_at c.args.head.now.m c.payload_at.result u.result c.whole-payload.result
    r.joined r.in_bytes r.enough r.within c.payload_at.ensures.place u.ensures.in_bytes u.ensures.sums c.whole-payload.ensures.whole

segment : (c : In-Some) → IsKnown (buffer_bytes c.args.skb.now) c.args.front.now c.args.layout.payload_at c.args.head.now.m c.sums_of-sums.result c.whole-payload.result
    → IsSegOf (c.args.front.now ++ drop (length c.args.front.now) (buffer_bytes c.args.skb.now)) c.args.original (Some c.in-Some.seg)
segment c k =
    subst (λ (z : List ℕ). IsSegOf z c.args.original (Some c.in-Some.seg)) c.requires.joined (c.in-Some.ensures.candidate (buffer_bytes c.args.skb.now) k.payload_is)

pub returns-in_default-clause-refused : goal.returns-in_default-clause-refused
returns-in_default-clause-refused c = λ s.
    c.in_default.ensures.candidate (buffer_bytes c.args.skb.now) (here (goal.at.returns-in_default-clause-refused c).After-whole-payload).payload_is
    s.layout s.cuttable.shape_is s.cuttable.candidate

pub segmentation_of-requires-clause-there : goal.segmentation_of-requires-clause-there
segmentation_of-requires-clause-there c =
    let k = here (goal.at.segmentation_of-requires-clause-there c).After-whole-payload in
    headers_in c.args.front.now c.in-Some.seg.layout (k.same ∙ (c.in-Some.ensures.candidate (buffer_bytes c.args.skb.now) k.payload_is).1.shape)

pub returns-in_default-segmentation_of-clause-refused : goal.returns-in_default-segmentation_of-clause-refused
returns-in_default-segmentation_of-clause-refused c = λ s.
    let p = goal.at.returns-in_default-segmentation_of-clause-refused c in
    c.in_default-segmentation_of.ensures.judged c.args.original (drop (length c.args.front.now) (buffer_bytes c.args.skb.now)) (segment p.In-Some (here p.After-whole-payload))
    (subst (λ (z : List ℕ). IsLawfulSuper c.args.head.now (packet 0 0 0 c.args.original z)) c.requires.joined s)

pub returns-clause-judged : goal.returns-clause-judged
returns-clause-judged c =
    let p = goal.at.returns-clause-judged c in
    subst (λ (z : List ℕ). IsJudged c.args.head.now (packet 0 0 0 c.args.original z) (Some c.in-Some-segmentation_of.cut)) (sym c.requires.joined)
    (c.in-Some-segmentation_of.ensures.judged c.args.original (drop (length c.args.front.now) (buffer_bytes c.args.skb.now)) (segment p.In-Some (here p.After-whole-payload)))

layout : (c : In-Some-segmentation_of) → c.args.layout ≡ c.in-Some-segmentation_of.cut.layout
layout c =
    let both : Some c.args.layout ≡ Some c.in-Some-segmentation_of.cut.layout
    = sym c.requires.shape ∙ (here (goal.at.returns-clause-judged c).After-whole-payload).same ∙ (returns-clause-judged c).1.shape_is in
    cc

pub returns-clause-known : goal.returns-clause-known
returns-clause-known c =
    let u = c.sums_of-sums.result in
    let f : List ℕ = buffer_bytes c.args.skb.now in
    subst (λ (m : ℕ). AreSumsOf m u (drop c.in-Some-segmentation_of.cut.layout.payload_at f)) (sym (returns-clause-judged c).2.m)
    (subst (λ (l : Layout). AreSumsOf c.args.head.now.m u (drop l.payload_at f)) (layout c) (here (goal.at.returns-clause-known c).After-whole-payload).known)

pub returns-clause-front : goal.returns-clause-front
returns-clause-front c = omega (arith, ap (λ (l : Layout). l.payload_at) (layout c), c.requires.within, c.requires.inside)

pub returns-clause-in_bytes : goal.returns-clause-in_bytes
returns-clause-in_bytes c = (here (goal.at.returns-clause-in_bytes c).After-whole-payload).small

pub whole-payload-requires : goal.whole-payload-requires
whole-payload-requires c =
    let f = buffer_bytes c.args.skb.now in
    let at = c.payload_at.result in
    let few = subst (λ (n : ℕ). n < 2 ^ 32) c.len.ensures.bytes c.len.ensures.small in
    record { of = (drop at f, (c.sums_of-sums.ensures.sums, dropped_few f at few)) }

-- the payload is all behind the headers
whole : (c : After-payload-1) → (length c.args.front.now ≤ c.args.layout.payload_at + c.whole-payload.result.len)
    × (length (buffer_bytes c.args.skb.now) ≡ c.args.layout.payload_at + c.whole-payload.result.len)
whole c =
    let f = buffer_bytes c.args.skb.now in
    let at = c.payload_at.result in
    whole_len f c.args.front.now c.args.layout.payload_at at c.whole-payload.result.len c.requires.joined c.requires.within
    c.payload_at.ensures.place (c.whole-payload.ensures.whole (drop at f) c.sums_of-sums.ensures.sums).1

pub candidate_in-requires-clause-few : goal.candidate_in-requires-clause-few
candidate_in-requires-clause-few c = subst (λ (n : ℕ). n < 2 ^ 32) (c.len.ensures.bytes ∙ (whole c).1) c.len.ensures.small

pub candidate_in-requires-clause-whole : goal.candidate_in-requires-clause-whole
candidate_in-requires-clause-whole c = (whole c).0

pub candidate_in-requires-clause-enough : goal.candidate_in-requires-clause-enough
candidate_in-requires-clause-enough c = subst (λ (n : ℕ). min n 200 ≤ length c.args.front.now) (whole c).1 c.requires.enough
