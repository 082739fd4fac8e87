use Rattle.std.proofs.Common.{◌≡◌, ℕ, List, None, Some, drop, sym, subst, arith, ◌∙◌}
use Rattle.inet_sum.specs.Stands.{StandsFor}
use Rattle.frame_layout.specs.Front.{IsPayloadOf}
use Rattle.frame_layout.specs.Segment.{IsSegOf}
use Rattle.frame_layout.specs.Judged.{seg_of}
use Rattle.frame_layout.specs.Candidate.{IsCandidate}
use Rattle.frame_layout.specs.Key.{IsHeadOf}
use Rattle.frame_layout.specs.Shape.{Layout, shape_of}
use Rattle.pcap_io.specs.Capture.{Packet}
use Rattle.merge_rule.specs.Runs.{IsJudged, IsNoCandidate}
use Rattle.frame_runs.specs.Frames.{AreBytes}
use Rattle.frame_runs.proofs.Judged.{front_of, is_long, payload_of, no_shape, no_payload, one_shape}
use Rattle.frame_runs.proofs.candidacy.judge.Goals as goal

pub sum_from-payload-requires : goal.sum_from-payload-requires
sum_from-payload-requires g c =
    let f : List ℕ = (g.F.Frame.packet c.args.slot.now).frame in
    record {
      held = c.requires.held;
      low = omega (arith, c.in-Some.ensures.low, c.payload_at-2.ensures.place);
      inside = omega (arith, c.in-Some.ensures.within, c.payload_at-2.ensures.place, is_long c.head-head.result.now f c.head-head.ensures.front);
    }

pub mergeable_leaf-requires : goal.mergeable_leaf-requires
mergeable_leaf-requires g c =
    let f : List ℕ = (g.F.Frame.packet c.args.slot.now).frame in
    let h = c.head-head.result.now in
    record {
      shape = sym c.in-Some.ensures.shape;
      few = omega (arith, c.len.ensures.short, c.len.ensures.len, c.sum_from-payload.ensures.len, c.payload_at-2.ensures.place);
      whole = omega (arith, is_long h f c.head-head.ensures.front, c.sum_from-payload.ensures.len, c.payload_at-2.ensures.place);
      enough = omega (arith, c.head-head.ensures.front.enough, c.sum_from-payload.ensures.len, c.payload_at-2.ensures.place);
    }

pub returns-in-Some-mergeable_leaf : goal.returns-in-Some-mergeable_leaf
returns-in-Some-mergeable_leaf g c =
    let q : Packet = g.F.Frame.packet c.args.slot.now in
    let f : List ℕ = q.frame in
    let layout : Layout = c.in-Some.layout in
    let sum : StandsFor c.sum_from-payload.result (drop layout.payload_at f)
    = subst (λ z. StandsFor c.sum_from-payload.result (drop z f)) c.payload_at-2.ensures.place c.sum_from-payload.ensures.sum in
    let is : IsPayloadOf c.head-head.result.now layout.payload_at c.sum_from-payload.result f
    = payload_of c.head-head.result.now f c.head-head.ensures.front layout.payload_at c.sum_from-payload.result c.in-Some.ensures.within
    c.head-head.ensures.in_bytes sum
    (subst (λ z. AreBytes (drop z f)) c.payload_at-2.ensures.place c.sum_from-payload.ensures.in_bytes) in
    let j : IsSegOf f q.original (seg_of layout c.sum_from-payload.result.len (Some c.in-Some-mergeable_leaf.fields))
    = subst (λ z. IsSegOf f q.original (seg_of layout c.sum_from-payload.result.len z)) c.in-Some-mergeable_leaf.is
    (subst (λ z. IsSegOf f z (seg_of layout c.sum_from-payload.result.len c.mergeable_leaf.result)) c.original-original.ensures.original (c.mergeable_leaf.ensures.candidate f is)) in
    record {
      judged = record {
        shape = j.1.shape;
        candidate = j.0;
        short = omega (arith, c.len.ensures.short, c.len.ensures.len);
        payload = sum;
        flags = j.1.flags;
        in_bytes = is.in_bytes;
      };
    }

pub returns-in-None : goal.returns-in-None
returns-in-None g c =
    let q : Packet = g.F.Frame.packet c.args.slot.now in
    let f : List ℕ = q.frame in
    let at : ℕ = c.in-Some.layout.payload_at in
    let is : IsPayloadOf c.head-head.result.now at c.sum_from-payload.result f
    = payload_of c.head-head.result.now f c.head-head.ensures.front at c.sum_from-payload.result c.in-Some.ensures.within
    c.head-head.ensures.in_bytes
    (subst (λ z. StandsFor c.sum_from-payload.result (drop z f)) c.payload_at-2.ensures.place c.sum_from-payload.ensures.sum)
    (subst (λ z. AreBytes (drop z f)) c.payload_at-2.ensures.place c.sum_from-payload.ensures.in_bytes) in
    let j : IsSegOf f q.original None
    = subst (λ z. IsSegOf f q.original (seg_of c.in-Some.layout c.sum_from-payload.result.len z)) c.in-None.is
    (subst (λ z. IsSegOf f z (seg_of c.in-Some.layout c.sum_from-payload.result.len c.mergeable_leaf.result)) c.original-original.ensures.original (c.mergeable_leaf.ensures.candidate f is)) in
    record {
      judged = subst (λ z. IsJudged f q.original z c.none-in-None.result.payload c.none-in-None.result.flags) (sym c.none-in-None.ensures.layout) j;
    }

pub returns-then-is_length_wrong : goal.returns-then-is_length_wrong
returns-then-is_length_wrong g c =
    let q : Packet = g.F.Frame.packet c.args.slot.now in
    let f : List ℕ = q.frame in
    let front : IsHeadOf c.head-head.result.now f = front_of c.head-head.result.now f c.head-head.ensures.front in
    let shaped : Some c.in-Some.layout ≡ shape_of f = c.in-Some.ensures.whole f front in
    let none : IsNoCandidate f q.original = λ layout is candidate.
    let same : layout ≡ c.in-Some.layout = one_shape f layout c.in-Some.layout is shaped in
    c.is_length_wrong.ensures.wrong c.if-is_length_wrong.true f front (sym c.len.ensures.len ∙ c.if-len-original.false) q.original
    (subst (IsCandidate f q.original) same candidate) in
    record {
      judged = subst (λ z. IsJudged f q.original z c.none-then-is_length_wrong.result.payload c.none-then-is_length_wrong.result.flags) (sym c.none-then-is_length_wrong.ensures.layout) none;
    }

pub returns-in_default : goal.returns-in_default
returns-in_default g c =
    let q : Packet = g.F.Frame.packet c.args.slot.now in
    let f : List ℕ = q.frame in
    let front : IsHeadOf c.head-head.result.now f = front_of c.head-head.result.now f c.head-head.ensures.front in
    record {
      judged = subst (λ z. IsJudged f q.original z c.none-in_default.result.payload c.none-in_default.result.flags) (sym c.none-in_default.ensures.layout)
          (no_shape f q.original (sym (c.in_default.ensures.whole f front)));
    }

pub returns-then-payload_at-original : goal.returns-then-payload_at-original
returns-then-payload_at-original g c =
    let q : Packet = g.F.Frame.packet c.args.slot.now in
    let f : List ℕ = q.frame in
    let front : IsHeadOf c.head-head.result.now f = front_of c.head-head.result.now f c.head-head.ensures.front in
    let none = c.none-then-payload_at-original in
    record {
      judged = subst (λ z. IsJudged f q.original z none.result.payload none.result.flags) (sym none.ensures.layout)
          (no_payload f q.original c.original-original.result c.payload_at.result c.in-Some.layout (c.in-Some.ensures.whole f front) c.original-original.ensures.original c.payload_at.ensures.place
          c.if-payload_at-original.true);
    }
