use Rattle.std.proofs.Common.{◌≡◌, ℕ, List, Some, drop, sym, ◌∙◌, subst, arith}
use Rattle.inet_sum.specs.Stands.{StandsFor}
use Rattle.frame_layout.specs.Front.{IsPayloadOf}
use Rattle.frame_layout.specs.Judged.{seg_of}
use Rattle.frame_layout.specs.Segment.{IsSegOf}
use Rattle.frame_layout.specs.Candidate.{IsCandidate}
use Rattle.frame_layout.specs.Shape.{Layout, shape_of}
use Rattle.frame_layout.proofs.Lemmas.{IsPlaced, placed}
use Rattle.pcap_io.specs.Capture.{Packet}
use Rattle.frame_runs.specs.Frames.{AreBytes}
use Rattle.frame_runs.proofs.Judged.{head_shape, is_long, payload_of}
use Rattle.frame_runs.proofs.candidacy.judge_as.Goals as goal

pub sum_from-sum-requires : goal.sum_from-sum-requires
sum_from-sum-requires g c =
    let f : List ℕ = (g.F.Frame.packet c.args.slot.now).frame in
    let h = c.head-head.result.now in
    let e : shape_of h ≡ Some c.args.layout.now = head_shape h f c.head-head.ensures.front c.head-head.ensures.in_bytes ∙ c.requires.shape in
    let p : IsPlaced h c.args.layout.now = placed h (λ k. c.head-head.ensures.in_bytes k) c.args.layout.now (sym e) in
    record {
      held = c.requires.held;
      low = omega (arith, p.low, c.payload_at.ensures.place);
      inside = omega (arith, p.within, c.payload_at.ensures.place, is_long h f c.head-head.ensures.front);
    }

pub mergeable_leaf-requires : goal.mergeable_leaf-requires
mergeable_leaf-requires g c =
    let f : List ℕ = (g.F.Frame.packet c.args.slot.now).frame in
    let h = c.head-head.result.now in
    let e : shape_of h ≡ Some c.args.layout.now = head_shape h f c.head-head.ensures.front c.head-head.ensures.in_bytes ∙ c.requires.shape in
    record {
      shape = e;
      few = omega (arith, c.len.ensures.short, c.len.ensures.len, c.sum_from-sum.ensures.len, c.payload_at.ensures.place);
      whole = omega (arith, is_long h f c.head-head.ensures.front, c.sum_from-sum.ensures.len, c.payload_at.ensures.place);
      enough = omega (arith, c.head-head.ensures.front.enough, c.sum_from-sum.ensures.len, c.payload_at.ensures.place);
    }

pub returns-in-Some : goal.returns-in-Some
returns-in-Some g c =
    let q : Packet = g.F.Frame.packet c.args.slot.now in
    let f : List ℕ = q.frame in
    let h = c.head-head.result.now in
    let layout : Layout = c.args.layout.now in
    let sum : StandsFor c.sum_from-sum.result (drop layout.payload_at f)
    = subst (λ z. StandsFor c.sum_from-sum.result (drop z f)) c.payload_at.ensures.place c.sum_from-sum.ensures.sum in
    let e : shape_of h ≡ Some layout = head_shape h f c.head-head.ensures.front c.head-head.ensures.in_bytes ∙ c.requires.shape in
    let p : IsPlaced h layout = placed h (λ k. c.head-head.ensures.in_bytes k) layout (sym e) in
    let is : IsPayloadOf h layout.payload_at c.sum_from-sum.result f
    = payload_of h f c.head-head.ensures.front layout.payload_at c.sum_from-sum.result p.within c.head-head.ensures.in_bytes sum
    (subst (λ z. AreBytes (drop z f)) c.payload_at.ensures.place c.sum_from-sum.ensures.in_bytes) in
    let j : IsSegOf f c.original.result (seg_of layout c.sum_from-sum.result.len (Some c.in-Some.fields))
    = subst (λ z. IsSegOf f c.original.result (seg_of layout c.sum_from-sum.result.len z)) c.in-Some.is (c.mergeable_leaf.ensures.candidate f is) in
    record {
      candidate = record {
        shape = j.1.shape;
        candidate = subst (λ z. IsCandidate f z layout) c.original.ensures.original j.0;
        short = omega (arith, c.len.ensures.short, c.len.ensures.len);
        payload = sum;
        flags = j.1.flags;
        in_bytes = is.in_bytes;
      };
    }
