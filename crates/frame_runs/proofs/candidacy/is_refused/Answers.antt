use Rattle.std.proofs.Common.{◌≡◌, ℕ, List, Some, subst, ◌∙◌, sym}
use Rattle.frame_layout.specs.Candidate.{IsCandidate}
use Rattle.frame_layout.specs.Key.{IsHeadOf}
use Rattle.frame_layout.specs.Shape.{shape_of}
use Rattle.pcap_io.specs.Capture.{Packet}
use Rattle.frame_runs.proofs.Judged.{front_of, no_shape, no_payload, one_shape}
use Rattle.frame_runs.proofs.candidacy.is_refused.Goals as goal

pub returns : goal.returns
returns g c =
    let q : Packet = g.F.Frame.packet c.args.slot.now in
    let f : List ℕ = q.frame in
    let front : IsHeadOf c.head-head.result.now f = front_of c.head-head.result.now f c.head-head.ensures.front in
    let shaped : Some c.in-Some.layout ≡ shape_of f = c.in-Some.ensures.whole f front in
    record {
      none = λ wrong layout is candidate.
          let same : layout ≡ c.in-Some.layout = one_shape f layout c.in-Some.layout is shaped in
          c.is_length_wrong.ensures.wrong wrong f front (sym c.len.ensures.len ∙ c.if-len-original.false) q.original
          (subst (IsCandidate f q.original) same candidate);
    }

pub returns-in_default : goal.returns-in_default
returns-in_default g c =
    let q : Packet = g.F.Frame.packet c.args.slot.now in
    let f : List ℕ = q.frame in
    let front : IsHeadOf c.head-head.result.now f = front_of c.head-head.result.now f c.head-head.ensures.front in
    record { none = λ t. no_shape f q.original (sym (c.in_default.ensures.whole f front)) }

pub returns-then-original-payload_at : goal.returns-then-original-payload_at
returns-then-original-payload_at g c =
    let q : Packet = g.F.Frame.packet c.args.slot.now in
    let f : List ℕ = q.frame in
    let front : IsHeadOf c.head-head.result.now f = front_of c.head-head.result.now f c.head-head.ensures.front in
    record {
      none = λ t. no_payload f q.original c.original-original.result c.payload_at.result c.in-Some.layout (c.in-Some.ensures.whole f front) c.original-original.ensures.original
          c.payload_at.ensures.place c.if-original-payload_at.true;
    }
