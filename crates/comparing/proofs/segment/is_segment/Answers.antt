use Rattle.std.proofs.Common.{◌≡◌, ◌∙◌, ◌++◌, ℕ, List, length, min, take, ap, subst, arith}
use Rattle.std.specs.Prelude.{Decides}
use Rattle.skb.specs.SkbState.{buffer_bytes}
use Rattle.segment_rule.specs.Segmentations.{segment_at}
use Rattle.comparing.proofs.Segmenting.{near_at, laid_at, ranges_at, segment_is, next_is, other_length, same_length, few_bytes, least_inside}
use Rattle.comparing.proofs.segment.is_segment.Goals as goal

pub put_headers-requires-clause-laid : goal.put_headers-requires-clause-laid
put_headers-requires-clause-laid c =
    let f = c.requires.of.0 in
    laid_at c.args.cut.now f c.args.headers.now c.args.payload.now c.args.i c.requires.of.1 c.copy_from_slice.new.self c.copy_from_slice.ensures.after

pub put_headers-requires-clause-near : goal.put_headers-requires-clause-near
put_headers-requires-clause-near c =
    near_at c.args.cut.now c.requires.of.0 c.args.headers.now c.args.payload.now c.args.i c.requires.of.1 c.requires.there

pub put_headers-requires-clause-ranges : goal.put_headers-requires-clause-ranges
put_headers-requires-clause-ranges c =
    let f = c.requires.of.0 in
    let least : c.min-n.result ≡ min c.args.cut.now.m (length c.args.payload.now) = c.min-n.ensures ∙ ap (min c.args.cut.now.m) c.len.ensures.len in
    ranges_at c.args.cut.now f c.args.headers.now c.args.payload.now c.args.i c.requires.of.1 c.min-n.result least c.copy_from_slice.new.self c.sum_next-sum.result.len c.copy_from_slice.ensures.after
    c.sum_next-sum.ensures.len

pub returns-then-clone-header-clause-same : goal.returns-then-clone-header-clause-same
returns-then-clone-header-clause-same c = λ f is.
    let n = c.min-n.result in
    let least : n ≡ min c.args.cut.now.m (length c.args.payload.now) = c.min-n.ensures ∙ ap (min c.args.cut.now.m) c.len.ensures.len in
    let header = c.put_headers.new.head in
    let made = c.put_headers.ensures.segment (take n c.args.payload.now) c.sum_next-sum.ensures.sum in
    let seg = segment_is c.args.cut.now f c.args.headers.now c.args.payload.now c.args.i is n least c.copy_from_slice.new.self header c.copy_from_slice.ensures.after made in
    other_length c.args.cut.now f c.args.headers.now c.args.payload.now c.args.i is n least header _ c.args.clone.now.original (segment_at c.args.cut.now f c.args.i) seg
    (λ e. absurd (omega (arith, e, c.put_headers.auto.head, c.copy_from_slice.auto.self, ap length c.copy_from_slice.ensures.after)))

pub returns-then-clone-header-clause-next : goal.returns-then-clone-header-clause-next
returns-then-clone-header-clause-next c = λ f is.
    let n = c.min-n.result in
    let least : n ≡ min c.args.cut.now.m (length c.args.payload.now) = c.min-n.ensures ∙ ap (min c.args.cut.now.m) c.len.ensures.len in
    next_is c.args.cut.now f c.args.headers.now c.args.payload.now c.args.i is n least c.sum_next-sum.new.self c.sum_next-sum.ensures.behind

pub returns-clause-same : goal.returns-clause-same
returns-clause-same c = λ f is.
    let n = c.min-n.result in
    let least : n ≡ min c.args.cut.now.m (length c.args.payload.now) = c.min-n.ensures ∙ ap (min c.args.cut.now.m) c.len.ensures.len in
    let header = c.put_headers.new.head in
    let made = c.put_headers.ensures.segment (take n c.args.payload.now) c.sum_next-sum.ensures.sum in
    let seg = segment_is c.args.cut.now f c.args.headers.now c.args.payload.now c.args.i is n least c.copy_from_slice.new.self header c.copy_from_slice.ensures.after made in
    same_length c.args.cut.now f c.args.headers.now c.args.payload.now c.args.i is n least c.is_frame.result header _ c.args.clone.now.original (segment_at c.args.cut.now f c.args.i) seg
    (omega (arith, c.put_headers.auto.head, c.copy_from_slice.auto.self, ap length c.copy_from_slice.ensures.after))
    (subst (λ (z : List ℕ). Decides c.is_frame.result (buffer_bytes c.args.clone.now.skb ≡ header ++ take n z)) c.again-own.ensures.same c.is_frame.ensures.same)

pub returns-clause-next : goal.returns-clause-next
returns-clause-next c = λ f is.
    let n = c.min-n.result in
    let least : n ≡ min c.args.cut.now.m (length c.args.payload.now) = c.min-n.ensures ∙ ap (min c.args.cut.now.m) c.len.ensures.len in
    next_is c.args.cut.now f c.args.headers.now c.args.payload.now c.args.i is n least c.sum_next-sum.new.self c.sum_next-sum.ensures.behind

pub put_headers-requires-clause-few : goal.put_headers-requires-clause-few
put_headers-requires-clause-few c =
    few_bytes c.args.cut.now c.requires.of.0 c.args.headers.now c.args.payload.now c.args.i c.requires.of.1 c.min-n.result (c.min-n.ensures ∙ ap (min c.args.cut.now.m) c.len.ensures.len)
    c.copy_from_slice.new.self c.sum_next-sum.result.len c.requires.low c.copy_from_slice.ensures.after c.sum_next-sum.ensures.len

pub is_frame-requires-clause-there : goal.is_frame-requires-clause-there
is_frame-requires-clause-there c =
    least_inside c.args.cut.now.m c.min-n.result c.args.payload.now c.again-own.result (c.min-n.ensures ∙ ap (min c.args.cut.now.m) c.len.ensures.len) c.again-own.ensures.same
