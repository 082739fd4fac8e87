use Rattle.std.proofs.Common.{◌∙◌, ap, sym}
use Rattle.pcap_io.specs.declared.off_head.OffHead2.{OffHead2}
use Rattle.skb.specs.SkbState.{buffer_bytes}
use Rattle.frame_runs.specs.MergedRun.{payload_place}
use Rattle.gro.specs.Slots.{packet_of}
use Rattle.segment_rule.specs.declared.segmentation.Segmentation.{Segmentation}
use Rattle.comparing.proofs.Runs.{head_is, layout_is, has_shape, cut_is}
use Rattle.comparing.proofs.counting.cut_of.Goals as goal

pub unreachable-requires : goal.unreachable-requires
unreachable-requires c =
    let s = c.args.first.now in
    let shape = c.shape.ensures.whole (buffer_bytes s.skb) (head_is s c.requires.slot c.head.result.now c.head.ensures.bytes c.head.ensures.size) in
    has_shape c.args.run.now s c.requires.run c.requires.several (sym shape ∙ c.in_default.is)

pub returns-clause-cut : goal.returns-clause-cut
returns-clause-cut c = λ rest knows small.
    let s = c.args.first.now in
    let shape = c.shape.ensures.whole (buffer_bytes s.skb) (head_is s c.requires.slot c.head.result.now c.head.ensures.bytes c.head.ensures.size) in
    let cut : Segmentation = record { layout = c.in-Some.layout; n = c.head-head.result.n; m = c.head-head.result.m; modes = c.head-head.result.modes } in
    let head = c.head-head.ensures.head rest knows in
    cut_is c.args.run.now (packet_of s) rest cut knows c.requires.several small (sym shape ∙ c.in-Some.is)
    record { n = ap (λ (h : OffHead2). h.n) head; m = ap (λ (h : OffHead2). h.m) head; modes = ap (λ (h : OffHead2). h.modes) head }

pub returns-clause-place : goal.returns-clause-place
returns-clause-place c =
    let s = c.args.first.now in
    let shape = c.shape.ensures.whole (buffer_bytes s.skb) (head_is s c.requires.slot c.head.result.now c.head.ensures.bytes c.head.ensures.size) in
    ap payload_place (sym (layout_is c.args.run.now s c.requires.run c.requires.several ∙ sym shape ∙ c.in-Some.is))
