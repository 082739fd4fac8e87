use Rattle.std.proofs.Common.{ℕ, List, refl, sym, ap, ◌∙◌, subst}
use Rattle.std.specs.Prelude.{OnOk, OnErr}
use Rattle.std.specs.List.{flat_map, range_with_len}
use Rattle.std.specs.Io.KnownBytes.{Appends}
use Rattle.off_io.specs.Content.{AppendsPrefix}
use Rattle.gro.specs.Slots.{packet_of}
use Rattle.gso.specs.Places.{SegmentsState}
use Rattle.gso.specs.Planning.{packets_by}
use Rattle.gso.specs.declared.judging.Plan.{Plan}
use Rattle.records.specs.declared.record.Time.{Time}
use Rattle.records.specs.Records.{segment_bytes}
use Rattle.offload_model.specs.Written.{record_bytes}
use Rattle.wire_packet.proofs.Packets.{plan_bytes}
use Rattle.wire_packet.proofs.write.write_plan.Goals as goal

pub returns-in-Segments-clause-ok : goal.returns-in-Segments-clause-ok
returns-in-Segments-clause-ok g c =
    let k = c.args.packet.now in
    let order = c.args.file.now.order in
    let time : Time = record { sec = k.sec; frac = k.frac } in
    let s : SegmentsState = record { skb = k.skb; cut = c.in-Segments.cut; sums = c.in-Segments.sums } in
    subst (λ (z : List ℕ). OnOk c.write_segments.result (Appends (g.K.Sink.held c.args.sink.now) (g.K.Sink.held c.write_segments.new.sink) z))
    (ap (λ (z : SegmentsState). flat_map (segment_bytes order time z) (range_with_len 0 z.cut.n)) c.new.ensures.same ∙ plan_bytes order (packet_of k) time s refl refl refl
    ∙ ap (λ (z : Plan). flat_map (record_bytes order) (packets_by z (packet_of k))) (sym c.in-Segments.is)) c.write_segments.ensures.ok

pub returns-in-Segments-clause-err : goal.returns-in-Segments-clause-err
returns-in-Segments-clause-err g c =
    let k = c.args.packet.now in
    let order = c.args.file.now.order in
    let time : Time = record { sec = k.sec; frac = k.frac } in
    let s : SegmentsState = record { skb = k.skb; cut = c.in-Segments.cut; sums = c.in-Segments.sums } in
    subst (λ (z : List ℕ). OnErr c.write_segments.result (AppendsPrefix (g.K.Sink.held c.args.sink.now) (g.K.Sink.held c.write_segments.new.sink) z))
    (ap (λ (z : SegmentsState). flat_map (segment_bytes order time z) (range_with_len 0 z.cut.n)) c.new.ensures.same ∙ plan_bytes order (packet_of k) time s refl refl refl
    ∙ ap (λ (z : Plan). flat_map (record_bytes order) (packets_by z (packet_of k))) (sym c.in-Segments.is)) c.write_segments.ensures.err
