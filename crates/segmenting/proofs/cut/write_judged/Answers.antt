use Rattle.std.proofs.Common.{◌≤◌, ℕ, ap, sym, subst, arith, ◌∙◌}
use Rattle.std.specs.Prelude.{is_ok}
use Rattle.std.proofs.KnownBytes.{Keeps-refl}
use Rattle.skb.specs.SkbState.{buffer_bytes}
use Rattle.pcap_io.specs.Headers.{head_size}
use Rattle.gso.specs.Planning.{packets_by}
use Rattle.segmenting.specs.Cutting.{packet_behind, packets_bytes}
use Rattle.segmenting.proofs.Packets.{lawful_is, opened, segments_are, taken_by, refused_by, writes_at, writes_record}
use Rattle.segmenting.proofs.cut.write_judged.Goals as goal

pub write_plan-requires-clause-short : goal.write_plan-requires-clause-short
write_plan-requires-clause-short g c =
    let k = c.args.packet in
    omega (arith, (opened c.args.head.now k.original (buffer_bytes k.skb) (c.check_super.ensures.lawful.0 (ap is_ok c.in-Ok.is))).short)

pub write_plan-requires-clause-original : goal.write_plan-requires-clause-original
write_plan-requires-clause-original g c =
    let k = c.args.packet in
    omega (arith, c.size.ensures.size, (opened c.args.head.now k.original (buffer_bytes k.skb) (c.check_super.ensures.lawful.0 (ap is_ok c.in-Ok.is))).within)

pub overflow_sub-packet : goal.overflow_sub-packet
overflow_sub-packet g c =
    let k = c.args.packet in
    subst (λ (n : ℕ). n ≤ k.original) (sym c.size.ensures.size) (opened c.args.head.now k.original (buffer_bytes k.skb) (c.check_super.ensures.lawful.0 (ap is_ok c.in-Ok.is))).above

pub returns-in-Ok-clause-writes : goal.returns-in-Ok-clause-writes
returns-in-Ok-clause-writes g c = λ r is.
    let k = c.args.packet in
    let head = c.args.head.now in
    let n = head_size head in
    let order = c.args.file.now.order in
    let plan = c.in-Ok.plan in
    writes_record order r (packets_by plan (packet_behind n k)) _ _ c.write_plan.result
    (taken_by c.check_super.result _ plan c.in-Ok.is c.check_super.ensures.lawful (lawful_is r head k is))
    (segments_are r head k is ∙ c.in-Ok.ensures.plan k.number k.sec k.frac)
    (writes_at (packets_bytes order (packets_by plan (packet_behind n k))) (packets_bytes order (packets_by plan (packet_behind c.size.result k))) _ _ c.write_plan.result
    (ap (λ m. packets_bytes order (packets_by plan (packet_behind m k))) (sym c.size.ensures.size)) c.write_plan.ensures.writes)

pub returns-in-Err-clause-writes : goal.returns-in-Err-clause-writes
returns-in-Err-clause-writes g c = λ r is.
    (refused_by c.check_super.result _ c.in-Err.field-0 c.in-Err.is c.check_super.ensures.lawful (lawful_is r c.args.head.now c.args.packet is), Keeps-refl _)
