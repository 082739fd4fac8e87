use Rattle.std.proofs.Common.{◌∙◌, ℕ, List, ap, sym, subst}
use Rattle.std.specs.Prelude.{OnOk, OnErr}
use Rattle.std.specs.List.{flat_map}
use Rattle.std.specs.Io.KnownBytes.{Appends}
use Rattle.off_io.specs.Content.{AppendsPrefix}
use Rattle.offload_model.specs.Written.{record_bytes}
use Rattle.wire_model.specs.Wire.{cut_of, is_cut}
use Rattle.wire_packet.proofs.Counted.{same_counts}
use Rattle.wire_packet.proofs.write.wire_packet.Goals as goal

pub returns-clause-writes : goal.returns-clause-writes
returns-clause-writes g c =
    let k = c.args.packet in
    let order = c.args.file.now.order in
    let held = g.K.Sink.held c.args.sink.now in
    let now = g.K.Sink.held c.write_plan-wrote.new.sink in
    let same = ap (flat_map (record_bytes order))
    (sym (ap (cut_of c.args.wiring.mss) (sym (c.fill_packet-fates.ensures.filled k.number k.sec k.frac)) ∙ c.plan_cut-plan.ensures.plan k.number k.sec k.frac)) in
    record {
      ok = subst (λ (z : List ℕ). OnOk c.write_plan-wrote.result (Appends held now z)) same c.write_plan-wrote.ensures.ok;
      err = subst (λ (z : List ℕ). OnErr c.write_plan-wrote.result (AppendsPrefix held now z)) same c.write_plan-wrote.ensures.err;
      cause = c.write_plan-wrote.ensures.cause;
    }

pub returns-clause-counts : goal.returns-clause-counts
returns-clause-counts g c =
    let k = c.args.packet in
    let o = c.args.wiring in
    let old = c.args.counts.now in
    let fated = c.fill_packet-fates.ensures.fates k.number k.sec k.frac in
    let cut = sym (c.plan_cut-plan.ensures.cut k.number k.sec k.frac) ∙ ap (is_cut o.mss) (c.fill_packet-fates.ensures.filled k.number k.sec k.frac) in
    c.count.ensures.counts ∙ same_counts _ _ _ _ _ _ _ _ old fated.filled fated.wrong cut c.len-len.ensures.bytes
