use Rattle.std.proofs.Common.{◌≡◌, Bool, sym, ap, ◌∙◌, rules, if◌then◌else◌}
use Rattle.std.proofs.lemmas.Bool.{eq-eqb}
use Rattle.net_bytes.specs.Bytes.{byte}
use Rattle.pcap_io.specs.declared.off_head.AnyHead.TheVariants.{V1, V2}
use Rattle.pcap_io.specs.Headers.{off_head, off_head2}
use Rattle.pcap_io.proofs.Judging.{off_head2_front}
use Rattle.pcap_io.proofs.off_head.AnyHead.read.Goals as goal

pub returns-in-Some-clause-fields : goal.returns-in-Some-clause-fields
returns-in-Some-clause-fields c =
    let bytes = c.args.bytes.now in
    let first : byte bytes 0 ≡ 2 = search rules in
    ap V2 (c.read.ensures.fields ∙ ap off_head2 c.in-Some.ensures.cases.same ∙ off_head2_front bytes)
    ∙ ap (λ (b : Bool). if b then V2 (off_head2 bytes) else V1 (off_head bytes)) (sym (eq-eqb _ _ first))
