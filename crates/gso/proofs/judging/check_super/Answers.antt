use Rattle.std.proofs.Common.{◌≡◌, ◌-◌, ◌+◌, sym, ◌∙◌, subst, arith}
use Rattle.std.specs.Prelude.{IfOk, nat_le}
use Rattle.std.proofs.lemmas.Bool.{and_parts, leb-true}
use Rattle.pcap_io.specs.Capture.{packet}
use Rattle.pcap_io.specs.Headers.{head_size as head_size_of, says_version}
use Rattle.skb.specs.SkbState.{buffer_bytes}
use Rattle.offload_model.specs.Segments.{segments_by}
use Rattle.gso.specs.Planning.{packets_by}
use Rattle.gso.proofs.judging.check_super.Goals as goal

pub check_behind-requires-clause-short : goal.check_behind-requires-clause-short
check_behind-requires-clause-short c =
    let n = head_size_of c.args.head.now in
    let all = n + c.len.result in
    let p = and_parts (says_version c.args.head.now) _ (sym c.is_opened.ensures.opened ∙ c.if-not-is_opened.false) in
    let q = and_parts (nat_le n all) _ p.1 in
    let r = and_parts (nat_le all (n + 262144)) _ q.1 in
    omega (arith, leb-true all (n + 262144) r.0, c.len.ensures.size, c.len.ensures.bytes)

pub returns-clause-plan : goal.returns-clause-plan
returns-clause-plan c = λ number sec frac.
    let f = buffer_bytes c.args.skb.now in
    subst (λ h. IfOk c.check_behind.result (λ plan. segments_by h (packet number sec frac (c.args.original - head_size_of c.args.head.now) f)
    ≡ packets_by plan (packet number sec frac (c.args.original - head_size_of c.args.head.now) f))) c.fields.ensures.fields
    (subst (λ n. IfOk c.check_behind.result (λ plan. segments_by c.fields.result (packet number sec frac (c.args.original - n) f)
    ≡ packets_by plan (packet number sec frac (c.args.original - n) f))) c.size.ensures.size
    (c.check_behind.ensures.plan number sec frac))
