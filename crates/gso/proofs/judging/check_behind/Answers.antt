use Rattle.std.proofs.Common.{◌≡◌, true, false, sym, ◌∙◌, refl}
use Rattle.std.proofs.lemmas.Bool.{false≢true}
use Rattle.pcap_io.specs.Capture.{Packet, packet}
use Rattle.skb.specs.SkbState.{buffer_bytes}
use Rattle.offload_model.specs.Tests.{is_lawful_by}
use Rattle.segment_rule.proofs.Judged.{lawful_super, lawful_none, segments_are}
use Rattle.gso.proofs.judging.check_behind.Goals as goal

pub returns-in-Some-clause-lawful : goal.returns-in-Some-clause-lawful
returns-in-Some-clause-lawful c =
    let p : Packet = packet 0 0 0 c.args.original (buffer_bytes c.args.skb.now) in
    let lawful : is_lawful_by c.args.head.now p ≡ true = lawful_super c.args.head.now p (sym c.is_single.ensures.single ∙ c.if-is_single.false) c.in-Some.ensures.judged.0 in
    (λ _. lawful, λ _. refl)

pub returns-in-Some-clause-plan : goal.returns-in-Some-clause-plan
returns-in-Some-clause-plan c = λ number sec frac.
    let j = c.in-Some.ensures.judged in
    segments_are c.args.head.now (packet number sec frac c.args.original (buffer_bytes c.args.skb.now)) c.in-Some.cut j.0.kind j.2 j.1.shape_is

pub returns-in-None-clause-lawful : goal.returns-in-None-clause-lawful
returns-in-None-clause-lawful c =
    let p : Packet = packet 0 0 0 c.args.original (buffer_bytes c.args.skb.now) in
    let not : is_lawful_by c.args.head.now p ≡ false
    = lawful_none c.args.head.now p (sym c.is_single.ensures.single ∙ c.if-is_single.false) (sym c.is_window.ensures.window ∙ c.if-is_window.false) c.in-None.ensures.refused in
    (λ e. absurd (false≢true e), λ t. let both : false ≡ true = sym not ∙ t in both)
