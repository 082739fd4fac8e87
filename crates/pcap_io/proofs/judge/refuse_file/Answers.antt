use Rattle.std.proofs.Common.{sym, ◌∙◌}
use Rattle.pcap_io.proofs.Judging.{bad_version, bad_link, lawful_file}
use Rattle.pcap_io.proofs.judge.refuse_file.Goals as goal

pub returns-then-ne : goal.returns-then-ne
returns-then-ne c =
    let named = sym c.spelling.ensures.value ∙ c.in-Some.is in
    record {
      refused = bad_version c.args.link c.args.head.now c.in-Some.order c.in-Some.field-0-1 named c.if-head-lt24.false
          c.get16.result c.get16-2.result c.get16.ensures.number c.get16-2.ensures.number
          (sym c.ne.ensures ∙ c.if-ne.true);
    }

pub returns-then-get32-number : goal.returns-then-get32-number
returns-then-get32-number c =
    let named = sym c.spelling.ensures.value ∙ c.in-Some.is in
    record {
      refused = bad_link c.args.link c.args.head.now c.in-Some.order c.in-Some.field-0-1 named c.if-head-lt24.false
          c.get16.result c.get16-2.result c.get16.ensures.number c.get16-2.ensures.number
          (sym c.ne.ensures ∙ c.if-ne.false) c.get32.result c.get32.ensures.number (λ e. c.if-get32-number.true (e
          ∙ sym c.number.ensures.value));
    }

pub returns : goal.returns
returns c =
    let named = sym c.spelling.ensures.value ∙ c.in-Some.is in
    record {
      refused = lawful_file c.args.link c.args.head.now c.in-Some.order c.in-Some.field-0-1 named c.if-head-lt24.false
          c.get16.result c.get16-2.result c.get16.ensures.number c.get16-2.ensures.number
          (sym c.ne.ensures ∙ c.if-ne.false) c.get32.result c.get32.ensures.number (c.if-get32-number.false
          ∙ c.number.ensures.value);
    }
