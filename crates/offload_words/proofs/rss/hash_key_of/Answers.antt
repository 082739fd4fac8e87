use Rattle.std.proofs.Common.{◌∙◌, ap, arith, length-set, refl}
use Rattle.offload_words.specs.Rss.{hash_key_in}
use Rattle.offload_words.proofs.HashKeys.{key_more, no_key, none_yet, whole_key}
use Rattle.offload_words.proofs.rss.hash_key_of.Goals as goal

pub loop-i-init : goal.loop-i-init
loop-i-init c = record { size = refl; bytes = none_yet c.as_bytes-digits.result.now }

pub loop-i-preserved : goal.loop-i-preserved
loop-i-preserved c = record {
  size = length-set c.loop-i.key c.loop-i.i c.in_ok-key.field-0 ∙ c.loop-i.invariant.size;
  bytes =
      key_more c.as_bytes-digits.result.now c.loop-i.key c.loop-i.i c.in_ok-key.field-0 (omega arith) (omega arith) c.loop-i.invariant.bytes
      c.in_ok-key.ensures.byte;
}

pub returns-in_err-key : goal.returns-in_err-key
returns-in_err-key c =
    let l = c.loop-i in
    record {
      key = c.from_residual.ensures ∙ no_key c.as_bytes-digits.result.now l.key l.i c.if-digits-ne80.false l.invariant.bytes c.loop-i-test.true c.in_err-key.ensures.byte ∙ ap hash_key_in c.as_bytes-digits.ensures.value;
    }

pub returns : goal.returns
returns c =
    let l = c.loop-i in
    record {
      key = whole_key c.as_bytes-digits.result.now l.key l.i c.if-digits-ne80.false l.invariant.bytes l.invariant.size c.loop-i-test.false l.auto.i-end ∙ ap hash_key_in c.as_bytes-digits.ensures.value;
    }
