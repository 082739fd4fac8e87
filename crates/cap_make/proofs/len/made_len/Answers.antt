use Rattle.std.proofs.Common.{ap, sym, ◌∙◌, ◌++◌, ◌-◌, arith, length, length-append}
use Rattle.cap_make.specs.Capture.{first_next, records_from}
use Rattle.cap_make.proofs.Steps.{made_is, next_length, none_length}
use Rattle.cap_make.proofs.len.made_len.Goals as goal

pub loop-number-init : goal.loop-number-init
loop-number-init c =
    let seed = c.args.seed in let count = c.args.count in
    let head = c.bytes.ensures.bytes ∙ c.of_file_header-buffer.ensures.bytes in
    let all = ap (λ z. c.bytes.result.now ++ records_from (count - 0) 0 z) c.new-maker.ensures.first ∙ ap (λ z. z ++ records_from (count - 0) 0 (first_next seed)) head ∙ made_is seed count in (
      omega (arith, ap length all, length-append c.bytes.result.now (records_from (count - 0) 0 c.new-maker.result)),
      omega (arith, ap length c.bytes.ensures.bytes, c.bytes.ensures.short),
    )

pub loop-number-preserved : goal.loop-number-preserved
loop-number-preserved c =
    let size = ap length c.bytes-in-loop-number.ensures.bytes in
    let more = next_length c.args.count c.loop-number.number c.loop-number.len c.loop-number.maker c.next_record.new.self c.bytes-in-loop-number.result.now (omega arith)
    (c.bytes-in-loop-number.ensures.bytes ∙ c.next_record.ensures.bytes) c.next_record.ensures.next in (
      sym more ∙ c.loop-number.invariant.0,
      omega (arith, size, c.bytes-in-loop-number.ensures.short, c.loop-number.invariant.1),
    )

pub overflow_add-len : goal.overflow_add-len
overflow_add-len c = omega (arith, ap length c.bytes-in-loop-number.ensures.bytes, c.bytes-in-loop-number.ensures.short, c.loop-number.invariant.1)

pub returns : goal.returns
returns c = record {
  len = omega (arith, c.loop-number.invariant.0, none_length (c.args.count - c.loop-number.number) c.loop-number.number c.loop-number.maker (omega arith));
}
