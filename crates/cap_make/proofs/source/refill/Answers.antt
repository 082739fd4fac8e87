use Rattle.std.proofs.Common.{rules, ◌≡◌, [], ap, sym, ◌∙◌, ◌++◌, arith, ◌-◌}
use Rattle.cap_make.specs.Capture.{records_from}
use Rattle.cap_make.proofs.Steps.{next_owed}
use Rattle.cap_make.proofs.source.refill.Goals as goal

pub returns-clause-same : goal.returns-clause-same
returns-clause-same c =
    let empty : c.args.buffer.now ≡ [] = search rules in
    sym (next_owed c.args.count c.args.number c.args.maker.now c.next_record.new.self c.next_record.new.buffer (omega arith) c.next_record.ensures.bytes c.next_record.ensures.next)
    ∙ ap (λ z. z ++ records_from (c.args.count - c.args.number) c.args.number c.args.maker.now) (sym empty)
