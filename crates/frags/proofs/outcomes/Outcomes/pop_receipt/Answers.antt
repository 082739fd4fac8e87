use Rattle.std.proofs.Common.{◌∙◌, sym, ap}
use Rattle.frags.specs.OutcomesState.{OutcomesState}
use Rattle.frags.proofs.Returning.{receipt_taken, receipt_taken_blocks}
use Rattle.frags.proofs.outcomes.Outcomes.pop_receipt.Goals as goal

pub returns-clause-kept : goal.returns-clause-kept
returns-clause-kept c =
    let b : OutcomesState = record { soles = c.self.inside.soles.items; receipts = c.pop.new.self.items; spare = 0 } in
    receipt_taken c.pop.result c.args.self.now b (ap (λ (o : OutcomesState). o.soles) c.self.view_is)
    (sym (ap (λ (o : OutcomesState). o.receipts) c.self.view_is) ∙ c.pop.ensures.items)

pub returns-clause-blocks : goal.returns-clause-blocks
returns-clause-blocks c =
    let b : OutcomesState = record { soles = c.self.inside.soles.items; receipts = c.pop.new.self.items; spare = 0 } in
    receipt_taken_blocks c.pop.result c.args.self.now b (ap (λ (o : OutcomesState). o.soles) c.self.view_is)
    (sym (ap (λ (o : OutcomesState). o.receipts) c.self.view_is) ∙ c.pop.ensures.items)
