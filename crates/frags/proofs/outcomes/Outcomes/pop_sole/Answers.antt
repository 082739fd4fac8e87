use Rattle.std.proofs.Common.{◌∙◌, sym, ap}
use Rattle.frags.specs.OutcomesState.{OutcomesState}
use Rattle.frags.proofs.Returning.{sole_taken, sole_taken_blocks}
use Rattle.frags.proofs.outcomes.Outcomes.pop_sole.Goals as goal

pub returns-clause-kept : goal.returns-clause-kept
returns-clause-kept c =
    let b : OutcomesState = record { soles = c.pop.new.self.items; receipts = c.self.inside.receipts.items; spare = 0 } in
    sole_taken c.pop.result c.args.self.now b (sym (ap (λ (o : OutcomesState). o.soles) c.self.view_is)
    ∙ c.pop.ensures.items) (ap (λ (o : OutcomesState). o.receipts) c.self.view_is)

pub returns-clause-blocks : goal.returns-clause-blocks
returns-clause-blocks c =
    let b : OutcomesState = record { soles = c.pop.new.self.items; receipts = c.self.inside.receipts.items; spare = 0 } in
    sole_taken_blocks c.pop.result c.args.self.now b (sym (ap (λ (o : OutcomesState). o.soles) c.self.view_is)
    ∙ c.pop.ensures.items) (ap (λ (o : OutcomesState). o.receipts) c.self.view_is)
