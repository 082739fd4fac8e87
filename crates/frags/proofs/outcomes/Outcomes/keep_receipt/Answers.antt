use Rattle.std.proofs.Common.{[], ◌∷◌, ◌++◌, ◌∙◌, ap}
use Rattle.frags.specs.OutcomesState.{OutcomesState}
use Rattle.raw_block.specs.declared.part.Released.TheVariants.{Left}
use Rattle.frags.proofs.Growing.{grows_behind}
use Rattle.frags.proofs.Returning.{receipt_kept, receipt_blocks}
use Rattle.frags.proofs.outcomes.Outcomes.keep_receipt.Goals as goal

pub returns-clause-kept : goal.returns-clause-kept
returns-clause-kept c =
    let b : OutcomesState = record { soles = c.self.inside.soles.items; receipts = c.push_reserved.new.self.items; spare = 0 } in
    receipt_kept c.args.receipt c.args.self.now b (ap (λ (o : OutcomesState). o.soles) c.self.view_is)
    (c.push_reserved.ensures.items ∙ ap (λ (o : OutcomesState). o.receipts ++ c.args.receipt ∷ []) c.self.view_is)

pub returns-clause-grows : goal.returns-clause-grows
returns-clause-grows c =
    let b : OutcomesState = record { soles = c.self.inside.soles.items; receipts = c.push_reserved.new.self.items; spare = 0 } in
    grows_behind (Left c.args.receipt) c.args.self.now b (
      ap (λ (o : OutcomesState). o.soles) c.self.view_is,
      c.push_reserved.ensures.items ∙ ap (λ (o : OutcomesState). o.receipts ++ c.args.receipt ∷ []) c.self.view_is,
    )

pub returns-clause-blocks : goal.returns-clause-blocks
returns-clause-blocks c =
    let b : OutcomesState = record { soles = c.self.inside.soles.items; receipts = c.push_reserved.new.self.items; spare = 0 } in
    receipt_blocks c.args.receipt c.args.self.now b (ap (λ (o : OutcomesState). o.soles) c.self.view_is)
    (c.push_reserved.ensures.items ∙ ap (λ (o : OutcomesState). o.receipts ++ c.args.receipt ∷ []) c.self.view_is)
