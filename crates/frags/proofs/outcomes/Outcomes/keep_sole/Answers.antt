use Rattle.std.proofs.Common.{[], ◌∷◌, ◌++◌, ◌∙◌, ap}
use Rattle.frags.specs.OutcomesState.{OutcomesState}
use Rattle.raw_block.specs.declared.part.Released.TheVariants.{Last}
use Rattle.frags.proofs.Growing.{grows_behind}
use Rattle.frags.proofs.Returning.{sole_kept, sole_blocks}
use Rattle.frags.proofs.outcomes.Outcomes.keep_sole.Goals as goal

pub returns-clause-kept : goal.returns-clause-kept
returns-clause-kept c =
    let b : OutcomesState = record { soles = c.push_reserved.new.self.items; receipts = c.self.inside.receipts.items; spare = 0 } in
    sole_kept c.args.sole c.args.self.now b (c.push_reserved.ensures.items
    ∙ ap (λ (o : OutcomesState). o.soles ++ c.args.sole ∷ []) c.self.view_is)
    (ap (λ (o : OutcomesState). o.receipts) c.self.view_is)

pub returns-clause-grows : goal.returns-clause-grows
returns-clause-grows c =
    let b : OutcomesState = record { soles = c.push_reserved.new.self.items; receipts = c.self.inside.receipts.items; spare = 0 } in
    grows_behind (Last c.args.sole) c.args.self.now b (
      c.push_reserved.ensures.items
          ∙ ap (λ (o : OutcomesState). o.soles ++ c.args.sole ∷ []) c.self.view_is,
      ap (λ (o : OutcomesState). o.receipts) c.self.view_is,
    )

pub returns-clause-blocks : goal.returns-clause-blocks
returns-clause-blocks c =
    let b : OutcomesState = record { soles = c.push_reserved.new.self.items; receipts = c.self.inside.receipts.items; spare = 0 } in
    sole_blocks c.args.sole c.args.self.now b (c.push_reserved.ensures.items
    ∙ ap (λ (o : OutcomesState). o.soles ++ c.args.sole ∷ []) c.self.view_is)
    (ap (λ (o : OutcomesState). o.receipts) c.self.view_is)
