use Rattle.std.proofs.Common.{◌∙◌, sym, ap, length}
use Rattle.crossbeam_queue.specs.Passes.{view}
use Rattle.errands.specs.declared.rule.Asked.{Asked}
use Rattle.errands.specs.declared.rule.Slip.{Slip}
use Rattle.errands.proofs.Steps.{asks}
use Rattle.errands.proofs.desk.push_task.Goals as goal

pub push_as-requires-clause-rule : goal.push_as-requires-clause-rule
push_as-requires-clause-rule g c =
    let i = c.loop.invariant in (
      asks _ _ (view c.loop.pass) c.loop.waiting (ap (λ (v : Slip g.row.T.Denot). v.gives) i.known ∙ c.requires.gives)
          (ap (λ (a : Asked g.row.T.Denot). a.number) i.waits ∙ c.requires.number ∙ sym (ap (λ (v : Slip g.row.T.Denot). length v.log) i.known)),
      λ items views kept at. tt,
    )
