use Rattle.std.proofs.Common.{◌∙◌, refl, sym}
use Rattle.merge_rule.proofs.Knows.{placed_by}
use Rattle.merge_tests.proofs.examples.example_of_merge_rule.Goals as goal

pub first_progress-progress-requires-clause-placed : goal.first_progress-progress-requires-clause-placed
first_progress-progress-requires-clause-placed g c = placed_by _ c.in-Some.layout (sym c.shape.ensures.shape ∙ c.in-Some.is)

pub is_next-requires-clause-placed : goal.is_next-requires-clause-placed
is_next-requires-clause-placed g c = placed_by _ c.in-Some.layout (sym c.shape.ensures.shape ∙ c.in-Some.is)

pub next_progress-progress-requires-clause-placed : goal.next_progress-progress-requires-clause-placed
next_progress-progress-requires-clause-placed g c = placed_by _ c.in-Some.layout (sym c.shape.ensures.shape ∙ c.in-Some.is)

pub next_progress-progress-requires-clause-next : goal.next_progress-progress-requires-clause-next
next_progress-progress-requires-clause-next g c =
    let first = c.as_slice-first.result.now in
    let next = c.as_slice-next.result.now in
    ((c.if-is_next.ensures.next first next (record { begins = λ k l. refl; long = refl }) (record { begins = λ k l. refl; long = refl })).0 refl).there

pub next_progress-progress-requires-clause-there : goal.next_progress-progress-requires-clause-there
next_progress-progress-requires-clause-there g c =
    let first = c.as_slice-first.result.now in
    let next = c.as_slice-next.result.now in
    ((c.if-is_next.ensures.next first next (record { begins = λ k l. refl; long = refl }) (record { begins = λ k l. refl; long = refl })).0 refl).there
