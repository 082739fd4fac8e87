use Rattle.std.proofs.Common.{ap, ◌∙◌}
use Rattle.gro_table.specs.Table.{TableState}
use Rattle.gro_table.proofs.Lining.{no_slots, no_spares}
use Rattle.gro_table.proofs.table.RoundTable.discard.Goals as goal

pub discard-requires : goal.discard-requires
discard-requires c =
    let none = ap (λ (t : TableState). t.runs) c.self.view_is ∙ c.requires.none in
    let t = c.self.invariant.together in
    record { none = (no_slots c.self.inside.list c.self.inside.engine t none, no_spares c.self.inside.list c.self.inside.engine t none) }
