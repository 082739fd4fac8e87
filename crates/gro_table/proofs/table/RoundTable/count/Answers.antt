use Rattle.std.proofs.Common.{sym, ap, ◌∙◌}
use Rattle.gro_table.specs.Table.{TableState, counts_in}
use Rattle.gro_table.proofs.Tables.{counts_same}
use Rattle.gro_table.proofs.table.RoundTable.count.Goals as goal

pub returns : goal.returns
returns c = record {
  count = c.self.invariant.counted ∙ sym (counts_same c.self.inside.list c.self.inside.engine c.self.invariant.together) ∙ ap (λ (t : TableState). counts_in t.runs) c.self.view_is;
}
