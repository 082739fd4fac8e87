use Rattle.gro_table.proofs.Tables.{table_none}
use Rattle.gro_table.proofs.table.RoundTable.make.Goals as goal

pub invariant_of-result : goal.invariant_of-result
invariant_of-result c =
    table_none c.in_ok-list.list c.in_ok-engine.engine c.args.limit c.in_ok-list.ensures.none.0 c.in_ok-list.ensures.none.1 c.in_ok-engine.ensures.ready
    c.in_ok-list.ensures.room
