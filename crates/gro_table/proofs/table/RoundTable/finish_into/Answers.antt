use Rattle.std.proofs.Common.{List, subst, ap, sym, ◌∙◌}
use Rattle.gro_table.specs.declared.item.Item.{Item}
use Rattle.gro_table.specs.declared.packet.Packet.{Packet}
use Rattle.gro_table.specs.declared.packet_list.PacketList.{PacketList}
use Rattle.gro_table.specs.Table.{TableState, AreItemsFrom, IsTable, no_table}
use Rattle.gro_table.proofs.Tables.{table_none, slots_none, no_runs}
use Rattle.gro_table.proofs.Finishing.{items_account, items_ready, received_merged, received_count, received_shared, received_least}
use Rattle.gro_table.proofs.table.RoundTable.finish_into.Goals as goal

pub returns-clause-items : goal.returns-clause-items
returns-clause-items c =
    let is : List Item = c.build_items.new.items.items in
    subst (λ (z : TableState). AreItemsFrom z.runs is) c.self.view_is c.in_ok-build_items.ensures.items

pub returns-clause-merged : goal.returns-clause-merged
returns-clause-merged c = λ ps r. received_merged ps c.args.self.now c.build_items.new.items.items r (returns-clause-items c)

pub returns-clause-count : goal.returns-clause-count
returns-clause-count c = λ ps r. received_count ps c.args.self.now c.build_items.new.items.items r (returns-clause-items c)

pub returns-clause-account : goal.returns-clause-account
returns-clause-account c = items_account c.args.self.now.runs c.build_items.new.items.items (returns-clause-items c)

pub returns-clause-shared : goal.returns-clause-shared
returns-clause-shared c = λ ps r s. received_shared ps c.args.self.now c.build_items.new.items.items r s (returns-clause-items c)

pub returns-clause-least : goal.returns-clause-least
returns-clause-least c = λ ps w r f s. received_least ps w c.args.self.now c.build_items.new.items.items r f s (returns-clause-items c)

pub returns-clause-ready : goal.returns-clause-ready
returns-clause-ready c = items_ready c.args.self.now.runs c.build_items.new.items.items (returns-clause-items c)

pub invariant_of-self-2 : goal.invariant_of-self-2
invariant_of-self-2 c =
    let l = c.build_items.new.list in
    table_none l c.clear.new.self 0 c.in_ok-build_items.ensures.none.0 c.in_ok-build_items.ensures.none.1 c.clear.ensures.ready (slots_none l)

pub returns-clause-none : goal.returns-clause-none
returns-clause-none c =
    ap (λ (z : List (List Packet)). record { runs = z; limit = 0; received = 0; above = 0; segs = c.self.inside.segs })
    (no_runs c.build_items.new.list c.clear.new.self c.clear.ensures.ready.none)
    ∙ ap (λ (t : TableState). no_table t.segs) c.self.view_is

pub invariant_of-self : goal.invariant_of-self
invariant_of-self c =
    let t = c.self.inside in
    subst (λ (l : PacketList). IsTable l t.engine t.limit t.received t.above t.count) (sym c.in_err-build_items.ensures.same.0) c.self.invariant
