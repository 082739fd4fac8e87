use Rattle.std.proofs.Common.{Some, length, ap, sym, subst, arith}
use Rattle.std.proofs.lemmas.List.{length-map}
use Rattle.gro_table.specs.declared.packet.Packet.{Packet as Held}
use Rattle.gro.specs.Slots.{packet_of}
use Rattle.gro_table.specs.Lists.{held_of}
use Rattle.gro_table.specs.Waiting.{AreWaiting}
use Rattle.gro_table.proofs.Lining.{long, all_wait}
use Rattle.gro_table.proofs.shelf.Shelf.build_items.Goals as goal

pub build_all-requires-clause-linked : goal.build_all-requires-clause-linked
build_all-requires-clause-linked c =
    let l = c.args.list.now in
    let t = c.requires.together in
    omega (
      arith,
      ap length c.line_up.ensures.waiting,
      length-map (held_of l) (λ (p : Held). Some p),
      long l c.args.engine.now t,
      t.are.linked,
      length-map l.slots.items packet_of,
    )

pub build_all-requires-clause-waiting : goal.build_all-requires-clause-waiting
build_all-requires-clause-waiting c =
    let e = c.args.engine.now in
    subst (AreWaiting e.next.items e.runs.items) (sym c.line_up.ensures.waiting) (all_wait c.args.list.now e c.requires.together)
