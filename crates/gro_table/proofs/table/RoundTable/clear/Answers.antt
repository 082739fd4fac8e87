use Rattle.std.proofs.Common.{ℕ, List, ap, ◌∙◌, subst, arith}
use Rattle.frags.specs.Growth.{Grows}
use Rattle.gro_table.specs.declared.packet.Packet.{Packet}
use Rattle.gro_table.specs.Table.{TableState, of_runs, no_table}
use Rattle.gro_table.proofs.Tables.{counts_told, table_none, slots_none, no_runs}
use Rattle.gro_table.proofs.Finishing.{account_same}
use Rattle.gro_table.proofs.table.RoundTable.clear.Goals as goal

pub release_all-requires-clause-room : goal.release_all-requires-clause-room
release_all-requires-clause-room c =
    omega (arith, c.requires.room, counts_told c.self.inside.list c.self.inside.engine c.args.self.now.runs c.self.invariant.together (ap (λ (t : TableState). t.runs) c.self.view_is))

pub invariant_of-self : goal.invariant_of-self
invariant_of-self c = table_none c.release_all.new.self c.clear.new.self 0 c.release_all.ensures.none.0 c.release_all.ensures.none.1 c.clear.ensures.ready (slots_none c.release_all.new.self)

pub returns-clause-kept : goal.returns-clause-kept
returns-clause-kept c = λ u m.
    let k = c.release_all.ensures.kept u m in
    let same = account_same c.self.inside.list c.self.inside.engine c.self.invariant.together u m in
    let h = ap (λ (t : TableState). (of_runs t.runs).held u m) c.self.view_is in
    let g = ap (λ (t : TableState). (of_runs t.runs).homes u.blocks m) c.self.view_is in
    (omega (arith, k, same, h), omega (arith, k, same, h, g))

pub returns-clause-grows : goal.returns-clause-grows
returns-clause-grows c = subst (λ (n : ℕ). Grows n c.args.out.now c.release_all.new.out)
    (counts_told c.self.inside.list c.self.inside.engine c.args.self.now.runs c.self.invariant.together (ap (λ (t : TableState). t.runs) c.self.view_is)) c.release_all.ensures.grows

pub returns-clause-places : goal.returns-clause-places
returns-clause-places c =
    omega (arith, c.release_all.ensures.places, counts_told c.self.inside.list c.self.inside.engine c.args.self.now.runs c.self.invariant.together (ap (λ (t : TableState). t.runs) c.self.view_is))

pub returns-clause-none : goal.returns-clause-none
returns-clause-none c =
    ap (λ (z : List (List Packet)). record { runs = z; limit = 0; received = 0; above = 0; segs = c.self.inside.segs })
    (no_runs c.release_all.new.self c.clear.new.self c.clear.ensures.ready.none)
    ∙ ap (λ (t : TableState). no_table t.segs) c.self.view_is
