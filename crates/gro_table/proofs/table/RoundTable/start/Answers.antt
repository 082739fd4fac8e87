use Rattle.std.proofs.Common.{ap, ◌∙◌}
use Rattle.gro_table.specs.Table.{TableState}
use Rattle.gro_table.proofs.Lining.{no_slots, no_spares}
use Rattle.gro_table.proofs.Tables.{table_none, slots_none}
use Rattle.gro_table.proofs.table.RoundTable.start.Goals as goal

pub invariant_of-self : goal.invariant_of-self
invariant_of-self c =
    let none = ap (λ (t : TableState). t.runs) c.self.view_is ∙ c.requires.none in
    let l = c.self.inside.list in
    let t = c.self.invariant.together in
    table_none l c.start.new.self 0 (no_slots l c.self.inside.engine t none) (no_spares l c.self.inside.engine t none) c.start.ensures.none (slots_none l)

pub invariant_of-self-in_err-reserve : goal.invariant_of-self-in_err-reserve
invariant_of-self-in_err-reserve c =
    let none = ap (λ (t : TableState). t.runs) c.self.view_is ∙ c.requires.none in
    let l = c.self.inside.list in
    let t = c.self.invariant.together in
    let s = c.reserve.ensures.same in
    table_none c.reserve.new.self c.start.new.self 0 (s.0 ∙ no_slots l c.self.inside.engine t none) (s.1 ∙ no_spares l c.self.inside.engine t none) c.start.ensures.none
    (slots_none c.reserve.new.self)

pub invariant_of-self-2 : goal.invariant_of-self-2
invariant_of-self-2 c =
    let none = ap (λ (t : TableState). t.runs) c.self.view_is ∙ c.requires.none in
    let l = c.self.inside.list in
    let t = c.self.invariant.together in
    let s = c.reserve.ensures.same in
    table_none c.reserve.new.self c.start.new.self c.args.limit (s.0 ∙ no_slots l c.self.inside.engine t none) (s.1 ∙ no_spares l c.self.inside.engine t none)
    c.in_ok-start.ensures.ready c.in_ok-reserve.ensures.room
