use Rattle.std.proofs.Common.{◌-◌, ◌<◌, ◌≤◌, ℕ, ◌+◌, List, length, map, subst, refl, sym, ap, ◌∙◌, arith}
use Rattle.gro_table.specs.Held.{count_of}
use Rattle.gro.specs.declared.slot.Slot.{Slot}
use Rattle.gro.specs.Slots.{packet_of, AreHeld}
use Rattle.offload_model.specs.Mergeable.{up_to}
use Rattle.offload_model.specs.declared.limits.Limits.{Limits}
use Rattle.frame_runs.specs.Engine.{AreRuns, Takes}
use Rattle.gro_table.specs.Waiting.{held_in}
use Rattle.gro_table.specs.Table.{TableState, counts_in}
use Rattle.gro_table.proofs.Tables.{counts_totals, slots_less, runs_before, slots_before, one_place, inside_now, sums_now, table_more, received_more}
use Rattle.gro_table.proofs.table.RoundTable.receive.Goals as goal

pub push-requires : goal.push-requires
push-requires c = record {
  room = let i = c.self.inside in
      let fits : i.received < i.limit = omega (arith, c.requires.room, ap (λ (t : TableState). t.received) c.self.view_is, ap (λ (t : TableState). t.limit) c.self.view_is) in
      slots_less i.list 1 (i.limit - i.received) (omega (arith, fits)) c.self.invariant.slots;
}

pub receive-requires-clause-runs : goal.receive-requires-clause-runs
receive-requires-clause-runs c =
    let i = c.self.inside in
    let rising : i.above ≤ c.args.packet.number = omega (arith, c.requires.rising, ap (λ (t : TableState). t.above) c.self.view_is) in
    let fits : i.received < i.limit = omega (arith, c.requires.room, ap (λ (t : TableState). t.received) c.self.view_is, ap (λ (t : TableState). t.limit) c.self.view_is) in
    subst (λ (z : List Slot). AreRuns (map packet_of z) i.received i.engine) (sym c.deref.ensures.value)
    (runs_before i.segs i.list c.push.new.self i.engine c.args.packet i.limit i.received i.above i.count c.self.invariant
    c.push.ensures.slots c.push.ensures.spares c.weigh-count.ensures.held rising fits)

pub receive-requires-clause-places : goal.receive-requires-clause-places
receive-requires-clause-places c =
    let i = c.self.inside in
    let rising : i.above ≤ c.args.packet.number = omega (arith, c.requires.rising, ap (λ (t : TableState). t.above) c.self.view_is) in
    let fits : i.received < i.limit = omega (arith, c.requires.room, ap (λ (t : TableState). t.received) c.self.view_is, ap (λ (t : TableState). t.limit) c.self.view_is) in
    one_place i.segs i.list c.push.new.self i.engine c.args.packet i.limit i.received i.above i.count c.self.invariant
    c.push.ensures.slots c.push.ensures.spares c.weigh-count.ensures.held rising fits

pub receive-requires-clause-slots : goal.receive-requires-clause-slots
receive-requires-clause-slots c =
    let i = c.self.inside in
    let rising : i.above ≤ c.args.packet.number = omega (arith, c.requires.rising, ap (λ (t : TableState). t.above) c.self.view_is) in
    let fits : i.received < i.limit = omega (arith, c.requires.room, ap (λ (t : TableState). t.received) c.self.view_is, ap (λ (t : TableState). t.limit) c.self.view_is) in
    subst AreHeld (sym c.deref.ensures.value)
    (slots_before i.segs i.list c.push.new.self i.engine c.args.packet i.limit i.received i.above i.count c.self.invariant
    c.push.ensures.slots c.push.ensures.spares c.weigh-count.ensures.held rising fits)

pub receive-requires-clause-inside : goal.receive-requires-clause-inside
receive-requires-clause-inside c =
    let i = c.self.inside in
    let rising : i.above ≤ c.args.packet.number = omega (arith, c.requires.rising, ap (λ (t : TableState). t.above) c.self.view_is) in
    let fits : i.received < i.limit = omega (arith, c.requires.room, ap (λ (t : TableState). t.received) c.self.view_is, ap (λ (t : TableState). t.limit) c.self.view_is) in
    subst (λ (z : List Slot). i.received < length z) (sym c.deref.ensures.value)
    (inside_now i.segs i.list c.push.new.self i.engine c.args.packet i.limit i.received i.above i.count c.self.invariant
    c.push.ensures.slots c.push.ensures.spares c.weigh-count.ensures.held rising fits)

pub invariant_of-self : goal.invariant_of-self
invariant_of-self c =
    let i = c.self.inside in
    let rising : i.above ≤ c.args.packet.number = omega (arith, c.requires.rising, ap (λ (t : TableState). t.above) c.self.view_is) in
    let fits : i.received < i.limit = omega (arith, c.requires.room, ap (λ (t : TableState). t.received) c.self.view_is, ap (λ (t : TableState). t.limit) c.self.view_is) in
    table_more i.segs i.list c.push.new.self i.engine c.args.packet i.limit i.received i.above i.count c.self.invariant
    c.push.ensures.slots c.push.ensures.spares c.weigh-count.ensures.held rising fits c.receive.new.self
    (subst (λ (z : List Slot). Takes (up_to i.segs) (map packet_of z) i.received i.engine c.receive.new.self) c.deref.ensures.value
    (subst (λ (z : Limits). Takes z (map packet_of c.deref.result.now) i.received i.engine c.receive.new.self) c.up_to-limits.ensures.limits c.receive.ensures.takes))
    c.weigh-count.result c.weigh-count.ensures.count c.weigh-count.ensures.few c.push.ensures.room

pub returns-clause-received : goal.returns-clause-received
returns-clause-received c =
    let i = c.self.inside in
    let rising : i.above ≤ c.args.packet.number = omega (arith, c.requires.rising, ap (λ (t : TableState). t.above) c.self.view_is) in
    let fits : i.received < i.limit = omega (arith, c.requires.room, ap (λ (t : TableState). t.received) c.self.view_is, ap (λ (t : TableState). t.limit) c.self.view_is) in
    received_more i.segs i.list c.push.new.self i.engine c.args.packet i.limit i.received i.above i.count c.self.invariant
    c.push.ensures.slots c.push.ensures.spares c.weigh-count.ensures.held rising fits c.receive.new.self
    (subst (λ (z : List Slot). Takes (up_to i.segs) (map packet_of z) i.received i.engine c.receive.new.self) c.deref.ensures.value
    (subst (λ (z : Limits). Takes z (map packet_of c.deref.result.now) i.received i.engine c.receive.new.self) c.up_to-limits.ensures.limits c.receive.ensures.takes))
    c.args.self.now (record { runs = held_in c.push.new.self c.receive.new.self; limit = i.limit; received = i.received + 1; above = c.args.packet.number + 1; segs = i.segs })
    (sym (ap (λ (t : TableState). t.runs) c.self.view_is)) refl (sym (ap (λ (t : TableState). t.above) c.self.view_is)) refl
    (ap (λ (t : TableState). t.received + 1) c.self.view_is) (sym (ap (λ (t : TableState). t.segs) c.self.view_is)) refl

pub returns-clause-count : goal.returns-clause-count
returns-clause-count c =
    let i = c.self.inside in
    let rising : i.above ≤ c.args.packet.number = omega (arith, c.requires.rising, ap (λ (t : TableState). t.above) c.self.view_is) in
    let fits : i.received < i.limit = omega (arith, c.requires.room, ap (λ (t : TableState). t.received) c.self.view_is, ap (λ (t : TableState). t.limit) c.self.view_is) in
    counts_totals (held_in c.push.new.self c.receive.new.self)
    ∙ sums_now i.segs i.list c.push.new.self i.engine c.args.packet i.limit i.received i.above i.count c.self.invariant
    c.push.ensures.slots c.push.ensures.spares c.weigh-count.ensures.held rising fits c.receive.new.self
    (subst (λ (z : List Slot). Takes (up_to i.segs) (map packet_of z) i.received i.engine c.receive.new.self) c.deref.ensures.value
    (subst (λ (z : Limits). Takes z (map packet_of c.deref.result.now) i.received i.engine c.receive.new.self) c.up_to-limits.ensures.limits c.receive.ensures.takes)) count_of
    ∙ ap (λ (n : ℕ). n + count_of c.args.packet) (sym (counts_totals (held_in i.list i.engine)) ∙ ap (λ (t : TableState). counts_in t.runs) c.self.view_is)
