use Rattle.std.proofs.Common.{◌≡◌, ◌+◌, ◌<◌, ◌∷◌, [], ℕ, List, Option, length, map, drop, refl, ap, ◌∙◌, subst, sym, arith}
use Rattle.std.proofs.lemmas.List.{nil_from_length}
use Rattle.gro_table.specs.declared.packet.Packet.{Packet as Held}
use Rattle.frame_runs.specs.declared.run.Run.{Run}
use Rattle.offload_model.specs.Merged.{merged_of}
use Rattle.frame_runs.specs.Chains.{indices, AreDistinct}
use Rattle.gro_table.specs.Held.{packet_of}
use Rattle.gro_table.specs.Items.{IsItemOf}
use Rattle.gro_table.specs.Places.{ArePlacesOf}
use Rattle.gro_table.specs.Table.{AreItemsFrom}
use Rattle.gro_table.specs.Waiting.{held_at, AreThere, Empties, AreWaiting}
use Rattle.gro_table.proofs.Emptying.{first_there, first_distinct, waiting_more, held_stays}
use Rattle.gro_table.proofs.Placing.{run_first, items_more, items_end, no_places}
use Rattle.gro_table.proofs.item.build_all.Goals.{After-deref}
use Rattle.gro_table.proofs.item.build_all.Goals as goal

-- the runs that are left: this one, and those behind it
abbrev behind : After-deref → List Run
behind c = drop (c.loop-i.i + 1) c.args.engine.now.runs.items

within : (c : After-deref) → c.loop-i.i < length c.args.engine.now.runs.items
within c = omega (arith, c.loop-i-test.true, c.loop-i.invariant.end)

left : (c : After-deref) → drop c.loop-i.i c.args.engine.now.runs.items ≡ c.index.result.now ∷ behind c
left c = run_first c.args.engine.now.runs.items c.loop-i.i c.index.result.now (within c) c.index.ensures

-- whose packets wait
waits : (c : After-deref) → AreWaiting c.args.engine.now.next.items (c.index.result.now ∷ behind c) c.loop-i.waiting.items
waits c = subst (λ (z : List Run). AreWaiting c.args.engine.now.next.items z c.loop-i.waiting.items) (left c) c.loop-i.invariant.waiting

pub unreachable-requires : goal.unreachable-requires
unreachable-requires c =
    let none : c.loop-i.places.items ≡ [] = nil_from_length c.loop-i.places.items (omega (arith, c.in_default.ensures.cases.0, c.loop-i.places.ok)) in
    no_places (held_at c.args.engine.now.next.items c.loop-i.waiting.items) c.args.engine.now.runs.items c.loop-i.i (omega (arith, c.loop-i-test.true, c.loop-i.invariant.end))
    (subst (ArePlacesOf (map (held_at c.args.engine.now.next.items c.loop-i.waiting.items) (drop c.loop-i.i c.args.engine.now.runs.items))) none c.loop-i.invariant.places)

pub build_item-requires-clause-there : goal.build_item-requires-clause-there
build_item-requires-clause-there c =
    let p = (goal.at.build_item-requires-clause-there c).After-deref in
    subst (λ (z : List ℕ). AreThere c.loop-i.waiting.items (indices z c.index.result.now)) (sym c.deref.ensures.value)
    (first_there c.args.engine.now.next.items c.index.result.now (behind p) c.loop-i.waiting.items (waits p))

pub build_item-requires-clause-distinct : goal.build_item-requires-clause-distinct
build_item-requires-clause-distinct c =
    let p = (goal.at.build_item-requires-clause-distinct c).After-deref in
    subst (λ (z : List ℕ). AreDistinct (indices z c.index.result.now)) (sym c.deref.ensures.value)
    (first_distinct c.args.engine.now.next.items c.index.result.now (behind p) c.loop-i.waiting.items (waits p))

pub loop-i-preserved : goal.loop-i-preserved
loop-i-preserved c =
    let i = c.loop-i.invariant in
    let p = (goal.at.loop-i-preserved c).After-deref in
    let e = c.args.engine.now in
    let next : List ℕ = e.next.items in
    let r : Run = c.index.result.now in
    let rs : List Run = behind p in
    let w : List (Option Held) = c.loop-i.waiting.items in
    let w2 : List (Option Held) = c.build_item.new.waiting.items in
    let empties : Empties (indices next r) w w2 = subst (λ (z : List ℕ). Empties (indices z r) w w2) c.deref.ensures.value c.build_item.ensures.empties in
    let stays : map (held_at next w2) rs ≡ map (held_at next w) rs = held_stays next r rs w w2 (waits p) empties in
    let places : ArePlacesOf (held_at next w r ∷ map (held_at next w) rs) (c.in-Some.own ∷ c.pop_front.new.self.items)
    = subst (ArePlacesOf (held_at next w r ∷ map (held_at next w) rs)) c.in-Some.ensures.items
    (subst (λ (z : List Run). ArePlacesOf (map (held_at next w) z) c.loop-i.places.items) (left p) i.places) in
    record {
      end = i.end;
      within = omega (arith, within p);
      linked = omega (arith, i.linked, empties.size);
      waiting = waiting_more next r rs w w2 (waits p) empties;
      places = subst (λ (z : List (List Held)). ArePlacesOf z c.pop_front.new.self.items) (sym stays) places.1;
      room = omega (arith, i.room, c.push_reserved.ensures.len, c.push_reserved.ensures.capacity, within p);
      rest = λ is a. items_more (map (held_at next c.args.waiting.now.items) e.runs.items) (held_at next w r) (map (held_at next w) rs) c.loop-i.items.items
          c.push_reserved.new.self.items c.build_item.result c.push_reserved.ensures.items (
            (
              c.build_item.ensures.item ∙ ap (λ (z : List ℕ). merged_of (map packet_of (held_at z w r))) c.deref.ensures.value,
              subst (λ (z : List ℕ). IsItemOf (held_at z w r) c.build_item.result) c.deref.ensures.value c.build_item.ensures.holds,
            ),
            refl,
          )
          (λ js b. i.rest js (subst (λ (z : List Run). AreItemsFrom (map (held_at next w) z) js) (sym (left p)) b)) is
          (subst (λ (z : List (List Held)). AreItemsFrom z is) stays a);
    }

pub returns-clause-items : goal.returns-clause-items
returns-clause-items c =
    items_end (map (held_at c.args.engine.now.next.items c.args.waiting.now.items) c.args.engine.now.runs.items) (held_at c.args.engine.now.next.items c.loop-i.waiting.items)
    c.args.engine.now.runs.items c.loop-i.items.items c.loop-i.i (omega (arith, c.loop-i.invariant.end, c.loop-i.invariant.within, c.loop-i-test.false)) c.loop-i.invariant.rest
