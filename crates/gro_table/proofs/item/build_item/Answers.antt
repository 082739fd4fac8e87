use Rattle.std.proofs.Common.{◌≡◌, [], ◌∷◌, List, map, ap, sym, subst, ◌∙◌, arith}
use Rattle.std.proofs.lemmas.List.{nil_from_length}
use Rattle.offload_model.specs.Merged.{merged_of}
use Rattle.frags.specs.OutcomesState.{OutcomesState as Outcomes}
use Rattle.gro_table.specs.declared.places.Places.TheVariants.{Alone}
use Rattle.merge_rule.proofs.Knows.{run_some}
use Rattle.gro_table.specs.declared.packet.Packet.{Packet as Held}
use Rattle.frame_runs.specs.declared.run.Run.{Run}
use Rattle.frame_runs.specs.Chains.{behind}
use Rattle.gro_table.specs.Held.{packet_of}
use Rattle.gro_table.specs.Items.{IsItemOf}
use Rattle.gro_table.specs.Places.{IsPlaceOf}
use Rattle.gro_table.specs.Waiting.{chosen, held_at}
use Rattle.gro_table.proofs.Emptying.{found_below, IsFirstTaken, first_taken}
use Rattle.gro_table.proofs.item.build_item.Goals.{After-take_at-first}
use Rattle.gro_table.proofs.item.build_item.Goals as goal

taken : (c : After-take_at-first) → IsFirstTaken c.args.run.now c.args.next.now c.args.waiting.now.items c.take_at-first.new.waiting.items c.take_at-first.result
taken c =
    first_taken c.args.run.now c.args.next.now c.args.waiting.now.items c.take_at-first.new.waiting.items c.take_at-first.result
    c.requires.there c.requires.distinct c.requires.run c.take_at-first.ensures.packet c.take_at-first.ensures.left

places : (c : After-take_at-first) → IsPlaceOf (c.take_at-first.result ∷ chosen c.take_at-first.new.waiting.items (behind c.args.next.now c.args.run.now)) c.args.places
places c = subst (λ (z : List Held). IsPlaceOf z c.args.places) (taken c).split c.requires.places

-- the packet that is alone
alone : (c : After-take_at-first) (outcomes : Outcomes) → c.args.places ≡ Alone outcomes → held_at c.args.next.now c.args.waiting.now.items c.args.run.now ≡ c.take_at-first.result ∷ []
alone c outcomes is =
    let rest = chosen c.take_at-first.new.waiting.items (behind c.args.next.now c.args.run.now) in
    let one = (subst (IsPlaceOf (c.take_at-first.result ∷ rest)) is (places c)).0 in
    (taken c).split ∙ ap (λ (z : List Held). c.take_at-first.result ∷ z) (nil_from_length rest (omega (arith, one)))

pub merged-requires-clause-first : goal.merged-requires-clause-first
merged-requires-clause-first c = omega (arith, found_below c.args.waiting.now.items c.args.run.now.first c.requires.there.0, c.requires.linked)

pub merged-requires-clause-there : goal.merged-requires-clause-there
merged-requires-clause-there c = (taken (goal.at.merged-requires-clause-there c).After-take_at-first).there

pub merged-requires-clause-run : goal.merged-requires-clause-run
merged-requires-clause-run c =
    let r : Run = c.args.run.now in
    run_some r.layout r.payload r.flags r.progress (packet_of c.take_at-first.result)
    (packet_of c.take_at-first.result ∷ map packet_of (chosen c.take_at-first.new.waiting.items (behind c.args.next.now r))) c.in-Some.layout
    (taken (goal.at.merged-requires-clause-run c).After-take_at-first).run_split.0.is c.in-Some.is

pub merged-requires-clause-more : goal.merged-requires-clause-more
merged-requires-clause-more c = (taken (goal.at.merged-requires-clause-more c).After-take_at-first).more

pub merged-requires-clause-held : goal.merged-requires-clause-held
merged-requires-clause-held c = (taken (goal.at.merged-requires-clause-held c).After-take_at-first).run_split.1

pub merged-requires-clause-reserved : goal.merged-requires-clause-reserved
merged-requires-clause-reserved c =
    (subst (IsPlaceOf (c.take_at-first.result ∷ chosen c.take_at-first.new.waiting.items (behind c.args.next.now c.args.run.now))) c.in-Several.is
    (places (goal.at.merged-requires-clause-reserved c).After-take_at-first)).1.1

pub merged-requires-clause-room : goal.merged-requires-clause-room
merged-requires-clause-room c =
    (subst (IsPlaceOf (c.take_at-first.result ∷ chosen c.take_at-first.new.waiting.items (behind c.args.next.now c.args.run.now))) c.in-Several.is
    (places (goal.at.merged-requires-clause-room c).After-take_at-first)).1.2

pub returns-in-Alone-clause-empties : goal.returns-in-Alone-clause-empties
returns-in-Alone-clause-empties c =
    let p = (goal.at.returns-in-Alone-clause-empties c).After-take_at-first in
    let one = (subst (IsPlaceOf (c.take_at-first.result ∷ chosen c.take_at-first.new.waiting.items (behind c.args.next.now c.args.run.now))) c.in-Alone.is (places p)).0 in
    (taken p).alone (omega (arith, one))

pub returns-in-Some-clause-item : goal.returns-in-Some-clause-item
returns-in-Some-clause-item c =
    c.merged.ensures.item
    ∙ ap (λ (z : List Held). merged_of (map packet_of z)) (sym (taken (goal.at.returns-in-Some-clause-item c).After-take_at-first).split)

pub returns-in-Some-clause-holds : goal.returns-in-Some-clause-holds
returns-in-Some-clause-holds c =
    subst (λ (z : List Held). IsItemOf z c.merged.result) (sym (taken (goal.at.returns-in-Some-clause-holds c).After-take_at-first).split) c.merged.ensures.holds

pub returns-in-Some-clause-empties : goal.returns-in-Some-clause-empties
returns-in-Some-clause-empties c = (taken (goal.at.returns-in-Some-clause-empties c).After-take_at-first).empties c.merged.new.waiting.items c.merged.ensures.empties

pub returns-in-Alone-clause-item : goal.returns-in-Alone-clause-item
returns-in-Alone-clause-item c =
    c.single.ensures.item
    ∙ ap (λ (z : List Held). merged_of (map packet_of z)) (sym (alone (goal.at.returns-in-Alone-clause-item c).After-take_at-first c.in-Alone.outcomes c.in-Alone.is))

pub returns-in-Alone-clause-holds : goal.returns-in-Alone-clause-holds
returns-in-Alone-clause-holds c =
    subst (λ (z : List Held). IsItemOf z c.single.result) (sym (alone (goal.at.returns-in-Alone-clause-holds c).After-take_at-first c.in-Alone.outcomes c.in-Alone.is)) c.single.ensures.holds
