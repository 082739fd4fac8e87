use Rattle.std.proofs.Common.{◌≡◌, ◌+◌, ◌≤◌, true, false, Some, None, List, length, set, refl, sym, ap, subst, arith, ◌∙◌}
use Rattle.std.specs.HashMap.{spare}
use Rattle.pcap_io.specs.Capture.{Packet}
use Rattle.frame_layout.specs.Key.{key_of}
use Rattle.frame_runs.specs.declared.flows.Group.{Group}
use Rattle.frame_runs.specs.declared.flows.Flows.{Flows}
use Rattle.frame_runs.specs.Flows.{hash_of, key_at, place_of, AreFlows, IsGroup, IsHashed, IsTaken, Puts}
use Rattle.frame_runs.proofs.Flowing.{flows_mapped, flows_placed, puts_opened}
use Rattle.frame_runs.proofs.flows.Flows.enter.Given as given
use Rattle.frame_runs.proofs.flows.Flows.enter.Goals.{After-insert_reserved-at}
use Rattle.frame_runs.proofs.flows.Flows.enter.Goals as goal

abbrev before : (g : given.Over) (c : After-insert_reserved-at g) → Flows
before g c = record { groups = c.self.inside.groups; entries = c.self.inside.keys.entries; room = spare c.self.inside.keys; places = c.self.inside.places.items }

-- with the group in the slab, what it finds is told by that alone
abbrev after : (g : given.Over) (c : After-insert_reserved-at g) → Flows
after g c = record (before g c) { groups = c.insert_reserved-at.new.self }

own_key : (ps : List Packet) (p : Packet) (group : Group) → IsGroup ps group p → key_at ps group ≡ key_of p.frame
own_key ps p group is = ap (λ (z : Packet). key_of z.frame) is.1

own_hash : (ps : List Packet) (p : Packet) (group : Group) → IsGroup ps group p → IsHashed ps group.packet group.hash
own_hash ps p group is = (is.0, is.2 ∙ ap hash_of (sym (own_key ps p group is)))

pub returns-then-is_taken-clause-flows : goal.returns-then-is_taken-clause-flows
returns-then-is_taken-clause-flows g c = λ ps flows is none.
    let at = (goal.at.returns-then-is_taken-clause-flows g c).After-insert_reserved-at in
    let f : Flows = before g at in
    let p : Packet = g.F.Frame.packet c.args.slot.now in
    flows_mapped ps f _ (key_of p.frame) c.insert_reserved-at.result c.args.group (subst (AreFlows ps) (sym c.self.view_is) flows)
    (subst (λ (z : Flows). place_of ps z (key_of p.frame) ≡ None) (sym c.self.view_is) none)
    (own_key ps p c.args.group is) (own_hash ps p c.args.group is) c.insert_reserved-at.ensures.was_vacant
    c.insert_reserved-at.ensures.updates.changed c.insert_reserved-at.ensures.updates.others c.enter_key.ensures.entered.0 refl
    (subst (λ (z : Flows). IsTaken z c.args.group.hash) (sym c.self.view_is) (c.is_taken-is_taken.ensures.taken.0 c.if-is_taken.true))

pub returns-then-is_taken-clause-puts : goal.returns-then-is_taken-clause-puts
returns-then-is_taken-clause-puts g c = λ ps flows is none.
    let at = (goal.at.returns-then-is_taken-clause-puts g c).After-insert_reserved-at in
    let f : Flows = before g at in
    let p : Packet = g.F.Frame.packet c.args.slot.now in
    let h : Flows = after g at in
    subst (λ (z : Flows). Puts ps z (key_of p.frame) (Some c.args.group.run) h) c.self.view_is
    (puts_opened ps f h (key_of p.frame) c.insert_reserved-at.result c.args.group (subst (AreFlows ps) (sym c.self.view_is) flows)
    (subst (λ (z : Flows). place_of ps z (key_of p.frame) ≡ None) (sym c.self.view_is) none)
    (own_key ps p c.args.group is) (own_hash ps p c.args.group is) c.insert_reserved-at.ensures.was_vacant
    c.insert_reserved-at.ensures.updates.changed c.insert_reserved-at.ensures.updates.others)

pub returns-else-is_taken-clause-flows : goal.returns-else-is_taken-clause-flows
returns-else-is_taken-clause-flows g c = λ ps flows is none.
    let at = (goal.at.returns-else-is_taken-clause-flows g c).After-insert_reserved-at in
    let f : Flows = before g at in
    let p : Packet = g.F.Frame.packet c.args.slot.now in
    let long : 256 ≤ length c.self.inside.places.items = subst (λ (z : Flows). 256 ≤ length z.places) (sym c.self.view_is) (c.requires.room.places (omega arith)) in
    flows_placed ps f _ (key_of p.frame) c.insert_reserved-at.result c.args.group (subst (AreFlows ps) (sym c.self.view_is) flows)
    (subst (λ (z : Flows). place_of ps z (key_of p.frame) ≡ None) (sym c.self.view_is) none)
    (own_key ps p c.args.group is) (own_hash ps p c.args.group is) c.insert_reserved-at.ensures.was_vacant
    c.insert_reserved-at.ensures.updates.changed c.insert_reserved-at.ensures.updates.others (λ q. refl)
    (ap (λ z. set c.self.inside.places.items z (c.insert_reserved-at.result + 1)) c.bucket.ensures.bucket)
    (omega (arith, long, c.bucket.ensures.bucket, c.bucket.ensures.inside))
    (λ t. let u : false ≡ true = sym c.if-is_taken.false ∙ c.is_taken-is_taken.ensures.taken.1 (subst (λ (z : Flows). IsTaken z c.args.group.hash) c.self.view_is t) in cc)

pub returns-else-is_taken-clause-puts : goal.returns-else-is_taken-clause-puts
returns-else-is_taken-clause-puts g c = λ ps flows is none.
    let at = (goal.at.returns-else-is_taken-clause-puts g c).After-insert_reserved-at in
    let f : Flows = before g at in
    let p : Packet = g.F.Frame.packet c.args.slot.now in
    let h : Flows = after g at in
    subst (λ (z : Flows). Puts ps z (key_of p.frame) (Some c.args.group.run) h) c.self.view_is
    (puts_opened ps f h (key_of p.frame) c.insert_reserved-at.result c.args.group (subst (AreFlows ps) (sym c.self.view_is) flows)
    (subst (λ (z : Flows). place_of ps z (key_of p.frame) ≡ None) (sym c.self.view_is) none)
    (own_key ps p c.args.group is) (own_hash ps p c.args.group is) c.insert_reserved-at.ensures.was_vacant
    c.insert_reserved-at.ensures.updates.changed c.insert_reserved-at.ensures.updates.others)
