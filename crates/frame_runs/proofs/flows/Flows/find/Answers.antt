use Rattle.std.proofs.Common.{◌≡◌, ◌-◌, ℕ, Option, List, map, sym, ap, ◌∙◌}
use Rattle.slab.specs.Slab.{get}
use Rattle.frame_layout.specs.Key.{key_of}
use Rattle.frame_runs.specs.Flows.{hash_of, place_at}
use Rattle.frame_runs.proofs.Flowing.{none_at, by_key}
use Rattle.frame_runs.proofs.flows.Flows.find.Goals as goal

pub returns-then-at-eq0 : goal.returns-then-at-eq0
returns-then-at-eq0 g c =
    let key : Option (List ℕ) = key_of (g.F.Frame.packet c.args.slot.now).frame in
    record {
      place = sym (none_at (map g.F.Frame.packet c.args.packets.now) c.args.self.now key c.requires.flows
          (ap (place_at c.args.self.now) (sym c.requires.hash) ∙ sym c.at_place-at.ensures.place ∙ c.if-at-eq0.true));
    }

pub returns-in-None : goal.returns-in-None
returns-in-None g c =
    let key : Option (List ℕ) = key_of (g.F.Frame.packet c.args.slot.now).frame in
    let here : place_at c.args.self.now (hash_of key) ≡ c.at_place-at.result = ap (place_at c.args.self.now) (sym c.requires.hash) ∙ sym c.at_place-at.ensures.place in
    record {
      place = by_key (map g.F.Frame.packet c.args.packets.now) c.args.self.now key c.requires.flows
          (λ h there is. c.in-None.ensures.none h (ap (λ z. get c.args.self.now.groups (z - 1)) (sym here) ∙ there) is)
          c.run_by_key.result c.run_by_key.ensures.some c.run_by_key.ensures.none;
    }
