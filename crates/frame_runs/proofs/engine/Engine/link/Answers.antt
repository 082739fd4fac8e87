use Rattle.std.proofs.Common.{◌≡◌, List, map, refl, arith, ℕ, ◌<◌, ◌++◌, ◌∷◌, [], subst, sym}
use Rattle.std.proofs.lemmas.List.{length-map}
use Rattle.std.specs.Vec.{with_item}
use Rattle.pcap_io.specs.Capture.{Packet}
use Rattle.frame_runs.specs.declared.run.Run.{Run}
use Rattle.frame_runs.specs.declared.engine.Engine.{Engine}
use Rattle.frame_runs.specs.Chains.{packet_at, behind}
use Rattle.frame_runs.proofs.Merging.{slot_at, first_below, last_below, knows_linked, grown, known_at, run_is, all_at}
use Rattle.offload_model.specs.Mergeable.{IsMergeable}
use Rattle.frame_runs.proofs.engine.Engine.link.Goals as goal

pub index_mut-requires : goal.index_mut-requires
index_mut-requires g c =
    let a : Engine = c.args.self.now in
    let ps : List Packet = map g.F.Frame.packet c.args.packets.now in
    omega (arith, last_below ps c.args.i c.args.place a c.index_mut-run.result.now c.requires.runs.each c.requires.inside c.index_mut-run.ensures.value c.requires.runs.linked, a.next.ok.0)

pub returns : goal.returns
returns g c =
    let a : Engine = c.args.self.now in
    let old : Run = c.index_mut-run.result.now in
    let new : Run = c.add.new.self in
    let ps : List Packet = map g.F.Frame.packet c.args.packets.now in
    let first = c.index-packets-run.result in
    let b : Engine = record { runs = with_item a.runs c.args.place new; next = with_item a.next old.last c.args.i; flows = a.flows; last = a.last } in
    let below = first_below ps c.args.i c.args.place a old c.requires.runs.each c.requires.inside c.index_mut-run.ensures.value in
    let at_first : packet_at ps old.first ≡ g.F.Frame.packet first = slot_at g.F.Frame.packet c.args.packets.now old.first first (omega (arith, below, length-map c.args.packets.now g.F.Frame.packet)) c.index-packets-run.is in
    record {
      grows = grown ps c.args.i c.args.place a b old new c.requires.runs c.requires.inside c.index_mut-run.ensures.value refl refl refl
          (omega (arith, c.requires.here.0, length-map c.args.packets.now g.F.Frame.packet)) c.add.ensures.indices.0 c.add.ensures.indices.1 c.add.ensures.indices.2
          (knows_linked ps c.args.i c.args.place a old c.requires.runs.each c.requires.inside c.index_mut-run.ensures.value (g.F.Frame.packet first) at_first new
          (g.F.Frame.packet c.args.slot.now) c.requires.here.1 c.add.ensures.knows c.requires.mergeable)
          (refl, refl);
    }

pub bounds-packets-run : goal.bounds-packets-run
bounds-packets-run g c =
    subst (λ (n : ℕ). c.index_mut-run.result.now.first < n) (length-map c.args.packets.now g.F.Frame.packet)
    (first_below (map g.F.Frame.packet c.args.packets.now) c.args.i c.args.place c.args.self.now c.index_mut-run.result.now c.requires.runs.each c.requires.inside c.index_mut-run.ensures.value)

pub add-requires-clause-takes : goal.add-requires-clause-takes
add-requires-clause-takes g c =
    let a : Engine = c.args.self.now in
    let old : Run = c.index_mut-run.result.now in
    let ps : List Packet = map g.F.Frame.packet c.args.packets.now in
    let first = c.index-packets-run.result in
    let below = first_below ps c.args.i c.args.place a old c.requires.runs.each c.requires.inside c.index_mut-run.ensures.value in
    let at_first : packet_at ps old.first ≡ g.F.Frame.packet first = slot_at g.F.Frame.packet c.args.packets.now old.first first
    (subst (λ (n : ℕ). old.first < n) (length-map c.args.packets.now g.F.Frame.packet) below) c.index-packets-run.is in (
      map (packet_at ps) (behind a.next.items old),
      (
        known_at ps c.args.i c.args.place a old c.requires.runs.each c.requires.inside c.index_mut-run.ensures.value (g.F.Frame.packet first) at_first,
        subst (λ (z : List Packet). IsMergeable (z ++ g.F.Frame.packet c.args.slot.now ∷ []))
            (run_is ps c.args.i c.args.place a old c.requires.runs.each c.requires.inside c.index_mut-run.ensures.value (g.F.Frame.packet first) at_first) c.requires.mergeable,
      ),
    )

pub add-requires-clause-slot : goal.add-requires-clause-slot
add-requires-clause-slot g c =
    subst g.F.Frame.is_held (sym c.index-packets-run.is)
    (all_at g.F.Frame.is_held c.args.packets.now c.index_mut-run.result.now.first c.index-packets-run.result c.requires.slots
    (subst (λ (n : ℕ). c.index_mut-run.result.now.first < n) (length-map c.args.packets.now g.F.Frame.packet)
    (first_below (map g.F.Frame.packet c.args.packets.now) c.args.i c.args.place c.args.self.now c.index_mut-run.result.now c.requires.runs.each c.requires.inside c.index_mut-run.ensures.value)))
