use Rattle.std.proofs.Common.{◌≡◌, ◌+◌, None, ◌∷◌, [], List, map, refl, sym, subst, arith}
use Rattle.std.proofs.lemmas.List.{length-map}
use Rattle.frame_layout.specs.Key.{key_of}
use Rattle.pcap_io.specs.Capture.{Packet}
use Rattle.frame_runs.specs.declared.engine.Engine.{Engine}
use Rattle.frame_runs.specs.Flows.{place_of}
use Rattle.frame_runs.specs.Index.{IsShut}
use Rattle.frame_runs.specs.Engine.{Knows}
use Rattle.frame_runs.proofs.Merging.{opens_alone, alone_shut, room_less}
use Rattle.frame_runs.proofs.engine.Engine.stand_alone.Goals as goal

pub returns : goal.returns
returns g c =
    let a : Engine = c.args.self.now in
    let ps : List Packet = map g.F.Frame.packet c.args.packets.now in
    let x : Packet = g.F.Frame.packet c.args.slot.now in
    let b : Engine = record { runs = c.push_reserved.new.self; next = a.next; flows = a.flows; last = None } in
    record {
      takes = λ limits. opens_alone limits ps c.args.i a b c.alone.result c.requires.runs c.push_reserved.ensures.items refl
          (omega (arith, c.requires.here.0, length-map c.args.packets.now g.F.Frame.packet))
          c.alone.ensures.indices.0 c.alone.ensures.indices.1 c.alone.ensures.indices.2
          (subst (λ z. Knows c.alone.result z []) (sym c.requires.here.1) (c.alone.ensures.knows x c.requires.alone))
          (λ n h. (omega (arith, h.0, c.push_reserved.ensures.len, c.push_reserved.ensures.capacity), room_less a.flows n (n + 1) (omega arith) h.1))
          (subst (λ (z : Packet). place_of ps a.flows (key_of z.frame) ≡ None) (sym c.requires.here.1) c.requires.none)
          (subst (λ (z : Packet). IsShut (z ∷ [])) (sym c.requires.here.1) (alone_shut x c.requires.alone))
          refl refl;
    }
