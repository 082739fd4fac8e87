use Rattle.std.proofs.Common.{◌+◌, ℕ, Option, List, map, refl, sym, subst, arith}
use Rattle.frame_layout.specs.Key.{key_of}
use Rattle.pcap_io.specs.Capture.{Packet}
use Rattle.frame_runs.specs.declared.engine.Engine.{Engine}
use Rattle.frame_runs.specs.declared.flows.Flows.{Flows}
use Rattle.frame_runs.specs.Flows.{AreFlows, IsOwn}
use Rattle.frame_runs.proofs.Merging.{found_inside, own_by, room_less, taken_by}
use Rattle.frame_runs.proofs.engine.Engine.grow.Goals as goal

pub link-is_open-requires-clause-inside : goal.link-is_open-requires-clause-inside
link-is_open-requires-clause-inside g c =
    found_inside (map g.F.Frame.packet c.args.packets.now) c.args.self.now _ c.args.found c.requires.runs.index c.requires.place

pub returns : goal.returns
returns g c =
    let a : Engine = c.args.self.now in
    let b : Engine = c.link-is_open.new.self in
    let ps : List Packet = map g.F.Frame.packet c.args.packets.now in
    let x : Packet = g.F.Frame.packet c.args.slot.now in
    let key : Option (List ℕ) = key_of x.frame in
    let flows : AreFlows ps b.flows = subst (AreFlows ps) (sym c.link-is_open.ensures.grows.flows) c.requires.runs.flows in
    let own : IsOwn ps b.flows key c.args.found
    = subst (λ (z : Flows). IsOwn ps z key c.args.found) (sym c.link-is_open.ensures.grows.flows) (own_by ps a key c.args.found c.requires.runs.index c.requires.place) in
    record {
      takes = λ limits m. taken_by limits ps c.args.i c.args.found c.link-is_open.result a b c.keep.new.self c.requires.runs
          (found_inside ps a key c.args.found c.requires.runs.index c.requires.place)
          c.link-is_open.ensures.grows x c.requires.here.1 key refl c.requires.place m
          c.open_at-self.result c.open_at-self.ensures.place (c.keep.ensures.flows ps flows own) (c.keep.ensures.puts ps flows own)
          (λ n h. c.keep.ensures.room n (room_less b.flows n (n + 1) (omega arith) h));
    }
