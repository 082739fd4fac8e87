use Rattle.std.proofs.Common.{ℕ, ◌+◌, Option, List, map, refl, sym, subst, arith}
use Rattle.frame_layout.specs.Key.{key_of}
use Rattle.pcap_io.specs.Capture.{Packet}
use Rattle.frame_runs.specs.declared.engine.Engine.{Engine}
use Rattle.frame_runs.specs.declared.flows.Flows.{Flows}
use Rattle.frame_runs.specs.Flows.{AreFlows, IsOwn}
use Rattle.frame_runs.proofs.Merging.{own_by, room_less, taken_by}
use Rattle.frame_runs.proofs.engine.Engine.extend.Goals as goal

pub returns : goal.returns
returns g c =
    let a : Engine = c.args.self.now in
    let ps : List Packet = map g.F.Frame.packet c.args.packets.now in
    let key : Option (List ℕ) = key_of (g.F.Frame.packet c.args.slot.now).frame in
    let flows : AreFlows ps c.link-is_open.new.self.flows = subst (AreFlows ps) (sym c.link-is_open.ensures.grows.flows) c.requires.runs.flows in
    let own : IsOwn ps c.link-is_open.new.self.flows key c.args.place
    = subst (λ (z : Flows). IsOwn ps z key c.args.place) (sym c.link-is_open.ensures.grows.flows) (own_by ps a key c.args.place c.requires.runs.index c.requires.found) in
    record {
      takes = λ limits m. taken_by limits ps c.args.i c.args.place c.link-is_open.result a c.link-is_open.new.self c.settle.new.flows c.requires.runs
          c.requires.inside
          c.link-is_open.ensures.grows (g.F.Frame.packet c.args.slot.now) c.requires.here.1 key refl c.requires.found m
          c.open_at-self.result c.open_at-self.ensures.place
          (c.settle.ensures.flows ps flows own) (c.settle.ensures.puts ps flows own)
          (λ n h. c.settle.ensures.room n (room_less c.link-is_open.new.self.flows n (n + 1) (omega arith) h));
    }
