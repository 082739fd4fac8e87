use Rattle.std.proofs.Common.{◌≡◌, ◌+◌, ◌-◌, List, map, length, subst, arith}
use Rattle.std.proofs.lemmas.List.{length-map}
use Rattle.pcap_io.specs.Capture.{Packet}
use Rattle.frame_runs.specs.Engine.{HasPlaces, AreRuns}
use Rattle.frame_runs.proofs.Merging.{room_less, received_one, all_received, ready_received}
use Rattle.frame_runs.proofs.engine.Engine.merge.Goals as goal

pub receive-requires-clause-places : goal.receive-requires-clause-places
receive-requires-clause-places g c =
    (omega (arith, c.loop-i.invariant.1.0), room_less c.loop-i.self.flows 1 (length c.args.packets.now - c.loop-i.i) (omega arith) c.loop-i.invariant.1.1)

pub loop-i-preserved : goal.loop-i-preserved
loop-i-preserved g c =
    let ps : List Packet = map g.F.Frame.packet c.args.packets.now in (
      received_one c.args.limits ps c.loop-i.i c.loop-i.self c.receive.new.self c.loop-i.invariant.0 c.receive.ensures.takes c.requires.rising (omega (arith, length-map c.args.packets.now g.F.Frame.packet)),
      c.receive.ensures.takes.places (length c.args.packets.now - (c.loop-i.i + 1))
          (subst (HasPlaces c.loop-i.self) (let s : length c.args.packets.now - c.loop-i.i ≡ (length c.args.packets.now - (c.loop-i.i + 1)) + 1 = omega arith in s) c.loop-i.invariant.1),
    )

pub returns-clause-runs : goal.returns-clause-runs
returns-clause-runs g c =
    let ps : List Packet = map g.F.Frame.packet c.args.packets.now in
    all_received c.args.limits ps c.loop-i.i c.loop-i.self c.loop-i.invariant.0 (omega (arith, c.loop-i.auto.i-end, length-map c.args.packets.now g.F.Frame.packet)) c.requires.rising

pub returns-clause-are : goal.returns-clause-are
returns-clause-are g c =
    subst (λ z. AreRuns (map g.F.Frame.packet c.args.packets.now) z c.loop-i.self) (let e : c.loop-i.i ≡ length c.args.packets.now = omega (arith, c.loop-i.auto.i-end) in e) c.loop-i.invariant.0.are

pub loop-i-init : goal.loop-i-init
loop-i-init g c =
    let n = length c.args.packets.now in (
      ready_received c.args.limits (map g.F.Frame.packet c.args.packets.now) n c.args.self.now c.requires.ready (omega (arith, length-map c.args.packets.now g.F.Frame.packet)),
      subst (HasPlaces c.args.self.now) (let e : n ≡ n - 0 = omega arith in e) c.requires.ready.places,
    )
