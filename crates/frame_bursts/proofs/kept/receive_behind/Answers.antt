use Rattle.std.proofs.Common.{◌≡◌, ℕ, ◌+◌, ◌-◌, List, length, map, subst, arith, ◌∙◌}
use Rattle.std.proofs.lemmas.List.{length-map}
use Rattle.pcap_io.specs.Capture.{Packet}
use Rattle.frame_runs.specs.Engine.{HasPlaces, HasReceived}
use Rattle.frame_runs.proofs.Merging.{room_less, received_one}
use Rattle.frame_bursts.proofs.kept.receive_behind.Goals as goal

pub receive-requires-clause-runs : goal.receive-requires-clause-runs
receive-requires-clause-runs g c = c.loop-i.invariant.0.are

pub receive-requires-clause-places : goal.receive-requires-clause-places
receive-requires-clause-places g c =
    let left = length c.args.frames.now - c.loop-i.i in
    let p : HasPlaces c.loop-i.engine (left + 0) = c.loop-i.invariant.1.0 0
    (subst (HasPlaces c.args.engine.now) (let e : length c.args.frames.now - c.args.from
    ≡ length c.args.frames.now - c.args.from + 0 = omega arith in e) c.requires.places) in
    (omega (arith, p.0, c.loop-i-test.true), room_less c.loop-i.engine.flows 1 (left + 0) (omega (arith, c.loop-i-test.true)) p.1)

pub loop-i-preserved : goal.loop-i-preserved
loop-i-preserved g c =
    let ps : List Packet = map g.F.Frame.packet c.args.frames.now in (
      received_one c.args.limits ps c.loop-i.i c.loop-i.engine c.receive.new.self c.loop-i.invariant.0
          c.receive.ensures.takes c.requires.rising (omega (arith, c.loop-i-test.true, length-map c.args.frames.now g.F.Frame.packet)),
      (
        λ n p. c.receive.ensures.takes.places (length c.args.frames.now - (c.loop-i.i + 1) + n)
            (subst (HasPlaces c.loop-i.engine) (let s : length c.args.frames.now - c.loop-i.i + n
            ≡ (length c.args.frames.now - (c.loop-i.i + 1) + n) + 1 = omega (arith, c.loop-i-test.true) in s)
            (c.loop-i.invariant.1.0 n p)),
        c.receive.ensures.takes.linked ∙ c.loop-i.invariant.1.1,
      ),
    )

pub returns-clause-received : goal.returns-clause-received
returns-clause-received g c =
    subst (λ (z : ℕ). HasReceived c.args.limits (map g.F.Frame.packet c.args.frames.now) z c.loop-i.engine)
    (let e : c.loop-i.i ≡ length c.args.frames.now = omega (arith, c.loop-i.auto.i-end, c.requires.inside) in e)
    c.loop-i.invariant.0

pub returns-clause-places : goal.returns-clause-places
returns-clause-places g c = λ n p.
    subst (HasPlaces c.loop-i.engine)
    (let e : length c.args.frames.now - c.loop-i.i + n ≡ n = omega (arith, c.loop-i-test.false) in e)
    (c.loop-i.invariant.1.0 n p)
