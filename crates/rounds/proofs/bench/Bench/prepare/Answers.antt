use Rattle.std.proofs.Common.{ap, arith, map, refl, subst, ◌-◌, ◌∙◌}
use Rattle.block_pool.specs.PoolState.{home}
use Rattle.gro.specs.Slots.{packet_of, counts_of}
use Rattle.lanes.proofs.Idle.{idle_weighed}
use Rattle.rounds.specs.Prepared.{IsPrepared}
use Rattle.rounds.specs.RoundsState.{BenchState, RoundState}
use Rattle.rounds.specs.Weights.{weights_of}
use Rattle.rounds.specs.declared.lane_work.Prepared.{Prepared}
use Rattle.rounds.proofs.Keeping.{is_prepared, at_count, out_idle}
use Rattle.rounds.proofs.bench.Bench.prepare.Goals as goal

pub share_if-requires-clause-laid : goal.share_if-requires-clause-laid
share_if-requires-clause-laid g c = c.round.invariant.0.laid

pub share_if-requires-clause-read : goal.share_if-requires-clause-read
share_if-requires-clause-read g c = c.round.invariant.0.read

pub invariant_of-result : goal.invariant_of-result
invariant_of-result g c =
    let r = c.round.inside in
    let v = c.round.invariant in
    let s = c.is_shared-shared.result in
    let k = c.share_if.new in
    let n = r.blocks - home r.spares in (
      omega (arith, v.0.count),
      out_idle s n k.packets.items c.take_lanes.result k.clones.items c.take_lanes.ensures.idle
          (at_count s (counts_of r.packets.items) n k.packets.items k.clones.items (omega (arith, v.0.count)) c.in-Err.ensures.prepared.round),
    )

pub returns-in-Ok-clause-prepared : goal.returns-in-Ok-clause-prepared
returns-in-Ok-clause-prepared g c =
    let r = c.round.inside in
    let v = c.round.invariant in
    let e = c.in-Ok.ensures in
    let s = c.is_shared-shared in
    let k : Prepared = record { packets = c.share_if.new.packets; clones = c.share_if.new.clones; spares = r.spares; shared = s.result; blocks = r.blocks } in
    let b = c.args.self.now in
    subst (λ (z : RoundState). IsPrepared b.keep b.plan.taps (map packet_of z.packets) z.blocks k) c.round.view_is
    (is_prepared b.keep b.plan.taps r.blocks r.packets.items k refl v.0.count v.0.captured v.1
    (omega (arith, c.requires.few, c.self.invariant.0, ap (λ (b : BenchState). b.blocks) c.self.view_is, ap (λ (r : RoundState). r.blocks) c.round.view_is))
    s.ensures.only e.prepared
    (λ keep. e.all (ap (λ (b : BenchState). b.keep) c.self.view_is ∙ keep)))

pub returns-in-Err-clause-named_back : goal.returns-in-Err-clause-named_back
returns-in-Err-clause-named_back g c = λ h.
    let lanes = c.take_lanes in
    let view = ap (λ (z : RoundState). weights_of z h) c.round.view_is in
    omega (arith, view, c.in-Err.ensures.prepared.named h, idle_weighed h lanes.result.queues.items lanes.ensures.idle.0)
