use Rattle.std.proofs.Common.{ℕ, ◌+◌, arith, subst}
use Rattle.block_pool.specs.PoolState.{weighed}
use Rattle.gro.specs.Slots.{weighed_slots}
use Rattle.lanes.proofs.Idle.{idle_weighed}
use Rattle.rounds.specs.Benches.{Brings}
use Rattle.rounds.specs.RoundsState.{BenchState, RoundState}
use Rattle.rounds.specs.Weights.{weights_of}
use Rattle.rounds.proofs.Keeping.{out_alone}
use Rattle.rounds.proofs.Lending.{brings_same}
use Rattle.rounds.proofs.bench.Bench.drop_round.Goals as goal

pub invariant_of-rest : goal.invariant_of-rest
invariant_of-rest c =
    let r = c.round.inside in
    let v = c.round.invariant in (
      omega (arith, v.0.count),
      out_alone _ r.packets.items c.take_lanes-lanes.result c.new.result.items v.0.laid (omega (arith, v.0.count)) c.take_lanes-lanes.ensures.idle c.new.ensures.items,
    )

pub returns : goal.returns
returns c =
    let r = c.round.inside in
    let lanes = c.take_lanes-lanes in
    let b = c.bring in
    let w : (ℕ → ℕ) → ℕ = λ h. weighed_slots h r.packets.items + weighed h r.spares.blocks in
    let brings = brings_same r.blocks _ w lanes.new.self b.new.self c.args.home.now b.new.home (λ h. omega (arith, idle_weighed h lanes.result.queues.items lanes.ensures.idle.0)) b.ensures.brings in
    record {
      brings = subst (λ (z : RoundState). Brings z.blocks (weights_of z) c.args.self.now b.new.self c.args.home.now b.new.home) c.round.view_is
          (subst (λ (z : BenchState). Brings r.blocks w z b.new.self c.args.home.now b.new.home) lanes.ensures.same brings);
    }
