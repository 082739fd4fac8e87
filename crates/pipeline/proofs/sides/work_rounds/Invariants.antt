use Rattle.std.proofs.Common.{◌≡◌, ℕ, ◌≤◌, ◌+◌, ◌^◌}
use Rattle.block_pool.specs.Giving.{weights_given}
use Rattle.block_pool.specs.PoolState.{weighed}
use Rattle.rounds.specs.Benches.{options_at, HasRoom, IsSameBench, Lends}
use Rattle.rtrb.specs.Ring.{received, SameConsumer}
use Rattle.rounds.specs.Handled.{Went}
use Rattle.pipeline.specs.Parcels.{packets_of, rounds_of, spares_of, weights_sent, CountsSpares, IsLeft}
use Rattle.pipeline.proofs.sides.work_rounds.Given as goal

abbrev pub invariant-loop : goal.invariant-loop
invariant-loop g l = record {
  from : SameConsumer l.initial.from l.from;
  room : HasRoom 0 l.bench;
  bench : IsSameBench l.initial.bench l.bench;
  named : (h : ℕ → ℕ) → weighed h l.list.blocks + weights_given l.giver h ≡ weights_sent h (received l.from) + weights_given l.initial.giver h;
  lends : Lends l.initial.giver l.giver;
  left : IsLeft 0 l.list l.initial.giver l.giver;
  spares : CountsSpares (spares_of (received l.from)) l.initial.spares l.spares l.initial.giver l.giver;
  went : Went (g.H.RoundHandler.did l.handler (options_at l.initial.bench)) 0 l.initial.into l.into (rounds_of (received l.from));
  few : packets_of (rounds_of (received l.from)) ≤ 2 ^ 32 + 4096;
  ready : g.H.RoundHandler.ready (options_at l.initial.bench) l.initial.bench.keep (packets_of (rounds_of (received l.from))) l.into;
}
