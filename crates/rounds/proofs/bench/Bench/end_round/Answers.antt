use Rattle.block_pool.specs.PoolState.{home}
use Rattle.rounds.proofs.Keeping.{out_beside}
use Rattle.std.proofs.Common.{◌-◌}
use Rattle.rounds.proofs.bench.Bench.end_round.Goals as goal

pub invariant_of-rest : goal.invariant_of-rest
invariant_of-rest c =
    let w = c.worked.inside in (
      c.worked.invariant.0,
      out_beside w.shared (w.blocks - home w.spares) c.take_packets.result.items w.lanes w.clones.items c.take_packets.ensures.none c.worked.invariant.1,
    )
