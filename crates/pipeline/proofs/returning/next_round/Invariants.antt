use Rattle.std.proofs.Common.{◌≡◌}
use Rattle.rtrb.specs.Ring.{received, SameConsumer}
use Rattle.pipeline.specs.Parcels.{Returns}
use Rattle.pipeline.proofs.returning.next_round.Given as goal

abbrev pub invariant-loop : goal.invariant-loop
invariant-loop g l = record {
  from : SameConsumer l.initial.from l.from;
  got : received l.from ≡ received l.initial.from;
  returns : Returns l.initial.giver l.giver l.initial.list l.list;
}
