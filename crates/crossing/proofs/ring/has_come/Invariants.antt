use Rattle.rtrb.specs.Ring.{ConsumerLooked}
use Rattle.crossing.proofs.ring.has_come.Given as goal

abbrev pub invariant-loop : goal.invariant-loop
invariant-loop g l = ConsumerLooked l.initial.ring l.ring
