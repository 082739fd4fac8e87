use Rattle.crossing.specs.Arriving.{Meets}
use Rattle.crossing.proofs.arrivals.Arrivals.meet_lists.Given as goal

abbrev pub invariant-loop : goal.invariant-loop
invariant-loop g l = Meets l.initial.pool l.pool l.initial.self l.self
