use Rattle.crossing.specs.Arriving.{Meets}
use Rattle.crossing.proofs.arrivals.Arrivals.await_list.Given as goal

abbrev pub invariant-loop-turn : goal.invariant-loop-turn
invariant-loop-turn g l = Meets l.initial.pool l.pool l.initial.self l.self
