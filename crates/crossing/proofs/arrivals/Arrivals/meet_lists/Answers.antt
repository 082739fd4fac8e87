use Rattle.crossing.proofs.InTurn.{meets_then}
use Rattle.crossing.proofs.arrivals.Arrivals.meet_lists.Goals as goal

pub loop-preserved : goal.loop-preserved
loop-preserved g c = meets_then c.loop.invariant c.meet_list.ensures.meets

pub returns-then-not-meet_list : goal.returns-then-not-meet_list
returns-then-not-meet_list g c = record { meets = meets_then c.loop.invariant c.meet_list.ensures.meets }
