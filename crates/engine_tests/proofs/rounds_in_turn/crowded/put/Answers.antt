use Rattle.std.proofs.Common.{Option, None, Some, sym, subst}
use Rattle.block_pool.specs.Giving.{GiverState}
use Rattle.rounds.specs.Benches.{IsLent, Lends}
use Rattle.engine_tests.proofs.rounds_in_turn.crowded.put.Goals as goal

lent_again : (old new : Option GiverState) → Lends old new → IsLent new
lent_again None new a = subst IsLent (sym a) tt
lent_again (Some g) new a = subst IsLent (sym a.1) a.2.none

pub returns-clause-lent : goal.returns-clause-lent
returns-clause-lent g c = lent_again c.args.giver.now c.put_read-step.new.giver c.put_read-step.ensures.gave
