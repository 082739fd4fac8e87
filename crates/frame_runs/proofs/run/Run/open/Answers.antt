use Rattle.std.proofs.Common.{refl}
use Rattle.merge_rule.proofs.Knows.{opened_by}
use Rattle.frame_runs.proofs.run.Run.open.Goals as goal

pub returns-clause-knows : goal.returns-clause-knows
returns-clause-knows c = λ p judged came. record {
  is = opened_by p c.args.candidacy.layout c.args.candidacy.payload c.args.candidacy.flags c.args.progress judged came;
  more = refl;
}
