use Rattle.std.proofs.Common.{arith}
use Rattle.frame_runs.proofs.Running.{few_more}
use Rattle.frame_runs.proofs.run.Run.head.Goals as goal

pub overflow_add-result : goal.overflow_add-result
overflow_add-result g c = omega (arith, few_more c.args.self.now (g.F.Frame.packet c.args.first.now) c.requires.run.0 c.requires.run.1)
