use Rattle.std.proofs.Common.{ap, length}
use Rattle.pipeline.proofs.drive.prepare.Goals as goal

pub returns-clause-ring : goal.returns-clause-ring
returns-clause-ring g c = (c.in_ok-out.ensures.pair, c.in_ok-out.ensures.producer.0, c.in_ok-out.ensures.consumer.0)

pub returns-clause-list : goal.returns-clause-list
returns-clause-list g c = ap length c.in_ok-list.ensures.none.0
