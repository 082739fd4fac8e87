use Rattle.std.proofs.Common.{refl}
use Rattle.comparing.proofs.Entering.{moves_on}
use Rattle.comparing.proofs.kept_flows.KeptFlows.move_to.Goals as goal

pub returns-in-Ok : goal.returns-in-Ok
returns-in-Ok c = record { moves = moves_on c.args.self.now _ c.args.key c.args.at refl c.in-Ok.ensures.updates.0 }
