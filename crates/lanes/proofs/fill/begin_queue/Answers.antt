use Rattle.std.proofs.Common.{◌++◌, ap, refl}
use Rattle.lanes.specs.Sharing.{in_queue}
use Rattle.lanes.proofs.fill.begin_queue.Goals as goal

pub returns-clause-begun : goal.returns-clause-begun
returns-clause-begun c = λ n every. record {
  queue = refl;
  packets = ap (λ z. z ++ in_queue n c.args.queue every) c.requires.idle.packets;
}
