use Rattle.std.proofs.Common.{◌-◌, length}
use Rattle.frame_bursts.proofs.Laying.{addresses_at}
use Rattle.frame_bursts.proofs.places.places_in.Goals as goal

pub pseudo_sum-requires-clause-there : goal.pseudo_sum-requires-clause-there
pseudo_sum-requires-clause-there c =
    addresses_at c.args.layout.now.headers 0 (length c.args.head.now) (length c.args.layout.now.headers - 2)
    c.header_at-ip.result c.requires.laid cc
