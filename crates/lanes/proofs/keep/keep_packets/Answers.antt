use Rattle.std.proofs.Common.{◌≤◌, arith}
use Rattle.lanes.proofs.Adding.{after_none, after_later}
use Rattle.lanes.proofs.keep.keep_packets.Goals as goal

later : 0 ≤ 1
later = omega arith

pub returns-in_err-reserve-clause-after : goal.returns-in_err-reserve-clause-after
returns-in_err-reserve-clause-after c =
    let ps = c.args.packets.now.items in
    after_later 0 1 ps ps later (after_none 0 ps c.requires.held c.requires.shared c.requires.whole)
