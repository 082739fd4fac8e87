use Rattle.std.proofs.Common.{ℕ, ◌+◌, ◌≤◌, arith}
use Rattle.lanes.proofs.Adding.{after_none, after_later}
use Rattle.lanes.proofs.fill.fill_tap.Goals as goal

later : (n : ℕ) → n + 1 ≤ n + 2
later n = omega arith

pub returns-in_err-reserve-2-clause-after : goal.returns-in_err-reserve-2-clause-after
returns-in_err-reserve-2-clause-after c =
    let ps = c.args.packets.now.items in
    after_later (c.args.tap + 1) (c.args.tap + 2) ps ps (later c.args.tap) (after_none (c.args.tap + 1) ps c.requires.held c.requires.shared c.requires.weigh)

pub returns-in_err-reserve-clause-after : goal.returns-in_err-reserve-clause-after
returns-in_err-reserve-clause-after c =
    let ps = c.args.packets.now.items in
    after_later (c.args.tap + 1) (c.args.tap + 2) ps ps (later c.args.tap) (after_none (c.args.tap + 1) ps c.requires.held c.requires.shared c.requires.weigh)
