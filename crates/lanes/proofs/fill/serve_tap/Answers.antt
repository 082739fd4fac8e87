use Rattle.std.proofs.Common.{◌+◌, map, arith}
use Rattle.frags.specs.Account.{every}
use Rattle.gro.specs.Slots.{packet_of}
use Rattle.lanes.proofs.Adding.{after_none, after_later}
use Rattle.lanes.proofs.Idle.{idle_tap, ready_tap}
use Rattle.lanes.proofs.Reading.{may_clone, may_read}
use Rattle.lanes.proofs.fill.serve_tap.Goals as goal

pub returns-clause-after : goal.returns-clause-after
returns-clause-after g c =
    let ps = c.args.packets.now.items in
    after_later (c.args.tap + 1) (c.args.tap + 2) ps ps (omega arith) (after_none (c.args.tap + 1) ps c.requires.held c.requires.shared c.requires.weigh)

pub returns-clause-kept : goal.returns-clause-kept
returns-clause-kept g c = λ t m. let z = idle_tap c.read_tap.new.lane c.read_tap.ensures.idle t m in (omega (arith, z.0), omega (arith, z.0, z.1))

pub returns-clause-blocks : goal.returns-clause-blocks
returns-clause-blocks g c = λ bs m. let z = idle_tap c.read_tap.new.lane c.read_tap.ensures.idle (every bs) m in omega (arith, z.0, z.1)

pub returns-clause-ready : goal.returns-clause-ready
returns-clause-ready g c = ready_tap c.read_tap.new.lane c.read_tap.ensures.idle

pub returns-clause-served : goal.returns-clause-served
returns-clause-served g c = may_read c.args.plan.now (map packet_of c.args.packets.now.items) c.args.tap c.read_tap.new.lane c.read_tap.result c.read_tap.ensures.idle c.read_tap.ensures.read

pub returns-then-beside-clause-served : goal.returns-then-beside-clause-served
returns-then-beside-clause-served g c = may_clone c.args.plan.now (map packet_of c.args.packets.now.items) c.args.tap c.fill_tap.new.lane c.fill_tap.result c.fill_tap.ensures.clones
