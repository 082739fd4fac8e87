use Rattle.std.proofs.Common.{sym, subst, Bool}
use Rattle.lanes.specs.Filling.{Serves}
use Rattle.lanes.proofs.Reading.{all_read}
use Rattle.lanes.proofs.fill.serve_taps.Goals as goal

pub returns-then-shared-clause-serves : goal.returns-then-shared-clause-serves
returns-then-shared-clause-serves g c =
    let e = c.clone_for_taps in
    subst (λ (z : Bool). Serves z c.args.plan.now c.args.packets.now.items e.new.packets.items c.args.lanes.now e.new.lanes e.result) (sym c.if-shared.true) e.ensures.serves

pub returns-clause-serves : goal.returns-clause-serves
returns-clause-serves g c =
    let e = c.read_taps in
    let ps = c.args.packets.now.items in
    subst (λ (z : Bool). Serves z c.args.plan.now ps ps c.args.lanes.now e.new.lanes e.result) (sym c.if-shared.false)
    (all_read c.args.plan.now ps c.args.lanes.now e.new.lanes e.result e.ensures.idle e.ensures.size e.ensures.read)
