use Rattle.std.proofs.Common.{arith}
use Rattle.skb.proofs.Filling.{filled_next}
use Rattle.skb.proofs.skb.Skb.copy_blocks.Goals as goal

pub copy_block-at-requires-clause-spares : goal.copy_block-at-requires-clause-spares
copy_block-at-requires-clause-spares c = let e = c.loop-at.invariant.enough in omega arith

pub copy_block-at-requires-clause-room : goal.copy_block-at-requires-clause-room
copy_block-at-requires-clause-room c = let e = c.loop-at.invariant.places in omega arith

pub copy_block-at-requires-clause-small : goal.copy_block-at-requires-clause-small
copy_block-at-requires-clause-small c = let e = c.loop-at.invariant.size in omega arith

pub loop-at-preserved : goal.loop-at-preserved
loop-at-preserved c =
    let l = c.loop-at in
    let n = c.copy_block-at in
    filled_next c.args.self.now c.args.from
    c.args.spares.now.items l.at l.copied.room n.result n.new.copied.room l.spares.items n.new.spares.items l.copied.pieces n.new.copied.pieces l.invariant
    (omega arith) n.ensures.end n.ensures.room n.ensures.block
