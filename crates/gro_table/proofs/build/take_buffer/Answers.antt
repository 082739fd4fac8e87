use Rattle.std.proofs.Common.{◌+◌, ◌-◌, ℕ, List, length, min, slice_range, ap, arith, ◌∙◌, sym}
use Rattle.skb.specs.SkbState.{buffer_size, written}
use Rattle.gro_table.proofs.Taking.{taken}
use Rattle.gro_table.proofs.build.take_buffer.Goals as goal

pub move_into-requires-clause-small : goal.move_into-requires-clause-small
move_into-requires-clause-small c =
    let within = c.in-Ok.ensures.within (omega (arith, c.min-n.ensures, c.head-head.ensures.size, c.requires.head)) in
    omega (arith, c.requires.small, ap buffer_size within.0)

pub returns-clause-takes : goal.returns-clause-takes
returns-clause-takes c =
    let a = c.args in
    let p = c.in-Ok.ensures in
    let m = c.move_into.ensures in
    let long = sym (ap length c.head-head.ensures.bytes) ∙ c.head-head.ensures.size in
    let n = c.min-n.ensures ∙ ap (λ (z : ℕ). min (200 - a.filled) (z - a.at)) c.head-head.ensures.size in
    taken a.skb c.pull.new.self a.at c.min-n.result a.filled a.block.now c.write_at.new.sole a.pieces.now.pieces c.move_into.new.pieces.pieces a.out.now c.pull.new.out c.move_into.new.out
    c.len.ensures.fits long c.requires.head c.requires.order c.requires.front c.requires.build n
    (c.write_at.ensures.bytes ∙ ap (λ (z : List ℕ). written a.block.now.bytes (64 + a.filled) (slice_range z a.at (a.at + c.min-n.result))) c.head-head.ensures.bytes)
    (c.write_at.ensures.block, c.write_at.ensures.mark)
    p.bytes (p.within (omega (arith, n, c.requires.head))) p.room m.moved m.bytes m.size m.count m.account m.least
