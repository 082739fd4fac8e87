use Rattle.std.proofs.Common.{◌≡◌, [], drop, sym, subst, arith}
use Rattle.std.proofs.lemmas.List.{drop_more, drop_all}
use Rattle.comparing.specs.Items.{AreInBytes}
use Rattle.comparing.proofs.in_bytes.are_in_bytes.Goals as goal

pub loop-i-preserved : goal.loop-i-preserved
loop-i-preserved c = λ more.
    let l = c.loop-i in
    let packets = c.args.packets.now in
    let s = c.index-packets-i.result in
    l.invariant (subst AreInBytes (sym (drop_more packets l.i s (omega arith))) (c.is_in_bytes.ensures.in_bytes, more))

pub returns : goal.returns
returns c =
    let l = c.loop-i in
    let none : drop l.i c.args.packets.now ≡ [] = drop_all l.i c.args.packets.now (omega arith) in
    record { in_bytes = l.invariant (subst AreInBytes (sym none) tt) }
