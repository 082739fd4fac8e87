use Rattle.std.proofs.Common.{◌+◌, length, arith}
use Rattle.frags.proofs.Growing.{grows_trans, grows_by}
use Rattle.gro_table.proofs.packet.Packet.release.Goals as goal

pub returns-clause-grows : goal.returns-clause-grows
returns-clause-grows c =
    let p = c.args.self in
    let o = c.args.out.now in
    let one = c.keep_sole in
    let two = c.keep_sole-2 in
    grows_by (1 + 1 + (length p.skb.rest + 1)) (length p.skb.rest + 3) o c.release.new.out
    (grows_trans (1 + 1) (length p.skb.rest + 1) o two.new.self c.release.new.out
    (grows_trans 1 1 o one.new.self two.new.self one.ensures.grows two.ensures.grows)
    c.release.ensures.grows)
    (omega arith)
