use Rattle.std.proofs.Common.{ℕ, List, [], refl, subst, arith}
use Rattle.std.proofs.lemmas.List.{length-append, take_rest}
use Rattle.inet_sum.specs.Stands.{StandsFor}
use Rattle.frame_bursts.specs.Links.{ethernet_for}
use Rattle.frame_bursts.proofs.Framing.{ethernet_size, held_by}
use Rattle.frame_bursts.proofs.raw_frame.RawFrame.of.Goals as goal

pub returns-clause-held : goal.returns-clause-held
returns-clause-held c =
    let p : List ℕ = c.args.packet.now.bytes.now in
    held_by _ p c.min-n.result c.of.ensures.same refl c.min-n.ensures c.head_of.ensures.head
    (subst (StandsFor c.add.new.self) (take_rest p c.min-n.result) (c.add.ensures.sum [] c.new-behind.ensures.sum))
    (omega (arith, c.requires.captured.short, length-append (ethernet_for p) p, ethernet_size p))
    c.requires.captured.in_bytes
