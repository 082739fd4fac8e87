use Rattle.std.proofs.Common.{Bool, subst, sym}
use Rattle.gro.proofs.Lying.{lent_held, lent_shared, lent_weigh}
use Rattle.reading.proofs.Laying.{laid_all}
use Rattle.rounds.specs.Prepared.{ArePrepared}
use Rattle.rounds.proofs.Keeping.{are_held, prepared_alone, prepared_shared}
use Rattle.rounds.proofs.lane_work.share_if.Goals as goal

pub keep_if-requires-clause-held : goal.keep_if-requires-clause-held
keep_if-requires-clause-held c =
    let ps = c.args.packets.now.items in
    lent_held ps c.share_heads.new.self.items c.share_heads.ensures.lent (are_held ps c.requires.read c.requires.captured)

pub keep_if-requires-clause-shared : goal.keep_if-requires-clause-shared
keep_if-requires-clause-shared c = lent_shared c.args.packets.now.items c.share_heads.new.self.items c.share_heads.ensures.lent

pub keep_if-requires-clause-whole : goal.keep_if-requires-clause-whole
keep_if-requires-clause-whole c =
    let ps = c.args.packets.now.items in
    lent_weigh ps c.share_heads.new.self.items c.share_heads.ensures.lent (laid_all 0 ps c.requires.laid)

pub returns-then-not-shared-clause-prepared : goal.returns-then-not-shared-clause-prepared
returns-then-not-shared-clause-prepared c =
    let ps = c.args.packets.now.items in
    let clones = c.args.clones.now.items in
    subst (λ (z : Bool). ArePrepared z ps ps clones) (sym c.if-not-shared.true) (prepared_alone ps clones c.requires.laid c.requires.read c.requires.captured c.requires.none)

pub returns-clause-prepared : goal.returns-clause-prepared
returns-clause-prepared c =
    let ps = c.args.packets.now.items in
    let k = c.keep_if in
    subst (λ (z : Bool). ArePrepared z ps k.new.packets.items k.new.clones.items) (sym c.if-not-shared.false)
    (prepared_shared ps c.share_heads.new.self.items k.new.packets.items k.new.clones.items c.requires.laid c.share_heads.ensures.lent k.ensures.after k.ensures.kept k.ensures.blocks k.ensures.fewer)
