use Rattle.std.proofs.Common.{◌≡◌, List, [], sym, subst}
use Rattle.std.specs.Prelude.{reverse}
use Rattle.gro.specs.declared.slot.Slot.{Slot as Held}
use Rattle.lanes.specs.Filling.{AreOpen, SharesOut}
use Rattle.lanes.specs.Work.{spread_of}
use Rattle.lanes.proofs.Sharing.{turned, turned_none}
use Rattle.lanes.proofs.Whole.{on_ok}
use Rattle.lanes.proofs.share.spread.Goals as goal

pub spread_back-spread-requires : goal.spread_back-spread-requires
spread_back-spread-requires c = record {
  lanes = subst (λ (z : List Held). AreOpen c.args.plan.now z c.args.lanes.now) (sym (turned c.args.packets.now.items c.reverse.new.self.items c.reverse.ensures.items)) c.requires.lanes;
}

pub returns-clause-shares : goal.returns-clause-shares
returns-clause-shares c =
    let lanes = c.spread_back-spread.new.lanes in
    let n = spread_of c.args.plan.now in
    let now = c.reverse-2.new.self.items in
    subst (λ (z : List Held). SharesOut n z now c.args.lanes.now lanes) (turned c.args.packets.now.items c.reverse.new.self.items c.reverse.ensures.items)
    (subst (λ (z : List Held). SharesOut n (reverse c.reverse.new.self.items) z c.args.lanes.now lanes) (sym c.reverse-2.ensures.items) c.spread_back-spread.ensures.shares)

pub returns-clause-all : goal.returns-clause-all
returns-clause-all c =
    let ps = c.spread_back-spread.new.packets.items in
    let now = c.reverse-2.new.self.items in
    on_ok c.spread_back-spread.result (ps ≡ []) (now ≡ []) (turned_none ps now c.reverse-2.ensures.items) c.spread_back-spread.ensures.all
