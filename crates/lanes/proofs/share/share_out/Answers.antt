use Rattle.std.proofs.Common.{arith}
use Rattle.lanes.specs.Work.{spread_of}
use Rattle.lanes.proofs.Sharing.{shares_stay}
use Rattle.lanes.proofs.share.share_out.Goals as goal

pub start_all-requires : goal.start_all-requires
start_all-requires c = record { few = omega (arith, c.in_ok-give_out.ensures.shares.counts, c.requires.few) }

pub returns-clause-shares : goal.returns-clause-shares
returns-clause-shares c =
    shares_stay (spread_of c.args.plan.now) c.args.packets.now.items c.give_out.new.packets.items c.args.lanes.now c.give_out.new.lanes c.start_all.new.lanes c.start_all.ensures.size c.start_all.ensures.stay
    c.in_ok-give_out.ensures.shares
