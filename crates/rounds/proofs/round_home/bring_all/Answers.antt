use Rattle.frags.specs.Account.{Account, both, of_outcomes}
use Rattle.gro.specs.Slots.{of_packets}
use Rattle.rounds.specs.Lanes.{of_work}
use Rattle.rounds.specs.Marks.{nothing}
use Rattle.rounds.specs.Table.{AreHome, Comes, MayCome}
use Rattle.rounds.proofs.Coming.{may_open, and_first, and_rest, and_comes, comes_home, home_count, home_named}
use Rattle.rounds.proofs.round_home.bring_all.Goals.{After-sweep, After-bring_work}
use Rattle.rounds.proofs.round_home.bring_all.Goals as goal

abbrev behind_outcomes : After-sweep → Account
behind_outcomes c = both (of_packets c.args.packets.now.items) (of_work c.args.lanes.now c.args.clones.items)

abbrev all : After-bring_work → Account
all c = both (of_outcomes c.args.out.now) (both (of_packets c.args.packets.now.items) (of_work c.args.lanes.now c.args.clones.items))

rest_may_come : (c : After-sweep) → MayCome (behind_outcomes c) c.sweep.new.pool c.sweep.new.places
rest_may_come c =
    let o = of_outcomes c.args.out.now in
    let may = may_open (both o (behind_outcomes c)) c.args.pool.now c.args.places.now c.requires.open c.requires.room c.requires.round.marked in
    and_rest o (behind_outcomes c) c.args.pool.now c.sweep.new.pool c.args.places.now c.sweep.new.places may c.sweep.ensures.comes

all_come : (c : After-bring_work) → Comes (all c) nothing c.args.pool.now c.args.places.now c.bring_work.new.pool c.bring_work.new.places
all_come c =
    let o = of_outcomes c.args.out.now in
    let ps = of_packets c.args.packets.now.items in
    let w = of_work c.args.lanes.now c.args.clones.items in
    let s = c.sweep in
    let b = c.bring_packets in
    let e = c.bring_work in
    let may = may_open (all c) c.args.pool.now c.args.places.now c.requires.open c.requires.room c.requires.round.marked in
    let rest = and_rest o (both ps w) c.args.pool.now s.new.pool c.args.places.now s.new.places may s.ensures.comes in
    and_comes o (both ps w) c.args.pool.now s.new.pool e.new.pool c.args.places.now s.new.places e.new.places may s.ensures.comes
    (and_comes ps w s.new.pool b.new.pool e.new.pool s.new.places b.new.places e.new.places rest b.ensures.comes e.ensures.comes)

all_home : (c : After-bring_work) → AreHome c.bring_work.new.places
all_home c = comes_home (all c) c.args.pool.now c.bring_work.new.pool c.args.places.now c.bring_work.new.places c.requires.open c.requires.round.whole (all_come c)

pub sweep-requires : goal.sweep-requires
sweep-requires c =
    let o = of_outcomes c.args.out.now in
    let w = both (of_packets c.args.packets.now.items) (of_work c.args.lanes.now c.args.clones.items) in
    record { may = and_first o w c.args.pool.now c.args.places.now (may_open (both o w) c.args.pool.now c.args.places.now c.requires.open c.requires.room c.requires.round.marked) }

pub bring_packets-requires-clause-may : goal.bring_packets-requires-clause-may
bring_packets-requires-clause-may c =
    and_first (of_packets c.args.packets.now.items) (of_work c.args.lanes.now c.args.clones.items) c.sweep.new.pool c.sweep.new.places
    (rest_may_come (goal.at.bring_packets-requires-clause-may c).After-sweep)

pub bring_work-requires-clause-may : goal.bring_work-requires-clause-may
bring_work-requires-clause-may c =
    and_rest (of_packets c.args.packets.now.items) (of_work c.args.lanes.now c.args.clones.items) c.sweep.new.pool c.bring_packets.new.pool c.sweep.new.places c.bring_packets.new.places
    (rest_may_come (goal.at.bring_work-requires-clause-may c).After-sweep) c.bring_packets.ensures.comes

pub reopen-requires : goal.reopen-requires
reopen-requires c = record { home = all_home (goal.at.reopen-requires c).After-bring_work }

pub returns-clause-home : goal.returns-clause-home
returns-clause-home c =
    let p = (goal.at.returns-clause-home c).After-bring_work in
    home_count (all p) c.args.pool.now c.bring_work.new.pool c.args.places.now c.bring_work.new.places c.requires.open (all_home p) (all_come p)

pub returns-clause-named : goal.returns-clause-named
returns-clause-named c =
    let p = (goal.at.returns-clause-named c).After-bring_work in
    home_named (all p) c.args.pool.now c.bring_work.new.pool c.args.places.now c.bring_work.new.places c.requires.open (all_home p) (all_come p)
