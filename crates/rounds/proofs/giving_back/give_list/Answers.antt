use Rattle.rounds.proofs.Lending.{leaves_no_spare, went}
use Rattle.rounds.proofs.giving_back.give_list.Goals as goal

pub returns-clause-named : goal.returns-clause-named
returns-clause-named g c =
    (went c.args.giver.now c.swap_list.new.giver c.give.new.giver c.swap_list-2.new.giver c.args.list.now c.swap_list.new.list c.swap_list-2.new.list c.requires.lent
    c.swap_list.ensures.swapped c.give.ensures.gave c.swap_list-2.ensures.swapped).named

pub returns-clause-gave : goal.returns-clause-gave
returns-clause-gave g c =
    (went c.args.giver.now c.swap_list.new.giver c.give.new.giver c.swap_list-2.new.giver c.args.list.now c.swap_list.new.list c.swap_list-2.new.list c.requires.lent
    c.swap_list.ensures.swapped c.give.ensures.gave c.swap_list-2.ensures.swapped).lends

pub returns-clause-none_left : goal.returns-clause-none_left
returns-clause-none_left g c =
    leaves_no_spare c.args.giver.now c.swap_list.new.giver c.give.new.giver c.swap_list-2.new.giver c.args.list.now c.swap_list.new.list c.swap_list-2.new.list
    c.swap_list.ensures.swapped c.give.ensures.none_left c.swap_list-2.ensures.swapped
