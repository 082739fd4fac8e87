use Rattle.std.proofs.Common.{Bool, true, false, arith, subst}
use Rattle.frags.specs.Account.{of_outcomes}
use Rattle.gro.specs.Slots.{of_packets}
use Rattle.taps.specs.Clones.{of_clones}
use Rattle.lanes.specs.Lanes.{of_lanes}
use Rattle.rounds.specs.Out.{IsOut}
use Rattle.rounds.proofs.Keeping.{named_left, round_left}
use Rattle.rounds.proofs.Rounding.{no_outcomes}
use Rattle.rounds.proofs.round_home.bring_out.Goals.{Then-shared, Else-shared}
use Rattle.rounds.proofs.round_home.bring_out.Goals as goal

with_others : (c : Then-shared) → IsOut true c.args.blocks c.args.packets.now.items c.args.lanes.now c.args.clones.items
with_others c = subst (λ (z : Bool). IsOut z c.args.blocks c.args.packets.now.items c.args.lanes.now c.args.clones.items) c.if-shared.true c.requires.out

alone : (c : Else-shared) → IsOut false c.args.blocks c.args.packets.now.items c.args.lanes.now c.args.clones.items
alone c = subst (λ (z : Bool). IsOut z c.args.blocks c.args.packets.now.items c.args.lanes.now c.args.clones.items) c.if-shared.false c.requires.out

pub bring_round-requires-clause-round : goal.bring_round-requires-clause-round
bring_round-requires-clause-round c =
    let a = c.args in
    let o = with_others (goal.at.bring_round-requires-clause-round c).Then-shared in
    round_left a.blocks (of_outcomes a.out.now) (of_packets a.packets.now.items) (of_lanes a.lanes.now) (of_clones a.clones.items) (no_outcomes a.out.now c.requires.bare) o.round

pub bring_round-requires-clause-spare : goal.bring_round-requires-clause-spare
bring_round-requires-clause-spare c = omega (arith, (with_others (goal.at.bring_round-requires-clause-spare c).Then-shared).counts, c.requires.spare)

pub bring_round-requires-clause-spent : goal.bring_round-requires-clause-spent
bring_round-requires-clause-spent c = (with_others (goal.at.bring_round-requires-clause-spent c).Then-shared).spent

pub bring_round_alone-requires-clause-packets : goal.bring_round_alone-requires-clause-packets
bring_round_alone-requires-clause-packets c = (alone (goal.at.bring_round_alone-requires-clause-packets c).Else-shared).packets

pub bring_round_alone-requires-clause-queues : goal.bring_round_alone-requires-clause-queues
bring_round_alone-requires-clause-queues c = (alone (goal.at.bring_round_alone-requires-clause-queues c).Else-shared).queues

pub bring_round_alone-requires-clause-room : goal.bring_round_alone-requires-clause-room
bring_round_alone-requires-clause-room c = omega (arith, (alone (goal.at.bring_round_alone-requires-clause-room c).Else-shared).count, c.requires.room)

pub bring_round_alone-requires-clause-none : goal.bring_round_alone-requires-clause-none
bring_round_alone-requires-clause-none c = (alone (goal.at.bring_round_alone-requires-clause-none c).Else-shared).none

pub bring_round_alone-requires-clause-idle : goal.bring_round_alone-requires-clause-idle
bring_round_alone-requires-clause-idle c = (alone (goal.at.bring_round_alone-requires-clause-idle c).Else-shared).idle

pub returns-then-shared-clause-spare : goal.returns-then-shared-clause-spare
returns-then-shared-clause-spare c = omega (arith, (with_others (goal.at.returns-then-shared-clause-spare c).Then-shared).counts, c.bring_round.ensures.spare)

pub returns-else-shared-clause-adds : goal.returns-else-shared-clause-adds
returns-else-shared-clause-adds c =
    let e = c.bring_round_alone.ensures.adds in
    record {
      home = omega (arith, (alone (goal.at.returns-else-shared-clause-adds c).Else-shared).count, e.home);
      named = e.named;
      made = e.made;
    }

pub returns-then-shared-clause-adds : goal.returns-then-shared-clause-adds
returns-then-shared-clause-adds c =
    let a = c.args in
    let e = c.bring_round.ensures in
    let o = with_others (goal.at.returns-then-shared-clause-adds c).Then-shared in
    let named = named_left o.names (of_outcomes a.out.now) (of_packets a.packets.now.items) (of_lanes a.lanes.now) (of_clones a.clones.items) (no_outcomes a.out.now c.requires.bare) o.named in
    record {
      home = e.home;
      named = λ h. omega (arith, e.named o.names h named, o.weights h);
      made = e.made;
    }
