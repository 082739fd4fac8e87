use Rattle.std.proofs.Common.{◌≡◌, [], arith, rules}
use Rattle.skb.specs.SkbState.{of_buffer}
use Rattle.taps.specs.Clones.{of_clones}
use Rattle.rounds.proofs.Coming.{may_rest, may_first, comes_none, comes_step, comes_all}
use Rattle.rounds.proofs.LaneCounts.{clones_pop, no_clones, clone_blocks_pop}
use Rattle.rounds.proofs.lane_home.bring_clones.Goals as goal

pub loop-clone-init : goal.loop-clone-init
loop-clone-init c = record {
  comes = comes_none (of_clones c.args.clones.items) c.args.pool.now c.args.places.now c.requires.may;
  bare = c.requires.bare;
  room = c.requires.spare;
  spare = omega arith;
}

pub bring_buffer-requires-clause-may : goal.bring_buffer-requires-clause-may
bring_buffer-requires-clause-may c =
    let l = c.loop-clone in
    let rest = c.pop.new.self.items in
    may_first (of_clones l.clones.items) (of_buffer c.in-Some.clone.skb) (of_clones rest) l.pool l.places (clones_pop l.clones.items rest c.in-Some.clone c.in-Some.ensures.items)
    (may_rest (of_clones c.args.clones.items) (of_clones l.clones.items) c.args.pool.now l.pool c.args.places.now l.places c.requires.may l.invariant.comes)

pub bring_buffer-requires-clause-spare : goal.bring_buffer-requires-clause-spare
bring_buffer-requires-clause-spare c =
    let k = clone_blocks_pop c.loop-clone.clones.items c.pop.new.self.items c.in-Some.clone c.in-Some.ensures.items in
    omega (arith, k, c.loop-clone.invariant.room)

pub loop-clone-preserved : goal.loop-clone-preserved
loop-clone-preserved c =
    let l = c.loop-clone in
    let e = c.bring_buffer in
    let rest = c.pop.new.self.items in
    let k = clone_blocks_pop l.clones.items rest c.in-Some.clone c.in-Some.ensures.items in
    record {
      comes = comes_step (of_clones c.args.clones.items) (of_clones l.clones.items) (of_buffer c.in-Some.clone.skb) (of_clones rest) c.args.pool.now l.pool e.new.pool c.args.places.now l.places
          e.new.places
          (clones_pop l.clones.items rest c.in-Some.clone c.in-Some.ensures.items) l.invariant.comes e.ensures.comes;
      bare = e.ensures.bare;
      room = omega (arith, k, e.ensures.spare, l.invariant.room);
      spare = omega (arith, k, e.ensures.spare, l.invariant.spare);
    }

pub returns-clause-comes : goal.returns-clause-comes
returns-clause-comes c =
    let l = c.loop-clone in
    let e : l.clones.items ≡ [] = search rules in
    comes_all (of_clones c.args.clones.items) (of_clones l.clones.items) c.args.pool.now l.pool c.args.places.now l.places (no_clones l.clones.items e) l.invariant.comes
