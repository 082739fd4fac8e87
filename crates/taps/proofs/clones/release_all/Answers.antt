use Rattle.std.proofs.Common.{◌+◌, ◌-◌, [], ◌∷◌, length, arith, ap, ◌∙◌}
use Rattle.frags.specs.Account.{both, of_outcomes}
use Rattle.frags.proofs.Growing.{grows_trans, grows_by}
use Rattle.taps.specs.Clones.{blocks_of, of_clones}
use Rattle.taps.proofs.Returning.{blocks_of-append, keeps_pop, blocks_pop}
use Rattle.taps.proofs.clones.release_all.Goals as goal

pub release-requires : goal.release-requires
release-requires c =
    let i = c.loop-clone.invariant in
    let n = ap blocks_of c.in-Some.ensures.items ∙ blocks_of-append c.pop.new.self.items (c.in-Some.clone ∷ []) in
    omega (arith, i.places, n, c.requires.room)

pub loop-clone-preserved : goal.loop-clone-preserved
loop-clone-preserved c =
    let e = c.in-Some.ensures.items in
    let i = c.loop-clone.invariant in
    let n = ap blocks_of e ∙ blocks_of-append c.pop.new.self.items (c.in-Some.clone ∷ []) in
    let all = blocks_of c.args.clones.now.items in
    let left = blocks_of c.loop-clone.clones.items in
    let one = length c.in-Some.clone.skb.rest + 1 in
    record {
      fewer = omega (arith, n, i.fewer);
      grows =
          grows_by (all - left + one) (all - blocks_of c.pop.new.self.items) c.args.out.now c.release.new.out
          (grows_trans (all - left) one c.args.out.now c.loop-clone.out c.release.new.out i.grows c.release.ensures.grows)
          (omega (arith, n, i.fewer));
      places = omega (arith, n, i.places, c.release.ensures.places, i.fewer);
      kept =
          keeps_pop (both (of_clones c.args.clones.now.items) (of_outcomes c.args.out.now)) c.in-Some.clone c.loop-clone.clones.items c.pop.new.self.items
          c.loop-clone.out c.release.new.out e i.kept c.release.ensures.kept;
      blocks =
          blocks_pop (both (of_clones c.args.clones.now.items) (of_outcomes c.args.out.now)) c.in-Some.clone c.loop-clone.clones.items c.pop.new.self.items
          c.loop-clone.out c.release.new.out e i.blocks c.release.ensures.blocks;
    }
