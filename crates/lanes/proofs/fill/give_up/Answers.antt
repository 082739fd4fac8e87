use Rattle.std.proofs.Common.{[], ◌∷◌, length, length-append, ap, ◌∙◌, arith}
use Rattle.taps.specs.Clones.{blocks_of}
use Rattle.taps.proofs.Returning.{blocks_of-append, blocks_pop, keeps_pop}
use Rattle.lanes.specs.Lanes.{of_tap}
use Rattle.lanes.proofs.fill.give_up.Goals as goal

pub release-requires : goal.release-requires
release-requires c =
    let n = ap blocks_of c.in-Some.ensures.items ∙ blocks_of-append c.pop.new.self.items (c.in-Some.clone ∷ []) in
    omega (arith, n, c.loop-clone.invariant.ready)

pub loop-clone-preserved : goal.loop-clone-preserved
loop-clone-preserved c =
    let l = c.loop-clone.lane in
    let n = ap blocks_of c.in-Some.ensures.items ∙ blocks_of-append c.pop.new.self.items (c.in-Some.clone ∷ []) in
    record {
      ready = omega (arith, n, c.loop-clone.invariant.ready, c.release.ensures.places);
      kept = keeps_pop (of_tap c.args.lane.now) c.in-Some.clone l.clones.items c.pop.new.self.items l.outcomes c.release.new.out c.in-Some.ensures.items c.loop-clone.invariant.kept
          c.release.ensures.kept;
      blocks = blocks_pop (of_tap c.args.lane.now) c.in-Some.clone l.clones.items c.pop.new.self.items l.outcomes c.release.new.out c.in-Some.ensures.items c.loop-clone.invariant.blocks
          c.release.ensures.blocks;
      idle = λ h. absurd (omega (arith, ap length (c.loop-clone.invariant.idle h).clones, ap length c.in-Some.ensures.items, length-append c.pop.new.self.items (c.in-Some.clone ∷ [])));
    }
