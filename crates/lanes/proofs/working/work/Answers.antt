use Rattle.std.proofs.Common.{List, map, length, sym, subst, ap, ◌∙◌, arith, ◌≡◌, refl}
use Rattle.gro.specs.declared.slot.Slot.{Slot}
use Rattle.frame_runs.specs.Engine.{DoRise, IsReady, runs_of, AreRuns}
use Rattle.gro.specs.Slots.{packet_of, AreHeld}
use Rattle.lanes.proofs.Merging.{do_rise}
use Rattle.offload_model.specs.Rounds.{runs_in, runs_within}
use Rattle.offload_model.specs.declared.limits.Limits.{Limits}
use Rattle.lanes.proofs.working.work.Goals as goal

pub merge-requires-clause-ready : goal.merge-requires-clause-ready
merge-requires-clause-ready g c = subst (λ (z : List Slot). IsReady c.args.lane.now.engine (length z)) (sym c.slots.ensures.slots) c.requires.filled.ready

pub merge-requires-clause-slots : goal.merge-requires-clause-slots
merge-requires-clause-slots g c = subst AreHeld (sym c.slots.ensures.slots) c.requires.filled.held

pub merge-requires-clause-rising : goal.merge-requires-clause-rising
merge-requires-clause-rising g c =
    subst (λ (z : List Slot). DoRise (map packet_of z)) (sym c.slots.ensures.slots) (do_rise 0 (map packet_of c.args.lane.now.packets.items) c.requires.filled.rising)

pub merge-requires-clause-few : goal.merge-requires-clause-few
merge-requires-clause-few g c = omega (arith, ap length c.slots.ensures.slots, c.requires.filled.few)

pub returns : goal.returns
returns g c =
    let engine = c.merge.new.self in
    record {
      did = record {
        queue = refl;
        packets = refl;
        runs = subst (λ (z : List Slot). runs_of (map packet_of z) engine ≡ runs_in c.args.segs (map packet_of z)) c.slots.ensures.slots
            (c.merge.ensures.runs ∙ ap (λ (z : Limits). runs_within z (map packet_of c.slots.result.now)) c.up_to-limits.ensures.limits);
        is = record {
          held = c.requires.filled.held;
          are = subst (λ (z : List Slot). AreRuns (map packet_of z) (length z) engine) c.slots.ensures.slots c.merge.ensures.are;
        };
      };
    }
