use Rattle.std.proofs.Common.{◌≤◌, length, map, refl, sym, subst, arith, ◌∙◌}
use Rattle.std.proofs.lemmas.List.{length-map}
use Rattle.offload_model.specs.declared.limits.Limits.{Limits}
use Rattle.frame_bursts.specs.Burst.{AreFrames}
use Rattle.frame_bursts.specs.Kept.{Awaits, Has}
use Rattle.frame_bursts.specs.Links.{framed}
use Rattle.frame_bursts.specs.declared.link.Link.{Link}
use Rattle.frame_bursts.proofs.kept.BurstEngine.receive.Goals as goal

pub receive_more-requires-clause-awaits : goal.receive_more-requires-clause-awaits
receive_more-requires-clause-awaits c =
    subst (λ (z : Link). Awaits (map (framed z) c.args.frames.now) c.begin.new.self) (sym c.begin.ensures.same.1.1.1)
    (c.if-not-begin.ensures.begun refl)

pub receive_more-requires-clause-captured : goal.receive_more-requires-clause-captured
receive_more-requires-clause-captured c =
    subst (λ (z : Link). AreFrames z c.args.frames.now) (sym c.begin.ensures.same.1.1.1)
    (c.if-not-are_frames.ensures.frames.0 refl)

pub receive_more-requires-clause-small : goal.receive_more-requires-clause-small
receive_more-requires-clause-small c =
    omega (arith, c.begin.ensures.same.1.0, (c.requires.holds (omega (arith, c.if-n-from.false))).numbers.0)

pub returns-clause-received : goal.returns-clause-received
returns-clause-received c =
    let g = c.receive_more.new.self in
    let fs = c.args.frames.now in
    let first = c.begin.ensures.same in
    let same = c.receive_more.ensures.same in
    let before = c.requires.holds (omega (arith, c.if-n-from.false)) in
    let has = subst (λ (z : Link). Has (map (framed z) fs) (length fs) g) first.1.1.1 c.receive_more.ensures.received in
    record {
      count = length-map fs (framed c.args.self.now.link);
      captured = c.if-not-are_frames.ensures.frames.0 refl;
      numbers = (
        omega (arith, first.1.0, same.1.0, before.numbers.0),
        subst (λ (z : Limits). (1 ≤ z.segs) × (z.segs ≤ 4096)) (sym (same.1.1.0 ∙ first.1.1.0)) before.numbers.1,
      );
      few = omega (arith, first.1.0, same.1.0, c.if-n-self.false);
      has = λ some. record { received = has.received; places = has.places; linked = has.linked; raw = has.raw };
    }
