use Rattle.std.proofs.Common.{refl, arith}
use Rattle.frame_bursts.proofs.Rising.{are_frames, known_each, known_rise, not_captured, not_above}
use Rattle.frame_bursts.proofs.lawful.are_frames.Goals as goal

pub returns-then-not-is_captured : goal.returns-then-not-is_captured
returns-then-not-is_captured c = record {
  frames = (
    λ t. absurd cc,
    λ a. absurd (not_captured c.args.link c.args.frames.now c.loop-i.i c.frame_at-frame.result c.loop-i-test.true
        (c.frame_at-frame.ensures.frame c.frame_at-frame.result)
        (λ is. let t = c.is_captured.ensures.captured.1 is in absurd cc) a),
  );
}

pub returns-then-before-frame : goal.returns-then-before-frame
returns-then-before-frame c = record {
  frames = (
    λ t. absurd cc,
    λ a. absurd (not_above c.args.link c.args.frames.now c.loop-i.i c.frame_at-frame.result c.frame_at-before.result
        c.if-i-gt0.true c.loop-i-test.true (c.frame_at-frame.ensures.frame c.frame_at-before.result)
        (c.frame_at-before.ensures.frame c.frame_at-before.result) c.if-before-frame.true a),
  );
}

pub loop-i-init : goal.loop-i-init
loop-i-init c = (
  λ k d h l. known_each c.args.link c.args.frames.now c.args.from k d c.requires.known.each h l,
  λ j k d e h l. known_rise c.args.link c.args.frames.now c.args.from j k d c.requires.known.rising e h l,
)

pub returns : goal.returns
returns c = record {
  frames = (
    λ t. are_frames c.args.link c.args.frames.now c.loop-i.i (omega (arith, c.loop-i-test.false)) c.loop-i.invariant.0
        c.loop-i.invariant.1,
    λ a. refl,
  );
}
