use Rattle.std.proofs.Common.{arith}
use Rattle.frame_bursts.specs.declared.link.Link.TheVariants.{RawIp}
use Rattle.frame_bursts.proofs.Framing.{captured_at, one_more, all_more}
use Rattle.frame_bursts.proofs.raw_frame.push_frames.Goals as goal

pub of-requires : goal.of-requires
of-requires c = record {
  captured = captured_at RawIp c.args.packets.now c.loop-i.i c.frame_at-packet.result c.requires.captured
      c.loop-i-test.true (c.frame_at-packet.ensures.frame c.frame_at-packet.result);
}

pub loop-i-preserved : goal.loop-i-preserved
loop-i-preserved c = (
  one_more c.loop-i.frames.items c.push_reserved.new.self.items c.of.result c.args.packets.now c.frame_at-packet.result
      c.loop-i.i c.push_reserved.ensures.items c.loop-i-test.true (c.frame_at-packet.ensures.frame c.frame_at-packet.result)
      c.of.ensures.packet c.loop-i.invariant.0,
  (
    all_more c.loop-i.frames.items c.push_reserved.new.self.items c.of.result c.push_reserved.ensures.items
        c.loop-i.invariant.1.0 c.of.ensures.held,
    λ n h. omega (
      arith,
      c.loop-i.invariant.1.1 n h,
      c.loop-i-test.true,
      c.push_reserved.ensures.len,
      c.push_reserved.ensures.capacity,
    ),
  ),
)
