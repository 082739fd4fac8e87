use Rattle.std.proofs.Common.{arith}
use Rattle.frame_bursts.proofs.Framing.{frame_size}
use Rattle.frame_bursts.proofs.raw_frame.RawFrameFrame.len.Goals as goal

pub returns-clause-len : goal.returns-clause-len
returns-clause-len c = omega (arith, frame_size c.args.self.now c.requires.held, c.len.ensures.len)
