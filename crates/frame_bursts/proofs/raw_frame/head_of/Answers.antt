use Rattle.std.proofs.Common.{◌∙◌}
use Rattle.frame_bursts.proofs.Framing.{head_is}
use Rattle.frame_bursts.proofs.raw_frame.head_of.Goals as goal

pub returns : goal.returns
returns c = record {
  head = head_is c.args.packet.now c.copy_from_slice.new.self _ c.copy_from_slice-2.new.self c.args.n _
      (c.copy_from_slice.ensures.after ∙ c.ethernet_before.ensures.header) c.copy_from_slice.ensures.len
      c.copy_from_slice-2.ensures.after c.requires.inside;
}
