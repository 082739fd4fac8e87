use Rattle.std.proofs.Common.{◌+◌, [], ◌∷◌, Some, ap, sym, ◌∙◌}
use Rattle.frame_layout.specs.declared.layout.Layer.TheVariants.{Udp}
use Rattle.frame_layout.proofs.Readers.{udp_is, udp_not}
use Rattle.frame_layout.proofs.read.udp.Goals as goal

pub returns-then-not-is_datagram : goal.returns-then-not-is_datagram
returns-then-not-is_datagram c = record {
  found = udp_not c.args.frame.now c.args.at (sym c.is_datagram.ensures.there ∙ c.if-not-is_datagram.true);
}

pub returns : goal.returns
returns c = record {
  found = (
    record { layer = Udp; at = c.args.at } ∷ [],
    c.push.ensures.items,
    udp_is c.args.frame.now c.args.at (sym c.is_datagram.ensures.there ∙ c.if-not-is_datagram.false),
  );
}
