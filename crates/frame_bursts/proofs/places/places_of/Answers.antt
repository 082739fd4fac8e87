use Rattle.std.proofs.Common.{arith}
use Rattle.frame_bursts.proofs.Placing.{is_low, is_laid}
use Rattle.frame_bursts.proofs.places.places_of.Goals as goal

pub shared_ref_as_front-places_in : goal.shared_ref_as_front-places_in
shared_ref_as_front-places_in g c =
    is_low c.args.run.now (g.F.Frame.packet c.args.first.now) c.requires.run.0 c.requires.run.1 c.in-Some.layout c.in-Some.is
    c.payload_at.result c.payload_at.ensures.place

pub places_in-requires-clause-laid : goal.places_in-requires-clause-laid
places_in-requires-clause-laid g c =
    is_laid c.args.run.now (g.F.Frame.packet c.args.first.now) c.requires.run.0 c.requires.run.1 c.in-Some.layout c.in-Some.is
    c.payload_at.result c.payload_at.ensures.place c.args.headers.now (omega (arith, c.told-headers))
