use Rattle.std.proofs.Common.{refl}
use Rattle.segmenting.proofs.Heads.{both_are}
use Rattle.segmenting.proofs.opening.joined.Goals as goal

pub returns : goal.returns
returns c = record {
  bytes = both_are c.args.front.now c.args.rest.now c.copy_from_slice.new.self c.copy_from_slice-2.new.self _ c.copy_from_slice.ensures.after c.copy_from_slice-2.ensures.after
      c.told-front refl;
}
