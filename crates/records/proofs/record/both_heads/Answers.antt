use Rattle.std.proofs.Common.{refl}
use Rattle.records.proofs.Heads.{both_are}
use Rattle.records.proofs.record.both_heads.Goals as goal

pub returns : goal.returns
returns c = record {
  bytes = both_are c.args.header.now c.args.offload.now c.copy_from_slice.new.self c.copy_from_slice-2.new.self _ c.copy_from_slice.ensures.after c.copy_from_slice-2.ensures.after
      c.told-header refl;
}
