use Rattle.std.proofs.Common.{◌≡◌, drop}
use Rattle.offload_model.specs.Merged.{is_fixed}
use Rattle.header_fill.proofs.place.is_fixed.Given as goal

abbrev pub invariant-loop-header : goal.invariant-loop-header
invariant-loop-header l = is_fixed l.left (drop l.header-index l.headers) l.at ≡ is_fixed l.modes l.headers l.at
