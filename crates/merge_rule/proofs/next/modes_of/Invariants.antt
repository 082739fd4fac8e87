use Rattle.std.proofs.Common.{◌≡◌, ◌==◌, ◌≤◌, length, drop}
use Rattle.ip_headers.specs.Ip4.{identification}
use Rattle.offload_model.specs.Merged.{modes_of}
use Rattle.merge_rule.proofs.next.modes_of.Given as goal

abbrev pub invariant-loop-i : goal.invariant-loop-i
invariant-loop-i l = (l.i ≤ length l.headers) × (l.modes ≡ modes_of (λ at. identification l.next at == identification l.first at) (drop l.i l.headers))

abbrev pub decreases-loop-i : goal.decreases-loop-i
decreases-loop-i l = l.i
