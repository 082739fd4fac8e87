use Rattle.std.proofs.Common.{◌≤◌, ◌-◌, length, take, List, ℕ, Option}
use Rattle.std.specs.Io.KnownBytes.{Consumes}
use Rattle.off_io.proofs.source.read_rest.Given as goal

abbrev pub invariant-loop-at : goal.invariant-loop-at
invariant-loop-at g l =
    (l.at ≤ length l.into)
    × ((before : Option (List ℕ))
    → Consumes before (g.S.Source.left l.initial.source) (take l.initial.count l.initial.into)
    → Consumes before (g.S.Source.left l.source) (take l.at l.into))
    × (g.S.Source.faults l.initial.source ≤ g.S.Source.faults l.source)

abbrev pub decreases-loop-at : goal.decreases-loop-at
decreases-loop-at g l = length l.into - l.at
