use Rattle.std.proofs.Common.{◌≡◌, ◌≤◌}
use Rattle.frame_layout.specs.Headers.{are_alike_below}
use Rattle.frame_causes.proofs.apart.are_places_alike.Given as goal

abbrev pub invariant-loop-n : goal.invariant-loop-n
invariant-loop-n l =
    (l.n ≤ l.layout.payload_at)
    × (are_alike_below l.layout.headers l.second.bytes.now l.first.bytes.now l.n
    ≡ are_alike_below l.layout.headers l.second.bytes.now l.first.bytes.now l.layout.payload_at)

abbrev pub decreases-loop-n : goal.decreases-loop-n
decreases-loop-n l = l.n
