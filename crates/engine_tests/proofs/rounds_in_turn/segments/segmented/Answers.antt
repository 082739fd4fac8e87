use Rattle.std.proofs.Common.{◌≡◌, Ok, rules}
use Rattle.segmenting.specs.declared.segment.Moved.TheVariants.{One}
use Rattle.engine_tests.proofs.rounds_in_turn.segments.segmented.Goals as goal

pub next-second-requires-clause-ready : goal.next-second-requires-clause-ready
next-second-requires-clause-ready g c =
    let e : c.next-first.result ≡ Ok One = search rules in
    (c.next-first.ensures.next e).ready
