use Rattle.std.proofs.Common.{◌≡◌, ℕ, ◌++◌, List, drop}
use Rattle.segment_rule.specs.Modes.{are_bits_lawful}
use Rattle.segment_rule.proofs.modes.are_modes_lawful.Given as goal

abbrev pub invariant-loop-header : goal.invariant-loop-header
invariant-loop-header l =
    (rest : List ℕ) → are_bits_lawful l.left (l.head ++ rest) (drop l.header-index l.headers) ≡ are_bits_lawful l.modes (l.head ++ rest) l.headers
