use Rattle.std.proofs.Common.{ℕ, ◌++◌, List, drop}
use Rattle.std.specs.Prelude.{◌↔◌}
use Rattle.merge_rule.specs.Next.{fields_at, AreAlikeFrom, AreApart}
use Rattle.merge_rule.proofs.alike.alike_to.Given as goal

abbrev pub invariant-loop-place : goal.invariant-loop-place
invariant-loop-place l = (rest : List (ℕ × ℕ))
    → (AreAlikeFrom l.first l.next l.end l.to (fields_at l.at (drop l.place-index l.fields) ++ rest) ↔ AreAlikeFrom l.first l.next l.end l.from (fields_at l.at l.fields ++ rest))
    × (AreApart l.from (fields_at l.at l.fields ++ rest) l.end → AreApart l.to (fields_at l.at (drop l.place-index l.fields) ++ rest) l.end)
