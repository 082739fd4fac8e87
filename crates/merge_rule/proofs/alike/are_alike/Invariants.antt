use Rattle.std.proofs.Common.{drop}
use Rattle.std.specs.Prelude.{◌↔◌}
use Rattle.merge_rule.specs.Next.{varying_in, AreAlikeFrom, AreApart}
use Rattle.merge_rule.proofs.alike.are_alike.Given as goal

abbrev pub invariant-loop-header : goal.invariant-loop-header
invariant-loop-header l =
    AreApart l.from (varying_in (drop l.header-index l.headers)) l.end
    × (AreAlikeFrom l.first l.next l.end l.from (varying_in (drop l.header-index l.headers)) ↔ AreAlikeFrom l.first l.next l.end 0 (varying_in l.headers))
