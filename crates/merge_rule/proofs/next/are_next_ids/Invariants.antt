use Rattle.std.proofs.Common.{◌≡◌, drop}
use Rattle.merge_rule.specs.Next.{are_ids_next}
use Rattle.merge_rule.proofs.next.are_next_ids.Given as goal

abbrev pub invariant-loop-header : goal.invariant-loop-header
invariant-loop-header l = are_ids_next l.count l.left l.first l.next (drop l.header-index l.headers) ≡ are_ids_next l.count l.modes l.first l.next l.headers
