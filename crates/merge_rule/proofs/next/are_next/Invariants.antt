use Rattle.std.proofs.Common.{◌≡◌, drop}
use Rattle.frame_layout.specs.Headers.{all_headers}
use Rattle.merge_rule.specs.Next.{is_next_at}
use Rattle.merge_rule.proofs.next.are_next.Given as goal

abbrev pub invariant-loop-header : goal.invariant-loop-header
invariant-loop-header l = all_headers (is_next_at l.first l.next l.further l.total) (drop l.header-index l.headers) ≡ all_headers (is_next_at l.first l.next l.further l.total) l.headers
