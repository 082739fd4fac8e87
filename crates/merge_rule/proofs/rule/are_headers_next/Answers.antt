use Rattle.merge_rule.proofs.Heads.{headers_in}
use Rattle.merge_rule.proofs.rule.are_headers_next.Goals as goal

pub are_next-requires-clause-first : goal.are_next-requires-clause-first
are_next-requires-clause-first c = headers_in c.args.layout.now _ _ c.requires.placed c.requires.first c.headers-headers.ensures.headers

pub are_next-requires-clause-next : goal.are_next-requires-clause-next
are_next-requires-clause-next c = headers_in c.args.layout.now _ _ c.requires.placed c.requires.next c.headers-headers.ensures.headers

pub are_next_ids-requires-clause-first : goal.are_next_ids-requires-clause-first
are_next_ids-requires-clause-first c = headers_in c.args.layout.now _ _ c.requires.placed c.requires.first c.headers-headers.ensures.headers

pub are_next_ids-requires-clause-next : goal.are_next_ids-requires-clause-next
are_next_ids-requires-clause-next c = headers_in c.args.layout.now _ _ c.requires.placed c.requires.next c.headers-headers.ensures.headers
