use Rattle.merge_rule.proofs.Heads.{next_by_head}
use Rattle.merge_rule.proofs.rule.is_next.Goals as goal

pub returns : goal.returns
returns c = record {
  next = λ f g hf kg.
      next_by_head c.args.layout.now c.requires.placed c.args.first.now c.args.first_len c.args.next.now c.args.next_len f g hf kg c.requires.first
      c.args.count c.args.progress.now.total c.args.progress.now.modes c.continues.result c.requires.next c.continues.ensures.next;
}
