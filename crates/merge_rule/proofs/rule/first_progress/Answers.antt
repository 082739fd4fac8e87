use Rattle.std.proofs.Common.{refl}
use Rattle.merge_rule.proofs.Heads.{headers_in, first_by_head}
use Rattle.merge_rule.proofs.rule.first_progress.Goals as goal

pub is_ack_alone-requires : goal.is_ack_alone-requires
is_ack_alone-requires c = record { there = headers_in c.args.layout.now _ _ c.requires.placed c.requires.first refl }

pub returns : goal.returns
returns c = record {
  progress = λ f hf.
      first_by_head c.args.layout.now c.requires.placed c.args.first.now c.args.first_len c.is_ack_alone.result f c.requires.first hf
      c.is_ack_alone.ensures.ack;
}
