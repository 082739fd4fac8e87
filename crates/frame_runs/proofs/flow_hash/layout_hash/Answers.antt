use Rattle.std.proofs.Common.{ap, ◌∙◌, arith}
use Rattle.frame_layout.proofs.Lemmas.{own_long, its_key}
use Rattle.frame_runs.specs.Flows.{hash_of}
use Rattle.frame_runs.proofs.flow_hash.layout_hash.Goals as goal

pub plain_hash-requires : goal.plain_hash-requires
plain_hash-requires c = record {
  long = own_long c.args.head.now c.requires.shape.0 (λ k. omega (arith, c.type_inv.head k)) c.requires.shape.1.0 c.args.layout.now c.requires.shape.1.1
      (c.is_plain.ensures.plain c.if-is_plain.true);
}

pub returns-then-is_plain : goal.returns-then-is_plain
returns-then-is_plain c = record {
  hash = λ f o s. c.plain_hash.ensures.hash
      ∙ ap hash_of (its_key c.args.head.now f (λ k. omega (arith, c.type_inv.head k)) o c.args.layout.now s (c.is_plain.ensures.plain c.if-is_plain.true));
}
