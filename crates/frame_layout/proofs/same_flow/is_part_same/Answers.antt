use Rattle.std.proofs.Common.{◌≡◌, true, false, sym, ◌∙◌}
use Rattle.frame_layout.proofs.SameFlow.{twelve_same, eight_same}
use Rattle.frame_layout.proofs.same_flow.is_part_same.Goals as goal

pub returns-then-is_word_same : goal.returns-then-is_word_same
returns-then-is_word_same c = record {
  same = twelve_same c.args.first.now c.args.next.now c.args.from c.is_quad_same.result c.requires.first c.requires.next
      (c.is_word_same.ensures.same.0 c.if-is_word_same.true) c.is_quad_same.ensures.same;
}

pub returns-else-is_word_same : goal.returns-else-is_word_same
returns-else-is_word_same c = record {
  same = (
    λ t. (let e : false ≡ true = sym c.if-is_word_same.false ∙ t in absurd cc),
    λ e. c.is_word_same.ensures.same.1 (eight_same c.args.first.now c.args.next.now c.args.from e),
  );
}
