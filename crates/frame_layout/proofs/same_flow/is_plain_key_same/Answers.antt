use Rattle.std.proofs.Common.{◌≡◌, true, false, sym, ◌∙◌}
use Rattle.frame_layout.proofs.SameFlow.{decides_plain, differs_plain}
use Rattle.frame_layout.proofs.same_flow.is_plain_key_same.Goals as goal

pub returns-then-is_part_same : goal.returns-then-is_part_same
returns-then-is_part_same c = record {
  same = decides_plain c.args.first.now c.args.next.now c.requires.first c.requires.next c.is_part_same.result c.is_part_same-then-is_part_same.result
      c.is_part_same.ensures.same c.is_part_same-then-is_part_same.ensures.same c.if-is_part_same.true;
}

pub returns-else-is_part_same : goal.returns-else-is_part_same
returns-else-is_part_same c = record {
  same = (
    λ t. (let e : false ≡ true = sym c.if-is_part_same.false ∙ t in absurd cc),
    λ e. differs_plain c.args.first.now c.args.next.now c.requires.first c.requires.next c.is_part_same.result c.is_part_same.ensures.same e,
  );
}
