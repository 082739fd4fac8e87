use Rattle.std.proofs.Common.{◌+◌, ◌≤◌, ℕ, All, length, sym, ap, ◌∙◌, subst}
use Rattle.std.proofs.lemmas.List.{length_push}
use Rattle.std.proofs.lemmas.List.Elements.{All-push}
use Rattle.block_pool.specs.PassState.{IsFresh}
use Rattle.block_pool.proofs.pool.Pool.make.Goals as goal

pub loop-preserved : goal.loop-preserved
loop-preserved c =
    let i = c.loop.invariant in
    let xs = c.loop.blocks.items in
    let block = c.in_ok-block.block in
    let push = c.push_reserved.ensures in
    record {
      filled = ap length push.items ∙ length_push xs block ∙ ap (λ (n : ℕ). n + 1) i.filled;
      fresh = subst (All IsFresh) (sym push.items) (All-push IsFresh xs block i.fresh c.in_ok-block.ensures.zeros);
      room = subst (λ (n : ℕ). c.args.n ≤ n) (sym push.capacity) i.room;
    }
