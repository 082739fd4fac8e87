use Rattle.std.proofs.Common.{◌+◌, ℕ, List, [], All, length, sym, ap, ◌∙◌, subst}
use Rattle.std.proofs.lemmas.List.{length_push}
use Rattle.std.proofs.lemmas.List.Elements.{All-push}
use Rattle.crossbeam_queue.specs.Passes.{view}
use Rattle.raw_block.specs.Views.{SoleState}
use Rattle.block_pool.specs.declared.shared.rule.Tally.{Tally}
use Rattle.block_pool.specs.PassState.{IsFresh}
use Rattle.block_pool.specs.QueueRule.{tally}
use Rattle.block_pool.proofs.shared.QueuePool+Sole.make.Goals as goal

pub loop-preserved : goal.loop-preserved
loop-preserved g c =
    let i = c.loop.invariant in
    let xs = (view c.loop.pass).made in
    let block = c.in_ok-block.block in
    let fill = c.fill_once.ensures in
    let made = ap (λ (v : Tally SoleState). v.made) fill.view in
    record {
      own = fill.queue;
      known = fill.view ∙ ap (λ (z : List SoleState). tally 65536 z [] []) (sym made);
      made = ap length made ∙ length_push xs block ∙ ap (λ (n : ℕ). n + 1) i.made;
      fresh = subst (All IsFresh) (sym made) (All-push IsFresh xs block i.fresh c.in_ok-block.ensures.zeros);
      size = i.size;
    }
