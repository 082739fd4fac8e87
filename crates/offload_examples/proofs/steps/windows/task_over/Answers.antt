use Rattle.std.proofs.Common.{[], ◌∷◌, length, arith, ap, ◌∙◌}
use Rattle.taps.specs.Clones.{blocks_of}
use Rattle.taps.specs.declared.task.TapTask.{TapTask}
use Rattle.taps.proofs.Returning.{blocks_of-append}
use Rattle.offload_examples.proofs.steps.windows.task_over.Goals.{then-len-capacity+in-Some, then-len-capacity+in_default, else-len-capacity}
use Rattle.offload_examples.proofs.steps.windows.task_over.Goals as goal

pub loop-turn-preserved : goal.loop-turn-preserved
loop-turn-preserved c =
    let i = c.loop-turn.invariant in
    let before = c.loop-turn.task.clones.items in
    elim c.if-len-capacity.branch [
      | then-len-capacity+in-Some w ↦
          let blocks = ap (λ (t : TapTask). blocks_of t.clones.items) w.task-is in
          let spare = ap (λ (t : TapTask). t.outcomes.spare) w.task-is in
          let more = ap blocks_of w.push_reserved.ensures.items ∙ blocks_of-append before (w.in-Some.clone ∷ []) in
          record { blocks = omega (arith, blocks, more, ap length w.in-Some.ensures.bare, i.blocks); places = omega (arith, spare, w.in-Some.ensures.places, i.places) }
      | then-len-capacity+in_default w ↦
          let blocks = ap (λ (t : TapTask). blocks_of t.clones.items) w.task-is in
          let spare = ap (λ (t : TapTask). t.outcomes.spare) w.task-is in
          record { blocks = omega (arith, blocks, i.blocks); places = omega (arith, spare, w.tap_clone.ensures.places, i.places) }
      | else-len-capacity w ↦
          let blocks = ap (λ (t : TapTask). blocks_of t.clones.items) w.task-is in
          let spare = ap (λ (t : TapTask). t.outcomes.spare) w.task-is in
          record { blocks = omega (arith, blocks, i.blocks); places = omega (arith, spare, i.places) }
    ]
