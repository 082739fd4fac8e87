use Rattle.std.proofs.Common.{◌++◌, [], ◌∷◌, ◌∙◌, ap, append_assoc}
use Rattle.ref_core.specs.SetMachine.{set_step}
use Rattle.ref_core.specs.Agreement.{answers_of}
use Rattle.std.specs.Prelude.{take}
use Rattle.ref_core.specs.declared.event.Event.TheVariants.{Take}
use Rattle.ref_core.proofs.Runs.{run_state, run_answers}
use Rattle.ref_core.proofs.set_machine.SetMachine.run_events.Goals as goal

pub loop-event-preserved : goal.loop-event-preserved
loop-event-preserved c = let s = c.args.self.now in let xs = c.args.events.now in let i = c.loop-event.event-index in let here = c.loop-event.self in let old = c.args.answers.now.items in
    let at = c.loop-event.invariant.state in let answer = c.in_ok-answer.answer in record {
      state = run_state set_step s xs i (Take 0 0) here c.step.new.self answer c.loop-event-test.true at c.in_ok-answer.ensures.ok;
      done = c.push_reserved.ensures.items ∙ ap (λ ys. ys ++ answer ∷ []) (c.in_ok-reserve.ensures.items ∙ c.loop-event.invariant.done) ∙ append_assoc old (answers_of set_step s (take i xs))
          (answer ∷ [])
          ∙ ap (λ ys. old ++ ys) (run_answers set_step s xs i (Take 0 0) here c.step.new.self answer c.loop-event-test.true at c.in_ok-answer.ensures.ok);
    }
