use Rattle.std.proofs.Common.{◌≡◌, ◌++◌, take}
use Rattle.ref_core.specs.WeightMachine.{weight_step}
use Rattle.ref_core.specs.Agreement.{answers_of, after}
use Rattle.ref_core.proofs.weight_machine.WeightMachine.run_events.Given as goal

abbrev pub invariant-loop-event : goal.invariant-loop-event
invariant-loop-event l = record {
  state : l.self ≡ after weight_step l.fn.self (take l.event-index l.events);
  done : l.answers.items ≡ l.fn.answers.items ++ answers_of weight_step l.fn.self (take l.event-index l.events);
}
