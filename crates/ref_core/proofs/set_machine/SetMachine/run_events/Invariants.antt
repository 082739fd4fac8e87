use Rattle.std.proofs.Common.{◌≡◌, ◌++◌, take}
use Rattle.ref_core.specs.SetMachine.{set_step}
use Rattle.ref_core.specs.Agreement.{answers_of, after}
use Rattle.ref_core.proofs.set_machine.SetMachine.run_events.Given as goal

abbrev pub invariant-loop-event : goal.invariant-loop-event
invariant-loop-event l = record {
  state : l.self ≡ after set_step l.fn.self (take l.event-index l.events);
  done : l.answers.items ≡ l.fn.answers.items ++ answers_of set_step l.fn.self (take l.event-index l.events);
}
