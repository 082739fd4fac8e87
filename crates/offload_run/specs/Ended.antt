-- How a command ended: what it answers, and the engine that it leaves.
use Rattle.std.specs.Prelude.{◌≡◌, ℕ, List, Bool, Option}
use Rattle.off_io.specs.Faults.{Rose}
use Rattle.off_io.specs.Told.{Told}
use Rattle.offload_words.specs.declared.words.Command.{Command}
use Rattle.offload_run.specs.declared.engine.Engine.{Engine}
use Rattle.command_answers.specs.declared.status.Status.{Status}
use Rattle.command_answers.specs.declared.status.Status.TheVariants.{Ok}
use Rattle.offload_run.specs.Engines.{HasRun, LeavesHome}
use Rattle.command_answers.specs.Making.{Makes}
use Rattle.command_answers.specs.RunAnswers.{Answers, Prefixes, AreBlocksOf, FlowsBack}

-- A command ended so. What was left of the source and its faults, before and after; what the sink held, and whether all
-- is flushed; that the source, that the sink is as it was; and the engine that was left.
pub record HasEnded (command : Command) (left left' : Option (List ℕ)) (faults faults' : ℕ)
    (held held' : Option (List ℕ)) (is_flushed : Bool) (unread untouched : Type 0) (kept : Option Engine)
    (status : Status) : Type 0 where
  pub given : Told left left' (Answers command held held' is_flushed untouched status)
  pub prefix : Prefixes command (Rose faults faults') left left' held held'
  pub made : Makes command held held' is_flushed unread status
  pub blocks : AreBlocksOf command status
  pub flows : Told left left' (FlowsBack command status)
  pub engine : status ≡ Ok → HasRun command kept left left'
  pub home : LeavesHome command kept
