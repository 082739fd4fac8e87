-- What a run over std's reader and writers leaves of them.
use Rattle.std.specs.Prelude.{◌≡◌, ℕ, List, Bool, true, Option}
use Rattle.std.specs.Io.KnownBytes.{Keeps}
use Rattle.off_io.specs.Content.{IsFrontOf}
use Rattle.offload_words.specs.declared.words.Command.{Command}
use Rattle.offload_run.specs.declared.engine.Engine.{Engine}
use Rattle.offload_run.specs.Ended.{HasEnded}
use Rattle.command_answers.specs.declared.status.Status.{Status}

-- Of the bytes that a writer of std held and that were written behind them, what it has been given: all of them where
-- they are flushed, and else the first ones.
pub record Reaches (written : Option (List ℕ)) (is_flushed : Bool) (given : Option (List ℕ)) : Type 0 where
  pub all : is_flushed ≡ true → Keeps written given
  pub front : IsFrontOf written given

-- A command ended so. What the reader had left, before and after, and how often it failed; what the writer held before,
-- and what it holds; that the reader, that the writer is as it was; and the engine that was left. `written` is what the
-- writer held and all that the command wrote.
pub record HasStreamed (command : Command) (left left' : Option (List ℕ)) (faults : ℕ) (held held' : Option (List ℕ))
    (unread untouched : Type 0) (kept : Option Engine) (status : Status) : Type 0 where
  pub written : Option (List ℕ)
  pub is_flushed : Bool
  pub ended : HasEnded command left left' 0 faults held written is_flushed unread untouched kept status
  pub reaches : Reaches written is_flushed held'
