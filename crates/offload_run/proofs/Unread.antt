-- What is said where there was no memory for the words: nothing was read, and nothing written.
use Rattle.std.proofs.Common.{◌≡◌, ℕ, List, [], sym, subst, Option, Some, None, Bool}
use Rattle.std.specs.Prelude.{IfSome, MatchOption}
use Rattle.offload_words.specs.declared.words.Command.{Command}
use Rattle.offload_words.specs.declared.words.Command.TheVariants.{Merge, Segment, Check, Make}
use Rattle.offload_run.specs.declared.engine.Engine.{Engine}
use Rattle.command_answers.specs.declared.status.Status.TheVariants as statuses
use Rattle.command_answers.specs.Ending.{OfRead}
use Rattle.offload_run.specs.Engines.{LeavesHome, IsMergeHome, IsSegmentHome}
use Rattle.offload_run.specs.Ended.{HasEnded}
use Rattle.command_answers.proofs.Unread.{answered_unread}

home_unread : (command : Command) (engine : Option Engine) → engine ≡ None → LeavesHome command engine
home_unread (Merge o) engine none = subst (IsMergeHome o.blocks) (sym none) tt
home_unread (Segment o) engine none = subst (IsSegmentHome o.blocks) (sym none) tt
home_unread (Check o) engine none = subst (IsMergeHome o.merge.blocks) (sym none) tt
home_unread (Make o) engine none = none

pub ended_unread : (o : Option Command) (a h : Option (List ℕ)) (faults : ℕ) (flushed : Bool) (unread untouched : Type 0) (engine : Option Engine) → unread → engine ≡ None
    → IfSome o (λ command. HasEnded command a a faults faults h h flushed unread untouched engine statuses.NoMemory)
ended_unread None a h faults flushed unread untouched engine same none = tt
ended_unread (Some command) a h faults flushed unread untouched engine same none =
    let answered = answered_unread command a h faults flushed unread untouched same in
    record {
      given = answered.given;
      prefix = answered.prefix;
      made = answered.made;
      blocks = answered.blocks;
      flows = answered.flows;
      engine = λ ok. absurd (subst (λ status. OfRead (λ _. ⊥) status [] []) ok tt);
      home = home_unread command engine none;
    }

pub none_left : (o : Option Command) (engine : Option Engine) → engine ≡ None → MatchOption o (engine ≡ None) (λ command. LeavesHome command engine)
none_left None engine none = none
none_left (Some command) engine none = home_unread command engine none
