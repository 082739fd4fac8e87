-- The engine of what a command left says what was said of that.
use Rattle.std.proofs.Common.{◌≡◌, ℕ, List, Option, None, Some}
use Rattle.std.specs.Prelude.{Bool}
use Rattle.offload_words.specs.declared.check.CheckOptions.{CheckOptions}
use Rattle.offload_words.specs.declared.words.Command.{Command}
use Rattle.rounds.specs.RoundsState.{RoundsState}
use Rattle.segmenting.specs.SegmentState.{SegmentState}
use Rattle.command_answers.specs.declared.status.Status.{Status}
use Rattle.command_answers.specs.declared.status.Status.TheVariants.{Ok}
use Rattle.command_answers.specs.RunAnswers.{HasAnswered}
use Rattle.command_rounds.specs.Leaving as rounds
use Rattle.segment_command.specs.Leaving as segments
use Rattle.check_command.specs.Leaving as checks
use Rattle.offload_run.specs.declared.engine.Engine.{Engine}
use Rattle.offload_run.specs.Ended.{HasEnded}
use Rattle.offload_run.specs.Engines.{merging, segmenting, HasMerged, HasSegmented, HasChecked, HasRun, IsMergeHome, IsSegmentHome, LeavesHome}

pub has_merged : (blocks : ℕ) (need : List ℕ → ℕ) (left : Option RoundsState) (old new : Option (List ℕ)) → rounds.HasMerged blocks need left old new
    → HasMerged blocks need (merging left) old new
has_merged blocks need None old new has = absurd has
has_merged blocks need (Some r) old new has = has

pub has_segmented : (blocks : ℕ) (need : List ℕ → ℕ) (left : Option SegmentState) (old new : Option (List ℕ)) → segments.HasSegmented blocks need left old new
    → HasSegmented blocks need (segmenting left) old new
has_segmented blocks need None old new has = absurd has
has_segmented blocks need (Some run) old new has = has

pub has_checked : (seed : Option ℕ) (o : CheckOptions) (left : Option RoundsState) (old new : Option (List ℕ)) → checks.HasChecked seed o left old new
    → HasChecked seed o (merging left) old new
has_checked None o left old new has = has_merged _ _ left old new has
has_checked (Some seed) o left old new has = has_merged _ _ left _ _ has

pub merge_home : (blocks : ℕ) (left : Option RoundsState) → rounds.IsMergeHome blocks left → IsMergeHome blocks (merging left)
merge_home blocks None home = tt
merge_home blocks (Some r) home = home

pub segment_home : (blocks : ℕ) (left : Option SegmentState) → segments.IsSegmentHome blocks left → IsSegmentHome blocks (segmenting left)
segment_home blocks None home = tt
segment_home blocks (Some run) home = home

-- what a command answers, and the engine that it leaves
pub ended : (command : Command) (left left' : Option (List ℕ)) (faults faults' : ℕ) (held held' : Option (List ℕ)) (is_flushed : Bool) (unread untouched : Type 0)
    (kept : Option Engine) (status : Status) → HasAnswered command left left' faults faults' held held' is_flushed unread untouched status
    → (status ≡ Ok → HasRun command kept left left') → LeavesHome command kept
    → HasEnded command left left' faults faults' held held' is_flushed unread untouched kept status
ended command left left' faults faults' held held' is_flushed unread untouched kept status answered engine home = record {
  given = answered.given;
  prefix = answered.prefix;
  made = answered.made;
  blocks = answered.blocks;
  flows = answered.flows;
  engine = engine;
  home = home;
}
