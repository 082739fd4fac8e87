-- What is said where there was no memory for the words: nothing was read, and nothing written.
use Rattle.std.proofs.Common.{ℕ, List, [], refl, Option, Some, None, Bool}
use Rattle.std.proofs.KnownBytes.{Appends-nil, Keeps-refl}
use Rattle.std.proofs.lemmas.Bool.{false≢true}
use Rattle.off_io.specs.Faults.{Rose}
use Rattle.off_io.specs.Told.{Told}
use Rattle.off_io.proofs.Telling.{Told-same}
use Rattle.offload_model.specs.Passing.{PrefixUnless, merging_whole, segmenting_whole}
use Rattle.check_totals.specs.Checking.{checking_whole}
use Rattle.offload_words.specs.declared.merge.MergeOptions.{MergeOptions}
use Rattle.offload_words.specs.declared.check.CheckOptions.{CheckOptions}
use Rattle.offload_words.specs.declared.words.Command.{Command}
use Rattle.offload_words.specs.declared.words.Command.TheVariants.{Merge, Segment, Check, Make}
use Rattle.command_answers.specs.declared.status.Status.TheVariants as statuses
use Rattle.command_answers.specs.Checking.{CheckAnswers, ChecksMade}
use Rattle.command_answers.specs.Making.{Makes}
use Rattle.command_answers.specs.Output.{options}
use Rattle.command_answers.specs.RunAnswers.{Answers, AreBlocksOf, FlowsBack, HasAnswered, Prefixes, unless_made}
use Rattle.command_answers.proofs.Prefixes.{nothing_prefix}

check_answers : (seed : Option ℕ) (o : CheckOptions) (h : Option (List ℕ)) (flushed : Bool) (untouched : Type 0) (given : List ℕ)
    → CheckAnswers seed o h h flushed untouched statuses.NoMemory given given
check_answers None o h flushed untouched given =
    (record { passes = ([], refl, (0, Appends-nil h)); flushes = λ is. absurd (false≢true is) }, Keeps-refl h)
check_answers (Some seed) o h flushed untouched given = (Keeps-refl h, refl)

answers_unread : (command : Command) (a h : Option (List ℕ)) (flushed : Bool) (untouched : Type 0) → Told a a (Answers command h h flushed untouched statuses.NoMemory)
answers_unread (Merge o) a h flushed untouched =
    Told-same a (Answers (Merge o) h h flushed untouched statuses.NoMemory)
    (λ given. record { passes = ([], refl, (0, Appends-nil h)); flushes = λ is. absurd (false≢true is) })
answers_unread (Segment o) a h flushed untouched =
    Told-same a (Answers (Segment o) h h flushed untouched statuses.NoMemory)
    (λ given. record { passes = ([], refl, (0, Appends-nil h)); flushes = λ is. absurd (false≢true is) })
answers_unread (Check o) a h flushed untouched = Told-same a (Answers (Check o) h h flushed untouched statuses.NoMemory) (λ given. check_answers o.seed o h flushed untouched given)
answers_unread (Make o) a h flushed untouched = Told-same a (Answers (Make o) h h flushed untouched statuses.NoMemory) (λ given. ((0, Appends-nil h), refl))

check_prefix : (seed : Option ℕ) (o : MergeOptions) (failed : Type 0) (a h : Option (List ℕ)) → unless_made seed (PrefixUnless failed (checking_whole o.blocks (options o)) a a h h)
check_prefix None o failed a h = nothing_prefix failed (checking_whole o.blocks (options o)) a h
check_prefix (Some seed) o failed a h = tt

prefix_unread : (command : Command) (failed : Type 0) (a h : Option (List ℕ)) → Prefixes command failed a a h h
prefix_unread (Merge o) failed a h = nothing_prefix failed (merging_whole o.blocks (options o)) a h
prefix_unread (Segment o) failed a h = nothing_prefix ⊥ (segmenting_whole o.blocks) a h
prefix_unread (Check o) failed a h = check_prefix o.seed o.merge failed a h
prefix_unread (Make o) failed a h = tt

check_made : (seed : Option ℕ) (o : CheckOptions) (h : Option (List ℕ)) (flushed : Bool) (unread : Type 0) → unread → ChecksMade seed o h h flushed unread statuses.NoMemory
check_made None o h flushed unread same = tt
check_made (Some seed) o h flushed unread same = (Keeps-refl h, same)

makes_unread : (command : Command) (h : Option (List ℕ)) (flushed : Bool) (unread : Type 0) → unread → Makes command h h flushed unread statuses.NoMemory
makes_unread (Merge o) h flushed unread same = tt
makes_unread (Segment o) h flushed unread same = tt
makes_unread (Check o) h flushed unread same = check_made o.seed o h flushed unread same
makes_unread (Make o) h flushed unread same = ((0, Appends-nil h), same)

blocks_unread : (command : Command) → AreBlocksOf command statuses.NoMemory
blocks_unread (Merge o) = tt
blocks_unread (Segment o) = tt
blocks_unread (Check o) = tt
blocks_unread (Make o) = tt

flows_unread : (command : Command) (a : Option (List ℕ)) → Told a a (FlowsBack command statuses.NoMemory)
flows_unread (Merge o) a = Told-same a (FlowsBack (Merge o) statuses.NoMemory) (λ given. tt)
flows_unread (Segment o) a = Told-same a (FlowsBack (Segment o) statuses.NoMemory) (λ given. tt)
flows_unread (Check o) a = Told-same a (FlowsBack (Check o) statuses.NoMemory) (λ given. tt)
flows_unread (Make o) a = Told-same a (FlowsBack (Make o) statuses.NoMemory) (λ given. tt)

pub answered_unread : (command : Command) (a h : Option (List ℕ)) (faults : ℕ) (flushed : Bool) (unread untouched : Type 0) → unread
    → HasAnswered command a a faults faults h h flushed unread untouched statuses.NoMemory
answered_unread command a h faults flushed unread untouched same = record {
  given = answers_unread command a h flushed untouched;
  prefix = prefix_unread command (Rose faults faults) a h;
  made = makes_unread command h flushed unread same;
  blocks = blocks_unread command;
  flows = flows_unread command a;
}
