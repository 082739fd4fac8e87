-- What each answer of the whole program says, by the command that the words ask for.
use Rattle.std.specs.Prelude.{◌≡◌, ℕ, List, Bool, Option, None, Some, ⊤}
use Rattle.off_io.specs.Faults.{Rose}
use Rattle.off_io.specs.Told.{Told}
use Rattle.pcap_io.specs.declared.heads.Link.TheVariants.{Ethernet, Offload}
use Rattle.offload_model.specs.Passing.{merging_whole, segmenting_whole, PrefixUnless}
use Rattle.check_totals.specs.Checking.{checking_whole}
use Rattle.offload_model.specs.Passing as passing
use Rattle.offload_words.specs.declared.words.Command.{Command}
use Rattle.offload_words.specs.declared.words.Command.TheVariants.{Merge, Segment, Check, Make}
use Rattle.command_answers.specs.declared.status.Status.{Status}
use Rattle.command_answers.specs.Ending.{ending_of, Ends, HasBlocks, OfRead}
use Rattle.command_answers.specs.Making.{MakeAnswers, Makes}
use Rattle.command_answers.specs.Checking.{CheckAnswers}
use Rattle.command_answers.specs.Output.{options, merged_packets, FlowsComeBack}

-- `untouched` says that the sink is as it was
abbrev pub Answers : Command → Option (List ℕ) → Option (List ℕ) → Bool → Type 0 → Status → List ℕ → List ℕ → Type 0
Answers (Merge o) old new is_flushed untouched status given left =
    Ends (passing.Answers Ethernet (merging_whole o.blocks (options o)) old new is_flushed untouched)
    (ending_of status) given left
Answers (Segment o) old new is_flushed untouched status given left =
    Ends (passing.Answers Offload (segmenting_whole o.blocks) old new is_flushed untouched)
    (ending_of status) given left
Answers (Check o) old new is_flushed untouched status given left = CheckAnswers o.seed o old new is_flushed untouched
    status given left
Answers (Make o) old new is_flushed untouched status given left = MakeAnswers o old new is_flushed status
    × (left ≡ given)

-- what is said of a capture that is read; with a seed none is
abbrev pub unless_made : Option ℕ → Type 0 → Type 0
unless_made None told = told
unless_made (Some seed) told = ⊤

-- A prefix of what the command writes of all that was given, however little of it was read; where the source failed
-- nothing more is said than by the ending. What is generated is told apart.
abbrev pub Prefixes : Command → Type 0 → Option (List ℕ) → Option (List ℕ) → Option (List ℕ) → Option (List ℕ) → Type 0
Prefixes (Merge o) failed before after old new = PrefixUnless failed
    (merging_whole o.blocks (options o)) before after old new
Prefixes (Segment o) failed before after old new = PrefixUnless ⊥ (segmenting_whole o.blocks) before after old new
Prefixes (Check o) failed before after old new = unless_made o.seed
    (PrefixUnless failed (checking_whole o.merge.blocks (options o.merge)) before after old new)
Prefixes (Make o) failed before after old new = ⊤

-- the blocks of a pool that is empty are those that the command asks for
abbrev pub AreBlocksOf : Command → Status → Type 0
AreBlocksOf (Merge o) status = HasBlocks o.blocks status
AreBlocksOf (Segment o) status = HasBlocks o.blocks status
AreBlocksOf (Check o) status = HasBlocks o.merge.blocks status
AreBlocksOf (Make o) status = ⊤

-- every flow comes back of what `merge` makes of what was read
abbrev pub FlowsBack : Command → Status → List ℕ → List ℕ → Type 0
FlowsBack (Merge o) status given left = OfRead (λ read. FlowsComeBack (options o)
    (merged_packets o.blocks o.budget read)) status given left
FlowsBack _ status given left = ⊤

-- A command answered so. What was left of the source and its faults, before and after; what the sink held, and whether
-- all is flushed; that the source, that the sink is as it was.
pub record HasAnswered (command : Command) (left left' : Option (List ℕ)) (faults faults' : ℕ)
    (held held' : Option (List ℕ)) (is_flushed : Bool) (unread untouched : Type 0) (status : Status) : Type 0 where
  pub given : Told left left' (Answers command held held' is_flushed untouched status)
  pub prefix : Prefixes command (Rose faults faults') left left' held held'
  pub made : Makes command held held' is_flushed unread status
  pub blocks : AreBlocksOf command status
  pub flows : Told left left' (FlowsBack command status)
