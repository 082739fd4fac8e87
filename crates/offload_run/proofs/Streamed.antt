-- What is said of a sink over std's writer is said of that writer.
use Rattle.std.proofs.Common.{◌≡◌, ◌∙◌, ℕ, List, [], Option, Some, None, Bool, false, ap, refl, subst}
use Rattle.std.proofs.lemmas.List.{append-nil}
use Rattle.std.specs.Prelude.{IfSome, MatchOption}
use Rattle.std.specs.Io.Buffered.{reader_remaining, writer_buffer, writer_contents, writer_inner}
use Rattle.std.specs.Io.KnownBytes.{append_known}
use Rattle.std.specs.declared.alloc.Global.{Global}
use Rattle.std.specs.declared.io.buffered.BufReader.{BufReader}
use Rattle.std.specs.declared.io.buffered.BufWriter.{BufWriter}
use Rattle.off_io.specs.Edge.{Counting, CountingSink}
use Rattle.off_io.specs.Faults.{Rose}
use Rattle.off_io.specs.Told.{Told}
use Rattle.off_io.proofs.Telling.{Told-weaker}
use Rattle.pcap_io.specs.declared.heads.Link.{Link}
use Rattle.offload_model.specs.Passing.{Ending, Passed}
use Rattle.offload_model.specs.Passing as passing
use Rattle.offload_words.specs.declared.check.CheckOptions.{CheckOptions}
use Rattle.offload_words.specs.declared.words.Command.{Command}
use Rattle.offload_words.specs.declared.words.Command.TheVariants.{Merge, Segment, Check, Make}
use Rattle.command_answers.specs.declared.status.Status.{Status}
use Rattle.command_answers.specs.declared.status.Status.TheVariants as statuses
use Rattle.command_answers.specs.Checking.{CheckAnswers}
use Rattle.command_answers.specs.Ending.{ending_of, Ends}
use Rattle.command_answers.specs.Making.{Makes}
use Rattle.command_answers.specs.RunAnswers.{Answers, AreBlocksOf, FlowsBack, Prefixes}
use Rattle.offload_run.specs.declared.engine.Engine.{Engine}
use Rattle.offload_run.specs.Engines.{HasRun, LeavesHome}
use Rattle.offload_run.specs.Streaming.{HasStreamed, Reaches}

-- ---- that the sink is as it was says that the writer is

end_passes : (link : Link) (passed : List ℕ → Passed) (old new : Option (List ℕ)) (is_flushed : Bool) (U V : Type 0) → (U → V)
    → (ending : Option Ending) (given left : List ℕ) → Ends (passing.Answers link passed old new is_flushed U) ending given left
    → Ends (passing.Answers link passed old new is_flushed V) ending given left
end_passes link passed old new is_flushed U V same None given left a = absurd a
end_passes link passed old new is_flushed U V same (Some ending) given left a = record {
  passes = a.passes;
  flushes = λ flushed. record { behind = (a.flushes flushed).behind; alone = λ none. same ((a.flushes flushed).alone none) };
}

check_passes : (seed : Option ℕ) (o : CheckOptions) (old new : Option (List ℕ)) (is_flushed : Bool) (U V : Type 0) → (U → V)
    → (status : Status) (given left : List ℕ) → CheckAnswers seed o old new is_flushed U status given left
    → CheckAnswers seed o old new is_flushed V status given left
check_passes None o old new is_flushed U V same status given left a =
    (end_passes _ _ old new is_flushed U V same (ending_of status) given left a.0, a.1)
check_passes (Some seed) o old new is_flushed U V same status given left a = a

passes : (command : Command) (old new : Option (List ℕ)) (is_flushed : Bool) (U V : Type 0) → (U → V) → (status : Status)
    (given left : List ℕ) → Answers command old new is_flushed U status given left → Answers command old new is_flushed V status given left
passes (Merge o) old new is_flushed U V same status given left a = end_passes _ _ old new is_flushed U V same (ending_of status) given left a
passes (Segment o) old new is_flushed U V same status given left a = end_passes _ _ old new is_flushed U V same (ending_of status) given left a
passes (Check o) old new is_flushed U V same status given left a = check_passes o.seed o old new is_flushed U V same status given left a
passes (Make o) old new is_flushed U V same status given left a = a

-- ---- the clauses of `run`, put together

-- what `run` says over a reader and a writer of std behind their buffers
pub record Ran {I O : Type 0} (remaining : I → Option (List ℕ)) (contents : O → Option (List ℕ)) (o : Option Command)
    (input input' : Counting (BufReader I Global)) (output output' : CountingSink (BufWriter O Global)) (engine : Option Engine)
    (status : Status) : Type 0 where
  pub given : IfSome o (λ command. Told (reader_remaining remaining input.inner) (reader_remaining remaining input'.inner)
      (Answers command (writer_contents contents output.inner) (writer_contents contents output'.inner) output'.is_flushed (output' ≡ output) status))
  pub prefix : IfSome o (λ command. Prefixes command (Rose input.faults input'.faults) (reader_remaining remaining input.inner)
      (reader_remaining remaining input'.inner) (writer_contents contents output.inner) (writer_contents contents output'.inner))
  pub made : IfSome o (λ command. Makes command (writer_contents contents output.inner) (writer_contents contents output'.inner)
      output'.is_flushed (input' ≡ input) status)
  pub blocks : IfSome o (λ command. AreBlocksOf command status)
  pub flows : IfSome o (λ command. Told (reader_remaining remaining input.inner) (reader_remaining remaining input'.inner) (FlowsBack command status))
  pub run : IfSome o (λ command. status ≡ statuses.Ok → HasRun command engine (reader_remaining remaining input.inner) (reader_remaining remaining input'.inner))
  pub home : MatchOption o (engine ≡ None) (λ command. LeavesHome command engine)

all_of : {I O : Type 0} (remaining : I → Option (List ℕ)) (contents : O → Option (List ℕ)) (o : Option Command)
    (input : BufReader I Global) (input' : Counting (BufReader I Global)) (output : BufWriter O Global) (output' : CountingSink (BufWriter O Global))
    (told : O) (engine : Option Engine) (status : Status)
    → Ran remaining contents o (record { inner = input; faults = 0 }) input' (record { inner = output; faults = 0; is_flushed = false }) output' engine status
    → (output' ≡ record { inner = output; faults = 0; is_flushed = false } → told ≡ writer_inner output)
    → Reaches (writer_contents contents output'.inner) output'.is_flushed (contents told)
    → IfSome o (λ command. HasStreamed command (reader_remaining remaining input) (reader_remaining remaining input'.inner) input'.faults
    (writer_contents contents output) (contents told) (input' ≡ record { inner = input; faults = 0 }) (told ≡ writer_inner output) engine status)
all_of remaining contents None input input' output output' told engine status ran stays reaches = tt
all_of remaining contents (Some command) input input' output output' told engine status ran stays reaches = record {
  written = writer_contents contents output'.inner;
  is_flushed = output'.is_flushed;
  ended = record {
    given = Told-weaker _ _ _ _ (passes command _ _ output'.is_flushed _ (told ≡ writer_inner output) stays status) ran.given;
    prefix = ran.prefix;
    made = ran.made;
    blocks = ran.blocks;
    flows = ran.flows;
    engine = ran.run;
    home = ran.home;
  };
  reaches = reaches;
}

-- the writer's buffer was empty
unbuffered : (known : Option (List ℕ)) → append_known known [] ≡ known
unbuffered None = refl
unbuffered (Some bytes) = ap Some (append-nil bytes)

pub streamed : {I O : Type 0} (remaining : I → Option (List ℕ)) (contents : O → Option (List ℕ)) (o : Option Command)
    (input : BufReader I Global) (input' : Counting (BufReader I Global)) (output : BufWriter O Global) (output' : CountingSink (BufWriter O Global))
    (told : O) (engine : Option Engine) (status : Status)
    → Ran remaining contents o (record { inner = input; faults = 0 }) input' (record { inner = output; faults = 0; is_flushed = false }) output' engine status
    → writer_buffer output ≡ []
    → (writer_buffer output'.inner ≡ [] → told ≡ writer_inner output'.inner)
    → Reaches (writer_contents contents output'.inner) output'.is_flushed (contents told)
    → IfSome o (λ command. HasStreamed command (reader_remaining remaining input) (reader_remaining remaining input'.inner) input'.faults
    (contents (writer_inner output)) (contents told) (input' ≡ record { inner = input; faults = 0 }) (told ≡ writer_inner output) engine status)
streamed {I} {O} remaining contents o input input' output output' told engine status ran empty unwritten reaches =
    let held : writer_contents contents output ≡ contents (writer_inner output) =
    ap (append_known (contents (writer_inner output))) empty ∙ unbuffered (contents (writer_inner output)) in
    subst (λ (h : Option (List ℕ)). IfSome o (λ command. HasStreamed command (reader_remaining remaining input) (reader_remaining remaining input'.inner) input'.faults
    h (contents told) (input' ≡ record { inner = input; faults = 0 }) (told ≡ writer_inner output) engine status)) held
    (all_of remaining contents o input input' output output' told engine status ran
    (λ same. unwritten (ap (λ (s : CountingSink (BufWriter O Global)). writer_buffer s.inner) same ∙ empty)
    ∙ ap (λ (s : CountingSink (BufWriter O Global)). writer_inner s.inner) same) reaches)
