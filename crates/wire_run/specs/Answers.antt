-- What each answer of wire says of the capture that is read, and of what is written.
use Rattle.std.specs.Prelude.{◌≡◌, ℕ, List, Bool, Option}
use Rattle.off_io.specs.Told.{Told}
use Rattle.pcap_io.specs.declared.heads.Link.TheVariants.{Ethernet}
use Rattle.pcap_io.specs.Capture.{reads}
use Rattle.offload_model.specs.Passing.{Answers, PrefixUnless}
use Rattle.command_answers.specs.declared.status.Status.{Status}
use Rattle.command_answers.specs.declared.status.Status.TheVariants.{Ok}
use Rattle.command_answers.specs.Ending.{ending_of, Ends, HasBlocks}
use Rattle.wire_model.specs.declared.counts.Counts.{Counts}
use Rattle.wire_model.specs.Counting.{counts_of}
use Rattle.wire_model.specs.Passing.{wiring_whole}
use Rattle.wire_words.specs.declared.words.WireOptions.{WireOptions}

-- what is read and written for a status; `untouched` says that the sink is as it was
abbrev pub WireAnswers : WireOptions → Option (List ℕ) → Option (List ℕ) → Bool → Type 0 → Status → List ℕ → List ℕ
    → Type 0
WireAnswers o old new is_flushed untouched status given left =
    Ends (Answers Ethernet (wiring_whole o.blocks o.wiring) old new is_flushed untouched) (ending_of status) given left

-- whatever the status, a prefix of what comes of all that was given was written, however little of it was read
abbrev pub WritesFront : WireOptions → Option (List ℕ) → Option (List ℕ) → Option (List ℕ) → Option (List ℕ) → Type 0
WritesFront o before after old new = PrefixUnless ⊥ (wiring_whole o.blocks o.wiring) before after old new

-- at the end of the capture all of its packets were counted
abbrev pub CountsAll : WireOptions → Counts → Status → Option (List ℕ) → Option (List ℕ) → Type 0
CountsAll o counts status before after =
    status ≡ Ok → Told before after (λ given left. counts ≡ counts_of o.wiring (reads Ethernet given).packets)

-- A whole capture was wired so. What was left of the source and what the sink held, before and after; whether all is
-- flushed; that the sink is as it was; what was counted.
pub record HasWired (o : WireOptions) (before after held held' : Option (List ℕ)) (is_flushed : Bool)
    (untouched : Type 0) (tally : Counts) (status : Status) : Type 0 where
  pub given : Told before after (WireAnswers o held held' is_flushed untouched status)
  pub prefix : WritesFront o before after held held'
  pub blocks : HasBlocks o.blocks status
  pub counts : CountsAll o tally status before after
