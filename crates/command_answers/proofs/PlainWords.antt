-- What `run` answers, in plain words.
use Rattle.std.proofs.Common.{◌≡◌, ℕ, List, [], ◌++◌, take, drop, refl, sym, ap, ◌∙◌, subst, Option, Some, None, Bool, if◌then◌else◌}
use Rattle.std.specs.Prelude.{is_some}
use Rattle.std.proofs.lemmas.Option.{none-some}
use Rattle.std.specs.Io.KnownBytes.{Appends}
use Rattle.off_io.specs.Content.{AppendsPrefix}
use Rattle.pcap_io.specs.declared.heads.Link.TheVariants.{Ethernet, Offload}
use Rattle.pcap_io.specs.declared.faults.CapKind.{CapKind}
use Rattle.pcap_io.specs.declared.faults.CapFault.{CapFault}
use Rattle.pcap_io.specs.Headers.{file_head}
use Rattle.pcap_io.specs.Capture.{Packet, Found, found_after, reads}
use Rattle.pcap_io.specs.Places.{found_at, first_place}
use Rattle.pcap_io.specs.Written.{file_bytes}
use Rattle.offload_model.specs.Need.{exceeded_at, exceeded_record_at, found_before}
use Rattle.offload_model.specs.Passing.{Nowhere, AtFault, AtRound, Passed, stop_of, behind_head, merging_whole, segmenting_whole, IsNoRound}
use Rattle.offload_model.specs.Passing as passing
use Rattle.offload_model.specs.PassingLaws.{written_of}
use Rattle.offload_model.specs.Tested.{tested_from, reads_tested, segmented_of}
use Rattle.offload_model.specs.Written.{written, segmented}
use Rattle.offload_words.specs.declared.merge.MergeOptions.{MergeOptions}
use Rattle.offload_words.specs.declared.segment.SegmentOptions.{SegmentOptions}
use Rattle.command_answers.specs.declared.status.Status.{Status}
use Rattle.command_answers.specs.declared.status.Status.TheVariants as statuses
use Rattle.command_answers.specs.Ending.{ending_of, Ends}
use Rattle.command_answers.specs.Output.{options}
use Rattle.command_answers.specs.PlainWords.{refusal, merge_exceeds, written_before, MergeSays, tested_before, segmented_before, SegmentSays}

-- ---- where a command stops

pub nowhere : (fault : Option CapFault) (e : Option (ℕ × ℕ)) → stop_of fault e ≡ Nowhere → (fault ≡ None) × (e ≡ None)
nowhere None None is = (refl, refl)
nowhere None (Some at) is = let no : ⊥ = (cc) in absurd no
nowhere (Some fault) e is = let no : ⊥ = (cc) in absurd no

pub at_fault : (fault : Option CapFault) (e : Option (ℕ × ℕ)) (f : CapFault) → stop_of fault e ≡ AtFault f → fault ≡ Some f
at_fault None None f is = let no : ⊥ = (cc) in absurd no
at_fault None (Some at) f is = let no : ⊥ = (cc) in absurd no
at_fault (Some fault) e f is = let same : fault ≡ f = (cc) in ap (λ (x : CapFault). Some x) same

pub at_round : (fault : Option CapFault) (e : Option (ℕ × ℕ)) (round need : ℕ) → stop_of fault e ≡ AtRound round need → (fault ≡ None) × (e ≡ Some (round, need))
at_round None None round need is = let no : ⊥ = (cc) in absurd no
at_round None (Some at) round need is = (refl, at_is at is)
  where
    at_is : (at : ℕ × ℕ) → AtRound at.0 at.1 ≡ AtRound round need → Some at ≡ Some (round, need)
    at_is at is =
        let first : at.0 ≡ round = (cc) in
        let second : at.1 ≡ need = (cc) in
        ap (λ (x : ℕ). Some (x, at.1)) first ∙ ap (λ (x : ℕ). Some (round, x)) second
at_round (Some fault) e round need is = let no : ⊥ = (cc) in absurd no

no_round : (fault : Option CapFault) (e : Option (ℕ × ℕ)) → IsNoRound (stop_of fault e) → fault ≡ None → e ≡ None
no_round None None is none = refl
no_round None (Some at) is none = absurd is
no_round (Some fault) e is none = absurd (none-some fault (sym none))

-- ---- behind a file header

-- what a command makes of a capture, by what was read and by the round that exceeds the blocks
pub record Is (r : Option CapKind) (found : Found) (e : Option (ℕ × ℕ)) (out : List ℕ) (passed : Passed) : Type 0 where
  pub output : passed.output ≡ (if is_some r then [] else out)
  pub stop : passed.stop ≡ stop_of (found_after r found).fault (if is_some r then None else e)

pub is_behind : (r : Option CapKind) (head out : List ℕ) (found : Found) (e : Option (ℕ × ℕ))
    → Is r found e (head ++ out) (behind_head r head (record { output = out; stop = stop_of found.fault e }))
is_behind None head out found e = record { output = refl; stop = refl }
is_behind (Some kind) head out found e = record { output = refl; stop = refl }

-- a capture without a fault has a file header, and so has one that exceeds the blocks
pub header_by_fault : (r : Option CapKind) (found : Found) → (found_after r found).fault ≡ None → r ≡ None
header_by_fault None found is = refl
header_by_fault (Some kind) found is = let no : ⊥ = (cc) in absurd no

pub header_by_round : (r : Option CapKind) (e : Option (ℕ × ℕ)) (at : ℕ × ℕ) → (if is_some r then None else e) ≡ Some at → r ≡ None
header_by_round None e at is = refl
header_by_round (Some kind) e at is = absurd (none-some at is)

-- ---- merging

pub merge_is : (o : MergeOptions) (given : List ℕ)
    → Is (refusal Ethernet given) (found_before o.budget (exceeded_at o.blocks o.budget (first_place (file_head (take 24 given)) Ethernet 0) (drop 24 given))
    (found_at (first_place (file_head (take 24 given)) Ethernet 0) (drop 24 given)))
    (exceeded_at o.blocks o.budget (first_place (file_head (take 24 given)) Ethernet 0) (drop 24 given))
    (written (file_head (take 24 given)) (options o) (found_before o.budget (exceeded_at o.blocks o.budget (first_place (file_head (take 24 given)) Ethernet 0) (drop 24 given))
    (found_at (first_place (file_head (take 24 given)) Ethernet 0) (drop 24 given))).packets)
    (merging_whole o.blocks (options o) given)
merge_is o given =
    let place = first_place (file_head (take 24 given)) Ethernet 0 in
    is_behind (refusal Ethernet given) (file_bytes (file_head (take 24 given)) Offload) (passing.merging o.blocks (options o) place (drop 24 given)).output
    (found_before o.budget (exceeded_at o.blocks o.budget place (drop 24 given)) (found_at place (drop 24 given)))
    (exceeded_at o.blocks o.budget place (drop 24 given))

-- where no round exceeds the blocks all is read and written
pub record IsAll (found all : Found) (wrote out : List ℕ) : Type 0 where
  pub read : found ≡ all
  pub written : wrote ≡ out

pub merge_all : (budget : ℕ) (r : Option CapKind) (e : Option (ℕ × ℕ)) (found : Found) (out : List Packet → List ℕ) → (if is_some r then None else e) ≡ None
    → IsAll (found_after r (found_before budget e found)) (found_after r found) (if is_some r then [] else out (found_before budget e found).packets)
    (if is_some r then [] else out (found_after r found).packets)
merge_all budget None None found out is = record { read = refl; written = refl }
merge_all budget None (Some at) found out is = absurd (none-some at (sym is))
merge_all budget (Some kind) e found out is = record { read = refl; written = refl }

-- a fault is found only where no round exceeds them
pub fault_alone : (budget : ℕ) (r : Option CapKind) (e : Option (ℕ × ℕ)) (found : Found) (f : CapFault)
    → (found_after r (found_before budget e found)).fault ≡ Some f → (if is_some r then None else e) ≡ None
fault_alone budget None None found f is = refl
fault_alone budget None (Some at) found f is = absurd (none-some f is)
fault_alone budget (Some kind) e found f is = refl

pub no_round_at : (budget : ℕ) (r : Option CapKind) (e : Option (ℕ × ℕ)) (found : Found)
    → IsNoRound (stop_of (found_after r (found_before budget e found)).fault (if is_some r then None else e)) → (if is_some r then None else e) ≡ None
no_round_at budget None None found is = refl
no_round_at budget None (Some at) found is = absurd is
no_round_at budget (Some kind) e found is = refl

all_merged : (o : MergeOptions) (given : List ℕ) → merge_exceeds o given ≡ None
    → IsAll (found_after (refusal Ethernet given) (found_before o.budget (exceeded_at o.blocks o.budget (first_place (file_head (take 24 given)) Ethernet 0) (drop 24 given))
    (found_at (first_place (file_head (take 24 given)) Ethernet 0) (drop 24 given)))) (reads Ethernet given) (written_before o given) (written_of (options o) given)
all_merged o given is =
    let place = first_place (file_head (take 24 given)) Ethernet 0 in
    merge_all o.budget (refusal Ethernet given) (exceeded_at o.blocks o.budget place (drop 24 given)) (found_at place (drop 24 given))
    (written (file_head (take 24 given)) (options o)) is

pub merge_says : (o : MergeOptions) (old new : Option (List ℕ)) (is_flushed : Bool) (untouched : Type 0) (status : Status) (given left : List ℕ)
    → Ends (passing.Answers Ethernet (merging_whole o.blocks (options o)) old new is_flushed untouched) (ending_of status) given left
    → MergeSays o old new is_flushed untouched status given left
merge_says o old new is_flushed untouched statuses.Ok given left a =
    let is = merge_is o given in
    let ends = nowhere _ _ (sym is.stop ∙ a.passes.0) in
    let all = all_merged o given ends.1 in (
      sym (ap (λ (f : Found). f.fault) all.read) ∙ ends.0,
      ends.1,
      a.passes.1,
      subst (Appends old new) (is.output ∙ all.written) a.passes.2,
      (a.flushes refl).behind (header_by_fault (refusal Ethernet given) _ ends.0),
    )
merge_says o old new is_flushed untouched statuses.Usage given left a = absurd a
merge_says o old new is_flushed untouched (statuses.Malformed fault) given left a =
    let is = merge_is o given in
    let place = first_place (file_head (take 24 given)) Ethernet 0 in
    let found = at_fault _ _ fault (sym is.stop ∙ a.passes.0) in
    let none = fault_alone o.budget (refusal Ethernet given) (exceeded_at o.blocks o.budget place (drop 24 given)) (found_at place (drop 24 given)) fault found in
    let all = all_merged o given none in (
      sym (ap (λ (f : Found). f.fault) all.read) ∙ found,
      none,
      a.passes.1,
      subst (Appends old new) (is.output ∙ all.written) a.passes.2,
      a.flushes refl,
    )
merge_says o old new is_flushed untouched (statuses.PoolEmpty round need blocks) given left a =
    let is = merge_is o given in
    let place = first_place (file_head (take 24 given)) Ethernet 0 in
    let ends = at_round _ _ round need (sym is.stop ∙ a.passes.0) in (
      ends.1,
      a.passes.1,
      subst (Appends old new) is.output a.passes.2,
      (a.flushes refl).behind (header_by_round (refusal Ethernet given) (exceeded_at o.blocks o.budget place (drop 24 given)) (round, need) ends.1),
    )
merge_says o old new is_flushed untouched statuses.ReadFault given left a =
    let gone = a.passes.0 in
    let is = merge_is o gone in
    let place = first_place (file_head (take 24 gone)) Ethernet 0 in
    let none = no_round_at o.budget (refusal Ethernet gone) (exceeded_at o.blocks o.budget place (drop 24 gone)) (found_at place (drop 24 gone))
    (subst IsNoRound is.stop a.passes.2) in (
      gone,
      a.passes.1,
      none,
      subst (Appends old new) (is.output ∙ (all_merged o gone none).written) a.passes.3,
      a.flushes refl,
    )
merge_says o old new is_flushed untouched statuses.WriteFault given left a =
    (a.passes.0, a.passes.1, subst (AppendsPrefix old new) (merge_is o a.passes.0).output a.passes.2)
merge_says o old new is_flushed untouched statuses.NoMemory given left a =
    (a.passes.0, a.passes.1, subst (AppendsPrefix old new) (merge_is o a.passes.0).output a.passes.2)

-- ---- segmenting

-- what is read before the record that exceeds the blocks, tested
abbrev tested_found : Option (ℕ × ℕ) → Found → Found
tested_found e found = tested_from 24 (found_before 1 e found).packets (found_before 1 e found).fault

abbrev segment_e : SegmentOptions → List ℕ → Option (ℕ × ℕ)
segment_e o given = exceeded_record_at o.blocks (first_place (file_head (take 24 given)) Offload 0) (drop 24 given)

abbrev segment_found : List ℕ → Found
segment_found given = found_at (first_place (file_head (take 24 given)) Offload 0) (drop 24 given)

segment_is : (o : SegmentOptions) (given : List ℕ)
    → Is (refusal Offload given) (tested_found (segment_e o given) (segment_found given)) (segment_e o given)
    (segmented (file_head (take 24 given)) (tested_found (segment_e o given) (segment_found given)).packets) (segmenting_whole o.blocks given)
segment_is o given =
    is_behind (refusal Offload given) (file_bytes (file_head (take 24 given)) Ethernet)
    (passing.segmenting o.blocks (first_place (file_head (take 24 given)) Offload 0) (drop 24 given)).output
    (tested_found (segment_e o given) (segment_found given)) (segment_e o given)

-- the bytes that are written, in the words of the rows
before_is : (r : Option CapKind) (found : Found) (out : List Packet → List ℕ)
    → (if is_some r then [] else out found.packets) ≡ (if is_some r then [] else out (found_after r found).packets)
before_is None found out = refl
before_is (Some kind) found out = refl

pub output_is : (o : SegmentOptions) (given : List ℕ) → (segmenting_whole o.blocks given).output ≡ segmented_before o given
output_is o given =
    (segment_is o given).output
    ∙ before_is (refusal Offload given) (tested_found (segment_e o given) (segment_found given)) (segmented (file_head (take 24 given)))

segment_all : (r : Option CapKind) (e : Option (ℕ × ℕ)) (found : Found) (out : List Packet → List ℕ) → (if is_some r then None else e) ≡ None
    → IsAll (found_after r (tested_found e found)) (tested_from 24 (found_after r found).packets (found_after r found).fault)
    (if is_some r then [] else out (found_after r (tested_found e found)).packets)
    (if is_some r then [] else out (tested_from 24 (found_after r found).packets (found_after r found).fault).packets)
segment_all None None found out is = record { read = refl; written = refl }
segment_all None (Some at) found out is = absurd (none-some at (sym is))
segment_all (Some kind) e found out is = record { read = refl; written = refl }

pub segment_says : (o : SegmentOptions) (old new : Option (List ℕ)) (is_flushed : Bool) (untouched : Type 0) (status : Status) (given left : List ℕ)
    → Ends (passing.Answers Offload (segmenting_whole o.blocks) old new is_flushed untouched) (ending_of status) given left
    → SegmentSays o old new is_flushed untouched status given left
segment_says o old new is_flushed untouched statuses.Ok given left a =
    let is = segment_is o given in
    let ends = nowhere _ _ (sym is.stop ∙ a.passes.0) in
    let all = segment_all (refusal Offload given) (segment_e o given) (segment_found given) (segmented (file_head (take 24 given))) ends.1 in
    let read : tested_before o given ≡ reads_tested given = all.read in
    let wrote : segmented_before o given ≡ segmented_of given = all.written in (
      sym (ap (λ (f : Found). f.fault) read) ∙ ends.0,
      ends.1,
      a.passes.1,
      subst (Appends old new) (output_is o given ∙ wrote) a.passes.2,
      (a.flushes refl).behind (header_by_fault (refusal Offload given) _ ends.0),
    )
segment_says o old new is_flushed untouched statuses.Usage given left a = absurd a
segment_says o old new is_flushed untouched (statuses.Malformed fault) given left a = (
  at_fault _ _ fault (sym (segment_is o given).stop ∙ a.passes.0),
  a.passes.1,
  subst (Appends old new) (output_is o given) a.passes.2,
  a.flushes refl,
)
segment_says o old new is_flushed untouched (statuses.PoolEmpty round need blocks) given left a =
    let ends = at_round _ _ round need (sym (segment_is o given).stop ∙ a.passes.0) in (
      ends.0,
      ends.1,
      a.passes.1,
      subst (Appends old new) (output_is o given) a.passes.2,
      (a.flushes refl).behind (header_by_fault (refusal Offload given) _ ends.0),
    )
segment_says o old new is_flushed untouched statuses.ReadFault given left a = (
  a.passes.0,
  a.passes.1,
  no_round _ _ (subst IsNoRound (segment_is o a.passes.0).stop a.passes.2),
  subst (Appends old new) (output_is o a.passes.0) a.passes.3,
  a.flushes refl,
)
segment_says o old new is_flushed untouched statuses.WriteFault given left a =
    (a.passes.0, a.passes.1, subst (AppendsPrefix old new) (output_is o a.passes.0) a.passes.2)
segment_says o old new is_flushed untouched statuses.NoMemory given left a =
    (a.passes.0, a.passes.1, subst (AppendsPrefix old new) (output_is o a.passes.0) a.passes.2)
