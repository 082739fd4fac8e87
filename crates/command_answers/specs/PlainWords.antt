-- The clause `given` of `run` in plain words: what a capture reads as, where it exceeds the blocks, and what is
-- written.
use Rattle.std.specs.Prelude.{◌≡◌, ◌⊎◌, ℕ, ◌+◌, ◌≤◌, ◌<◌, ◌^◌, Bool, true, is_some, if◌then◌else◌, Option, None, Some}
use Rattle.std.specs.Prelude.{List, [], ◌++◌, length, take, drop}
use Rattle.std.specs.List.{AllByRecursion}
use Rattle.std.specs.Io.KnownBytes.{Appends, Keeps}
use Rattle.off_io.specs.Content.{AppendsPrefix, SaysFlushed}
use Rattle.off_io.specs.Faults.{Rose}
use Rattle.off_io.specs.Told.{Told}
use Rattle.pcap_io.specs.declared.heads.Link.{Link}
use Rattle.pcap_io.specs.declared.heads.Link.TheVariants.{Ethernet, Offload}
use Rattle.pcap_io.specs.declared.faults.CapKind.{CapKind}
use Rattle.pcap_io.specs.Headers.{first_that_holds, file_refusals, file_head}
use Rattle.pcap_io.specs.Capture.{Packet, Found, reads, found_after}
use Rattle.pcap_io.specs.Places.{first_place}
use Rattle.pcap_io.specs.Reading.{Loses}
use Rattle.offload_model.specs.Captured.{AreCaptured}
use Rattle.offload_model.specs.Need.{exceeded_at, exceeded_record_at, packets_within, records_within}
use Rattle.offload_model.specs.Passing.{HasFileHead, FlushedBehind}
use Rattle.offload_model.specs.PassingLaws.{written_of}
use Rattle.offload_model.specs.Tested.{tested_from, reads_tested, segmented_of}
use Rattle.offload_model.specs.Written.{Options, written, segmented}
use Rattle.offload_words.specs.declared.merge.MergeOptions.{MergeOptions}
use Rattle.offload_words.specs.declared.segment.SegmentOptions.{SegmentOptions}
use Rattle.offload_words.specs.declared.check.CheckOptions.{CheckOptions}
use Rattle.offload_words.specs.declared.words.Command.TheVariants.{Merge, Segment, Check}
use Rattle.cap_make.specs.Capture.{made, made_packets}
use Rattle.check_totals.specs.Counts.{totals_of, queue_sum}
use Rattle.check_totals.specs.Lines.{check_lines, made_line}
use Rattle.command_answers.specs.declared.status.Status.{Status}
use Rattle.command_answers.specs.declared.status.Status.TheVariants as statuses
use Rattle.command_answers.specs.Output.{options}
use Rattle.command_answers.specs.RunAnswers.{Answers, Prefixes}

-- why a file header is refused, if it is
abbrev pub refusal : Link → List ℕ → Option CapKind
refusal link given = first_that_holds (file_refusals link (take 24 given))

-- ---- merging

-- the round that exceeds the blocks, and its need
abbrev pub merge_exceeds : MergeOptions → List ℕ → Option (ℕ × ℕ)
merge_exceeds o given =
    if is_some (refusal Ethernet given) then None else
    exceeded_at o.blocks o.budget (first_place (file_head (take 24 given)) Ethernet 0) (drop 24 given)

-- what is written of the rounds before it, and of all where there is none
abbrev pub written_before : MergeOptions → List ℕ → List ℕ
written_before o given =
    if is_some (refusal Ethernet given) then [] else
    written (file_head (take 24 given)) (options o) (packets_within o.blocks o.budget
    (first_place (file_head (take 24 given)) Ethernet 0) (drop 24 given))

abbrev pub MergeSays : MergeOptions → Option (List ℕ) → Option (List ℕ) → Bool → Type 0 → Status → List ℕ → List ℕ
    → Type 0
MergeSays o old new is_flushed untouched statuses.Ok given left =
    ((reads Ethernet given).fault ≡ None) × (merge_exceeds o given ≡ None) × (left ≡ [])
    × Appends old new (written_of (options o) given) × SaysFlushed new is_flushed true
MergeSays o old new is_flushed untouched statuses.Usage given left = ⊥
MergeSays o old new is_flushed untouched (statuses.Malformed fault) given left =
    ((reads Ethernet given).fault ≡ Some fault) × (merge_exceeds o given ≡ None) × Loses given left
    × Appends old new (written_of (options o) given) × FlushedBehind (HasFileHead Ethernet given)
    (SaysFlushed new is_flushed true) untouched
MergeSays o old new is_flushed untouched (statuses.PoolEmpty round need blocks) given left =
    (merge_exceeds o given ≡ Some (round, need)) × Loses given left × Appends old new (written_before o given)
    × SaysFlushed new is_flushed true
MergeSays o old new is_flushed untouched statuses.ReadFault given left =
    (gone : List ℕ) × (given ≡ gone ++ left) × (merge_exceeds o gone ≡ None)
    × Appends old new (written_of (options o) gone)
    × FlushedBehind (24 + length left ≤ length given) (SaysFlushed new is_flushed true) untouched
MergeSays o old new is_flushed untouched statuses.WriteFault given left = (gone : List ℕ) × (given ≡ gone ++ left)
    × AppendsPrefix old new (written_before o gone)
MergeSays o old new is_flushed untouched statuses.NoMemory given left = (gone : List ℕ) × (given ≡ gone ++ left)
    × AppendsPrefix old new (written_before o gone)

-- ---- segmenting

-- the record that exceeds the blocks, and its need
abbrev pub segment_exceeds : SegmentOptions → List ℕ → Option (ℕ × ℕ)
segment_exceeds o given =
    if is_some (refusal Offload given) then None else
    exceeded_record_at o.blocks (first_place (file_head (take 24 given)) Offload 0) (drop 24 given)

-- the records before it, each tested as a whole
abbrev pub tested_before : SegmentOptions → List ℕ → Found
tested_before o given =
    let found = records_within o.blocks (first_place (file_head (take 24 given)) Offload 0) (drop 24 given) in
    found_after (refusal Offload given) (tested_from 24 found.packets found.fault)

-- what is written of them
abbrev pub segmented_before : SegmentOptions → List ℕ → List ℕ
segmented_before o given =
    if is_some (refusal Offload given) then [] else segmented (file_head (take 24 given))
    (tested_before o given).packets

abbrev pub SegmentSays : SegmentOptions → Option (List ℕ) → Option (List ℕ) → Bool → Type 0 → Status → List ℕ → List ℕ
    → Type 0
SegmentSays o old new is_flushed untouched statuses.Ok given left =
    ((reads_tested given).fault ≡ None) × (segment_exceeds o given ≡ None) × (left ≡ [])
    × Appends old new (segmented_of given) × SaysFlushed new is_flushed true
SegmentSays o old new is_flushed untouched statuses.Usage given left = ⊥
SegmentSays o old new is_flushed untouched (statuses.Malformed fault) given left =
    ((tested_before o given).fault ≡ Some fault) × Loses given left
    × Appends old new (segmented_before o given) × FlushedBehind (HasFileHead Offload given)
    (SaysFlushed new is_flushed true) untouched
SegmentSays o old new is_flushed untouched (statuses.PoolEmpty round need blocks) given left =
    ((tested_before o given).fault ≡ None) × (segment_exceeds o given ≡ Some (round, need)) × Loses given left
    × Appends old new (segmented_before o given) × SaysFlushed new is_flushed true
SegmentSays o old new is_flushed untouched statuses.ReadFault given left =
    (gone : List ℕ) × (given ≡ gone ++ left) × ((tested_before o gone).fault ≡ None → segment_exceeds o gone ≡ None)
    × Appends old new (segmented_before o gone) × FlushedBehind (24 + length left ≤ length given)
    (SaysFlushed new is_flushed true) untouched
SegmentSays o old new is_flushed untouched statuses.WriteFault given left = (gone : List ℕ) × (given ≡ gone ++ left)
    × AppendsPrefix old new (segmented_before o gone)
SegmentSays o old new is_flushed untouched statuses.NoMemory given left = (gone : List ℕ) × (given ≡ gone ++ left)
    × AppendsPrefix old new (segmented_before o gone)

-- ---- checking

-- the lines of all packets; none where the file header is refused
abbrev pub checked_of : MergeOptions → List ℕ → List ℕ
checked_of o given = if is_some (refusal Ethernet given) then []
    else check_lines (totals_of (options o) (reads Ethernet given).packets)

-- of the rounds before the one that exceeds the blocks, and of all where there is none
abbrev pub checked_before : MergeOptions → List ℕ → List ℕ
checked_before o given =
    if is_some (refusal Ethernet given) then [] else
    check_lines (totals_of (options o) (packets_within o.blocks o.budget
    (first_place (file_head (take 24 given)) Ethernet 0) (drop 24 given)))

-- of a capture that is read
abbrev pub CheckSays : MergeOptions → Option (List ℕ) → Option (List ℕ) → Bool → Type 0 → Status → List ℕ → List ℕ
    → Type 0
CheckSays o old new is_flushed untouched statuses.Ok given left =
    ((reads Ethernet given).fault ≡ None) × (merge_exceeds o given ≡ None) × (left ≡ [])
    × Appends old new (checked_of o given) × SaysFlushed new is_flushed true
CheckSays o old new is_flushed untouched statuses.Usage given left = ⊥
CheckSays o old new is_flushed untouched (statuses.Malformed fault) given left =
    ((reads Ethernet given).fault ≡ Some fault) × (merge_exceeds o given ≡ None) × Loses given left
    × Appends old new (checked_of o given) × FlushedBehind (HasFileHead Ethernet given)
    (SaysFlushed new is_flushed true) untouched
CheckSays o old new is_flushed untouched (statuses.PoolEmpty round need blocks) given left =
    (merge_exceeds o given ≡ Some (round, need)) × Loses given left × Appends old new (checked_before o given)
    × SaysFlushed new is_flushed true
CheckSays o old new is_flushed untouched statuses.ReadFault given left =
    (gone : List ℕ) × (given ≡ gone ++ left) × (merge_exceeds o gone ≡ None) × Appends old new (checked_of o gone)
    × FlushedBehind (24 + length left ≤ length given) (SaysFlushed new is_flushed true) untouched
CheckSays o old new is_flushed untouched statuses.WriteFault given left = (gone : List ℕ) × (given ≡ gone ++ left)
    × AppendsPrefix old new (checked_before o gone)
CheckSays o old new is_flushed untouched statuses.NoMemory given left = Loses given left × Keeps old new

-- the lines of a generated capture, its own first
abbrev pub made_lines : ℕ → CheckOptions → List ℕ → List ℕ
made_lines seed o lines = made_line o.count (length (made seed o.count)) ++ lines

-- of a generated capture: nothing is read
abbrev pub MadeSays : ℕ → CheckOptions → Option (List ℕ) → Option (List ℕ) → Bool → Status → Type 0
MadeSays seed o old new is_flushed statuses.Ok =
    (merge_exceeds o.merge (made seed o.count) ≡ None)
    × Appends old new (made_lines seed o (check_lines (totals_of (options o.merge) (made_packets seed o.count))))
    × SaysFlushed new is_flushed true
MadeSays seed o old new is_flushed (statuses.PoolEmpty round need blocks) =
    (merge_exceeds o.merge (made seed o.count) ≡ Some (round, need))
    × Appends old new (made_lines seed o (checked_before o.merge (made seed o.count))) × SaysFlushed new is_flushed true
MadeSays seed o old new is_flushed statuses.WriteFault = AppendsPrefix old new
    (made_lines seed o (checked_before o.merge (made seed o.count)))
MadeSays seed o old new is_flushed statuses.NoMemory = Keeps old new
MadeSays seed o old new is_flushed _ = ⊥

-- on each line as many records returned as there are
abbrev pub EveryRecordReturns : Type 0
EveryRecordReturns =
    (o : Options) (packets : List Packet) → AreCaptured packets
    → AllByRecursion (λ q. q.returned ≡ q.records) (totals_of o packets).queues
    × ((queue_sum (totals_of o packets).queues).returned ≡ (queue_sum (totals_of o packets).queues).records)

-- ---- what was written whatever the status

-- Unless the source's count of faults rose, a prefix of the output that would have come of all that was given, however
-- little of it was read. `segment` says it also where that rose.
abbrev pub PrefixesInPlainWords : Type 0
PrefixesInPlainWords =
    (faults more : ℕ) (before after old new : Option (List ℕ))
    → ((o : MergeOptions) → Prefixes (Merge o) (Rose faults more) before after old new
    → Rose faults more ⊎ Told before after (λ given left. AppendsPrefix old new (written_before o given)))
    × ((o : SegmentOptions) → Prefixes (Segment o) (Rose faults more) before after old new
    → Told before after (λ given left. AppendsPrefix old new (segmented_before o given)))
    × ((o : CheckOptions) → o.seed ≡ None → Prefixes (Check o) (Rose faults more) before after old new
    → Rose faults more ⊎ Told before after (λ given left. AppendsPrefix old new (checked_before o.merge given)))

-- ---- what each answer says is this; the sink before and after is of any type

abbrev pub InPlainWords : Type 0 → Type 0
InPlainWords K =
    (old new : Option (List ℕ)) (is_flushed : Bool) (before after : K) (status : Status) (given left : List ℕ)
    → ((o : MergeOptions) → Answers (Merge o) old new is_flushed (after ≡ before) status given left
    → MergeSays o old new is_flushed (after ≡ before) status given left)
    × ((o : SegmentOptions) → Answers (Segment o) old new is_flushed (after ≡ before) status given left
    → SegmentSays o old new is_flushed (after ≡ before) status given left)
    × ((o : CheckOptions) → o.seed ≡ None → Answers (Check o) old new is_flushed (after ≡ before) status given left
    → CheckSays o.merge old new is_flushed (after ≡ before) status given left)
    × ((o : CheckOptions) (seed : ℕ) → o.seed ≡ Some seed → o.count < 2 ^ 32
    → Answers (Check o) old new is_flushed (after ≡ before) status given left
    → MadeSays seed o old new is_flushed status × (left ≡ given))
