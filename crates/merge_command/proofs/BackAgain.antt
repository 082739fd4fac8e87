-- Every flow comes back of what merging makes of some bytes; and what is said where nothing was read.
use Rattle.std.proofs.Common.{◌≡◌, ℕ, ◌*◌, ◌<◌, List, [], ◌++◌, length, length-append, length-take, take, drop, sym, ap, ◌∙◌, subst, arith, append_assoc, take-append-drop, Option, Some, None}
use Rattle.std.proofs.Common.{Ok, Err, Bool, true, if◌then◌else◌}
use Rattle.std.specs.Prelude.{is_some, nat_lt}
use Rattle.std.specs.List.{AllByRecursion}
use Rattle.std.proofs.lemmas.Bool.{lt-ltb}
use Rattle.std.proofs.lemmas.List.{take_at, drop_at, length-take-le}
use Rattle.off_io.specs.Told.{Told}
use Rattle.off_io.proofs.Telling.{Told-weaker, Told-then}
use Rattle.maximal_runs.specs.Cut.{AllNeighbours}
use Rattle.pcap_io.specs.declared.faults.CapKind.{CapKind}
use Rattle.pcap_io.specs.declared.faults.CapKind.TheVariants.{ShortHeader}
use Rattle.pcap_io.specs.declared.faults.InFault.{InFault}
use Rattle.pcap_io.specs.declared.faults.InFault.TheVariants.{Cap, ReadFault}
use Rattle.pcap_io.specs.declared.heads.FileHead.{FileHead}
use Rattle.pcap_io.specs.declared.heads.Link.TheVariants.{Ethernet}
use Rattle.pcap_io.specs.Headers.{first_that_holds, file_refusals, file_head}
use Rattle.pcap_io.specs.Capture.{Packet, Found}
use Rattle.pcap_io.specs.Places.{first_place, found_at}
use Rattle.pcap_io.specs.Reading.{GivesFile}
use Rattle.frame_layout.proofs.Choices.{queue_below}
use Rattle.offload_model.specs.Captured.{IsCaptured, AreOptions}
use Rattle.offload_model.specs.Written.{Options}
use Rattle.offload_model.specs.Need.{exceeded_at, found_before, packets_within}
use Rattle.offload_model.proofs.Lists.{near_taken}
use Rattle.offload_model.proofs.Flows.{flows_come_back}
use Rattle.offload_words.specs.declared.merge.MergeOptions.{MergeOptions}
use Rattle.offload_words.specs.Merge.{IsInRange}
use Rattle.command_answers.specs.declared.status.Status.{Status}
use Rattle.command_answers.specs.declared.status.Status.TheVariants as statuses
use Rattle.command_answers.specs.Ending.{OfRead, IsStatusFor}
use Rattle.command_answers.specs.Output.{options, merged_packets, AreCapturedWithin, FlowsComeBack}
use Rattle.merge_command.proofs.Numbered.{records_rising}

-- ---- what is merged

rising_before : (budget : ℕ) (exceeded : Option (ℕ × ℕ)) (found : Found) → AllNeighbours (λ p q. p.number < q.number) found.packets → AllNeighbours (λ p q. p.number < q.number)
    (found_before budget exceeded found).packets
rising_before budget None found r = r
rising_before budget (Some at) found r = near_taken (λ (p q : Packet). p.number < q.number) (at.0 * budget) found.packets r

-- the packets of these bytes that are merged
abbrev merged_at : Option CapKind → ℕ → ℕ → List ℕ → List Packet
merged_at refused blocks budget given =
    if is_some refused then [] else packets_within blocks budget (first_place (file_head (take 24 given)) Ethernet 0) (drop 24 given)

merged_rising : (refused : Option CapKind) (blocks budget : ℕ) (given : List ℕ) → AllNeighbours (λ p q. p.number < q.number) (merged_at refused blocks budget given)
merged_rising (Some kind) blocks budget given = tt
merged_rising None blocks budget given =
    let place = first_place (file_head (take 24 given)) Ethernet 0 in
    rising_before budget (exceeded_at blocks budget place (drop 24 given)) (found_at place (drop 24 given)) (records_rising place.file place.offset (drop 24 given))

-- options in their ranges
pub lawful_options : (o : MergeOptions) → IsInRange o → AreOptions (options o)
lawful_options o range = record { budget = range.2; some = range.0; queues = range.1; below = λ key. queue_below o.choice o.queues key range.0 range.10; taps = range.5 }

-- packets that are captured each come back
flows_back : (blocks : ℕ) (o : Options) → AreOptions o → (given : List ℕ) → AllByRecursion IsCaptured (merged_packets blocks o.budget given) → FlowsComeBack o (merged_packets blocks o.budget given)
flows_back blocks o lawful given each =
    flows_come_back o (merged_packets blocks o.budget given) lawful
    (record { each = each; rising = merged_rising (first_that_holds (file_refusals Ethernet (take 24 given))) blocks o.budget given })

-- where the file header is refused there are none
none_merged : (blocks : ℕ) (o : Options) → AreOptions o → (given : List ℕ) (kind : CapKind) → first_that_holds (file_refusals Ethernet (take 24 given)) ≡ Some kind
    → FlowsComeBack o (merged_packets blocks o.budget given)
none_merged blocks o lawful given kind refused =
    flows_back blocks o lawful given (subst (λ (r : Option CapKind). AllByRecursion IsCaptured (merged_at r blocks o.budget given)) (sym refused) tt)

-- behind a lawful one stand those that were read
behind_merged : (blocks : ℕ) (o : Options) → AreOptions o → (file : FileHead) (given rest : List ℕ) → GivesFile Ethernet (Ok file) given rest
    → AreCapturedWithin blocks o.budget (first_place file Ethernet 0) rest
    → FlowsComeBack o (merged_packets blocks o.budget given)
behind_merged blocks o lawful file given rest gives each =
    flows_back blocks o lawful given
    (subst (λ (r : Option CapKind). AllByRecursion IsCaptured (merged_at r blocks o.budget given)) (sym gives.1)
    (subst (λ (f : FileHead). AreCapturedWithin blocks o.budget (first_place f Ethernet 0) (drop 24 given)) gives.2
    (subst (AreCapturedWithin blocks o.budget (first_place file Ethernet 0)) gives.3 each)))

-- a file header that was taken is taken again, whatever follows it
file_again : (file : FileHead) (given rest more : List ℕ) → GivesFile Ethernet (Ok file) given rest → GivesFile Ethernet (Ok file) (take 24 given ++ more) more
file_again file given rest more gives =
    let front = take 24 given in
    let size : length front ≡ 24 = length-take-le 24 given gives.0 in
    let same : take 24 (front ++ more) ≡ front = take_at front more 24 size in (
      omega (arith, size, length-append front more),
      ap (λ (xs : List ℕ). first_that_holds (file_refusals Ethernet xs)) same ∙ gives.1,
      gives.2 ∙ ap file_head (sym same),
      sym (drop_at front more 24 size),
    )

-- ---- by what was read

module _ (blocks : ℕ) (o : Options) (lawful : AreOptions o) where
  abbrev Back : List ℕ → Type 0
  Back read = FlowsComeBack o (merged_packets blocks o.budget read)

  -- fewer than 24 bytes are gone
  no_header : (given left : List ℕ) → GivesFile Ethernet (Err ReadFault) given left → OfRead Back statuses.ReadFault given left
  no_header given left gives =
      let front = gives.0 in
      let test : nat_lt (length (take 24 front)) 24 ≡ true = lt-ltb _ _ (omega (arith, length-take 24 front, gives.2)) in
      let refused : first_that_holds (file_refusals Ethernet (take 24 front)) ≡ Some ShortHeader =
      ap (λ (v : Bool). if v then Some ShortHeader else first_that_holds (drop 1 (file_refusals Ethernet (take 24 front)))) test in
      (front, gives.1, none_merged blocks o lawful front ShortHeader refused)

  -- a file header that is refused or can't be read
  pub no_file_back : (a b : Option (List ℕ)) (fault : InFault) (status : Status) → IsStatusFor fault status → Told a b (GivesFile Ethernet (Err fault)) → Told a b (OfRead Back status)
  no_file_back a b (Cap fault) status is told =
      subst (λ (s : Status). Told a b (OfRead Back s)) (sym is)
      (Told-weaker a b (GivesFile Ethernet (Err (Cap fault))) (OfRead Back (statuses.Malformed fault)) (λ given left gives. none_merged blocks o lawful given fault.kind gives.0.0) told)
  no_file_back a b ReadFault status is told =
      subst (λ (s : Status). Told a b (OfRead Back s)) (sym is)
      (Told-weaker a b (GivesFile Ethernet (Err ReadFault)) (OfRead Back statuses.ReadFault) (λ given left gives. no_header given left gives) told)

  -- the file header was not wholly written
  pub head_failed_back : (a b : Option (List ℕ)) (file : FileHead) → Told a b (GivesFile Ethernet (Ok file)) → Told a b (OfRead Back statuses.WriteFault)
  head_failed_back a b file told = Told-weaker a b (GivesFile Ethernet (Ok file)) (OfRead Back statuses.WriteFault) (λ given left gives. tt) told

  back_behind : (file : FileHead) (status : Status) (given rest left : List ℕ) → GivesFile Ethernet (Ok file) given rest → OfRead (AreCapturedWithin blocks o.budget (first_place file Ethernet 0))
      status rest left
      → OfRead Back status given left
  back_behind file statuses.Ok given rest left gives each = behind_merged blocks o lawful file given rest gives each
  back_behind file (statuses.Malformed fault) given rest left gives each = behind_merged blocks o lawful file given rest gives each
  back_behind file (statuses.PoolEmpty round need made) given rest left gives each = behind_merged blocks o lawful file given rest gives each
  back_behind file statuses.ReadFault given rest left gives each =
      let front = take 24 given in (
        front ++ each.0,
        sym (take-append-drop 24 given) ∙ ap (λ (l : List ℕ). front ++ l) (sym gives.3 ∙ each.1) ∙ sym (append_assoc front each.0 left),
        behind_merged blocks o lawful file (front ++ each.0) each.0 (file_again file given rest each.0 gives) each.2,
      )
  back_behind file statuses.Usage given rest left gives each = tt
  back_behind file statuses.WriteFault given rest left gives each = tt
  back_behind file statuses.NoMemory given rest left gives each = tt

  -- what was read behind a file header
  pub whole_back : (a b c : Option (List ℕ)) (file : FileHead) (status : Status) → Told a b (GivesFile Ethernet (Ok file)) → Told b c (OfRead
      (AreCapturedWithin blocks o.budget (first_place file Ethernet 0)) status)
      → Told a c (OfRead Back status)
  whole_back a b c file status first second =
      Told-then a b c (GivesFile Ethernet (Ok file)) (OfRead (AreCapturedWithin blocks o.budget (first_place file Ethernet 0)) status) (OfRead Back status)
      (λ given rest left gives each. back_behind file status given rest left gives each) first second
