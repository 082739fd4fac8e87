-- What `check` answers, in plain words.
use Rattle.std.proofs.Common.{◌≡◌, ◌<◌, ◌^◌, ◌+◌, ℕ, List, [], ◌∷◌, map, take, drop, refl, sym, ap, ◌∙◌, subst, Option, None, Bool, if◌then◌else◌}
use Rattle.std.specs.Prelude.{is_some}
use Rattle.std.specs.List.{AllByRecursion, range_with_len, sum_by}
use Rattle.std.proofs.lemmas.List.Sums.{sum_by-cons}
use Rattle.std.specs.Io.KnownBytes.{Appends}
use Rattle.off_io.specs.Content.{AppendsPrefix}
use Rattle.pcap_io.specs.declared.heads.Link.TheVariants.{Ethernet}
use Rattle.pcap_io.specs.Headers.{file_head}
use Rattle.pcap_io.specs.Capture.{Packet, Found, found_after, reads}
use Rattle.pcap_io.specs.Places.{found_at, first_place}
use Rattle.cap_make.specs.Capture.{made, made_packets}
use Rattle.cap_make.specs.Laws.{MadeReadsBack}
use Rattle.offload_model.specs.Need.{exceeded_at, found_before}
use Rattle.offload_model.specs.Rounds.{rounds_of}
use Rattle.offload_model.specs.Passing.{IsNoRound}
use Rattle.offload_model.specs.Written.{Options}
use Rattle.offload_words.specs.declared.merge.MergeOptions.{MergeOptions}
use Rattle.offload_words.specs.declared.check.CheckOptions.{CheckOptions}
use Rattle.check_totals.specs.declared.totals.QueueTotals.{QueueTotals}
use Rattle.offload_model.specs.Captured.{AreCaptured}
use Rattle.offload_model.proofs.Flows.{rounds_captured}
use Rattle.check_totals.proofs.Returning.{records_return}
use Rattle.check_totals.specs.Counts.{totals_of, queue_totals, queue_sum}
use Rattle.check_totals.specs.Lines.{check_lines}
use Rattle.check_totals.specs.Checking.{checking, checking_whole}
use Rattle.command_answers.specs.declared.status.Status.{Status}
use Rattle.command_answers.specs.declared.status.Status.TheVariants as statuses
use Rattle.command_answers.specs.Output.{options}
use Rattle.command_answers.specs.Checking.{ReadAnswers, CheckAnswers, ChecksTo, checking_made}
use Rattle.command_answers.specs.PlainWords.{refusal, merge_exceeds, checked_of, checked_before, CheckSays, made_lines, MadeSays, EveryRecordReturns, InPlainWords}
use Rattle.command_answers.proofs.PlainWords.{nowhere, at_fault, at_round, Is, is_behind, header_by_fault, header_by_round, IsAll, merge_all, fault_alone, no_round_at, merge_says, segment_says}

-- ---- a capture that is read

abbrev check_e : MergeOptions → List ℕ → Option (ℕ × ℕ)
check_e o given = exceeded_at o.blocks o.budget (first_place (file_head (take 24 given)) Ethernet 0) (drop 24 given)

abbrev check_found : List ℕ → Found
check_found given = found_at (first_place (file_head (take 24 given)) Ethernet 0) (drop 24 given)

abbrev lines_of : MergeOptions → List Packet → List ℕ
lines_of o packets = check_lines (totals_of (options o) packets)

pub check_is : (o : MergeOptions) (given : List ℕ)
    → Is (refusal Ethernet given) (found_before o.budget (check_e o given) (check_found given)) (check_e o given)
    (lines_of o (found_before o.budget (check_e o given) (check_found given)).packets) (checking_whole o.blocks (options o) given)
check_is o given =
    is_behind (refusal Ethernet given) [] (checking o.blocks (options o) (first_place (file_head (take 24 given)) Ethernet 0) (drop 24 given)).output
    (found_before o.budget (check_e o given) (check_found given)) (check_e o given)

all_checked : (o : MergeOptions) (given : List ℕ) → merge_exceeds o given ≡ None
    → IsAll (found_after (refusal Ethernet given) (found_before o.budget (check_e o given) (check_found given))) (reads Ethernet given) (checked_before o given) (checked_of o given)
all_checked o given is = merge_all o.budget (refusal Ethernet given) (check_e o given) (check_found given) (lines_of o) is

check_says : (o : MergeOptions) (old new : Option (List ℕ)) (is_flushed : Bool) (untouched : Type 0) (status : Status) (given left : List ℕ)
    → ReadAnswers o old new is_flushed untouched status given left → CheckSays o old new is_flushed untouched status given left
check_says o old new is_flushed untouched statuses.Ok given left a =
    let is = check_is o given in
    let ends = nowhere _ _ (sym is.stop ∙ a.0.passes.0) in
    let all = all_checked o given ends.1 in (
      sym (ap (λ (f : Found). f.fault) all.read) ∙ ends.0,
      ends.1,
      a.0.passes.1,
      subst (Appends old new) (is.output ∙ all.written) a.0.passes.2,
      (a.0.flushes refl).behind (header_by_fault (refusal Ethernet given) _ ends.0),
    )
check_says o old new is_flushed untouched statuses.Usage given left a = absurd a.0
check_says o old new is_flushed untouched (statuses.Malformed fault) given left a =
    let is = check_is o given in
    let found = at_fault _ _ fault (sym is.stop ∙ a.0.passes.0) in
    let none = fault_alone o.budget (refusal Ethernet given) (check_e o given) (check_found given) fault found in
    let all = all_checked o given none in (
      sym (ap (λ (f : Found). f.fault) all.read) ∙ found,
      none,
      a.0.passes.1,
      subst (Appends old new) (is.output ∙ all.written) a.0.passes.2,
      a.0.flushes refl,
    )
check_says o old new is_flushed untouched (statuses.PoolEmpty round need blocks) given left a =
    let is = check_is o given in
    let ends = at_round _ _ round need (sym is.stop ∙ a.0.passes.0) in (
      ends.1,
      a.0.passes.1,
      subst (Appends old new) is.output a.0.passes.2,
      (a.0.flushes refl).behind (header_by_round (refusal Ethernet given) (check_e o given) (round, need) ends.1),
    )
check_says o old new is_flushed untouched statuses.ReadFault given left a =
    let gone = a.0.passes.0 in
    let is = check_is o gone in
    let none = no_round_at o.budget (refusal Ethernet gone) (check_e o gone) (check_found gone) (subst IsNoRound is.stop a.0.passes.2) in (
      gone,
      a.0.passes.1,
      none,
      subst (Appends old new) (is.output ∙ (all_checked o gone none).written) a.0.passes.3,
      a.0.flushes refl,
    )
check_says o old new is_flushed untouched statuses.WriteFault given left a =
    (a.0.passes.0, a.0.passes.1, subst (AppendsPrefix old new) (check_is o a.0.passes.0).output a.0.passes.2)
check_says o old new is_flushed untouched statuses.NoMemory given left a = ((a.0.passes.0, a.0.passes.1), a.1)

-- ---- a generated capture

-- all of its packets are counted, where no round exceeds the blocks
made_all : MadeReadsBack → (seed : ℕ) (o : CheckOptions) → o.count < 2 ^ 32 → merge_exceeds o.merge (made seed o.count) ≡ None
    → (checking_whole o.merge.blocks (options o.merge) (made seed o.count)).output ≡ lines_of o.merge (made_packets seed o.count)
made_all law seed o few none =
    let given = made seed o.count in
    let back = law seed o.count few in
    let header = header_by_fault (refusal Ethernet given) (check_found given) (ap (λ (f : Found). f.fault) back.0) in
    (check_is o.merge given).output
    ∙ (all_checked o.merge given none).written
    ∙ ap (λ r. if is_some r then [] else lines_of o.merge (reads Ethernet given).packets) header
    ∙ ap (λ (f : Found). lines_of o.merge f.packets) back.0

made_says : MadeReadsBack → (seed : ℕ) (o : CheckOptions) (old new : Option (List ℕ)) (is_flushed : Bool) (status : Status) → o.count < 2 ^ 32
    → ChecksTo (checking_made seed o.count o.merge) old new is_flushed status → MadeSays seed o old new is_flushed status
made_says law seed o old new is_flushed statuses.Ok few a =
    let given = made seed o.count in
    let ends = nowhere _ _ (sym (check_is o.merge given).stop ∙ a.0) in (
      ends.1,
      subst (Appends old new) (ap (made_lines seed o) (made_all law seed o few ends.1)) a.1,
      a.2,
    )
made_says law seed o old new is_flushed (statuses.PoolEmpty round need blocks) few a =
    let given = made seed o.count in
    let ends = at_round _ _ round need (sym (check_is o.merge given).stop ∙ a.0) in (
      ends.1,
      subst (Appends old new) (ap (made_lines seed o) (check_is o.merge given).output) a.1,
      a.2,
    )
made_says law seed o old new is_flushed statuses.WriteFault few a =
    subst (AppendsPrefix old new) (ap (made_lines seed o) (check_is o.merge (made seed o.count)).output) a
made_says law seed o old new is_flushed statuses.NoMemory few a = a
made_says law seed o old new is_flushed statuses.Usage few a = absurd a
made_says law seed o old new is_flushed (statuses.Malformed fault) few a = absurd a
made_says law seed o old new is_flushed statuses.ReadFault few a = absurd a

-- ---- all

pub in_plain_words : MadeReadsBack → {K : Type 0} → InPlainWords K
in_plain_words law old new is_flushed before after status given left = (
  λ o a. merge_says o old new is_flushed (after ≡ before) status given left a,
  λ o a. segment_says o old new is_flushed (after ≡ before) status given left a,
  λ o none a.
      check_says o.merge old new is_flushed (after ≡ before) status given left
      (subst (λ s. CheckAnswers s o old new is_flushed (after ≡ before) status given left) none a),
  λ o seed some few a.
      let b = subst (λ s. CheckAnswers s o old new is_flushed (after ≡ before) status given left) some a in
      (made_says law seed o old new is_flushed status few b.0, b.1),
)

-- ---- records that return

abbrev Returns : QueueTotals → Type 0
Returns q = q.returned ≡ q.records

same_sum : (qs : List QueueTotals) → AllByRecursion Returns qs → sum_by (λ (q : QueueTotals). q.returned) qs ≡ sum_by (λ (q : QueueTotals). q.records) qs
same_sum [] all = refl
same_sum (q ∷ qs) all =
    sum_by-cons (λ (x : QueueTotals). x.returned) q qs
    ∙ ap (λ n. n + sum_by (λ (x : QueueTotals). x.returned) qs) all.0
    ∙ ap (λ n. q.records + n) (same_sum qs all.1)
    ∙ sym (sum_by-cons (λ (x : QueueTotals). x.records) q qs)

of_rounds : (o : Options) (q : ℕ) (rounds : List (List Packet)) → AllByRecursion AreCaptured rounds → AllByRecursion Returns (map (queue_totals o q) rounds)
of_rounds o q [] each = tt
of_rounds o q (ps ∷ rounds) each = (records_return o q ps each.0, of_rounds o q rounds each.1)

of_queues : (o : Options) (rounds : List (List Packet)) (qs : List ℕ) → AllByRecursion AreCaptured rounds → AllByRecursion Returns (map (λ q. queue_sum (map (queue_totals o q) rounds)) qs)
of_queues o rounds [] each = tt
of_queues o rounds (q ∷ qs) each = (same_sum (map (queue_totals o q) rounds) (of_rounds o q rounds each), of_queues o rounds qs each)

pub every_record_returns : EveryRecordReturns
every_record_returns o packets captured =
    let all = of_queues o (rounds_of o.budget packets) (range_with_len 0 o.queues) (rounds_captured o.budget packets captured) in
    (all, same_sum (totals_of o packets).queues all)
