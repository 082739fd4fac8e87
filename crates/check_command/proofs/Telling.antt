-- What `check` writes, by what was counted.
use Rattle.std.proofs.Common.{◌≡◌, ◌<◌, ◌^◌, ℕ, List, [], ◌++◌, length, drop, refl, sym, ap, ◌∙◌, subst, Option, None, Some, Ok, Err, Bool, true, ◌⊎◌, ⊎_elim, inl, inr}
use Rattle.std.specs.Io.KnownBytes.{Appends, Keeps}
use Rattle.std.proofs.KnownBytes.{Appends-nil, Appends-kept, Keeps-refl}
use Rattle.std.proofs.lemmas.Bool.{false≢true}
use Rattle.off_io.specs.Content.{AppendsPrefix, SaysFlushed}
use Rattle.off_io.specs.Told.{Told}
use Rattle.off_io.proofs.Telling.{Told-then, Told-same, Told-weaker}
use Rattle.off_io.proofs.Owing.{prefix_whole}
use Rattle.pcap_io.specs.declared.heads.FileHead.{FileHead}
use Rattle.pcap_io.specs.declared.heads.Link.TheVariants.{Ethernet}
use Rattle.pcap_io.specs.declared.place.Place.{Place}
use Rattle.pcap_io.specs.declared.faults.CapFault.{CapFault}
use Rattle.pcap_io.specs.declared.faults.InFault.{InFault}
use Rattle.pcap_io.specs.declared.faults.InFault.TheVariants as faults
use Rattle.pcap_io.specs.Capture.{Found, reads}
use Rattle.pcap_io.specs.Places.{first_place, found_at}
use Rattle.pcap_io.specs.Reading.{GivesFile}
use Rattle.cap_make.specs.Capture.{made}
use Rattle.cap_make.specs.Laws.{MadeReadsBack}
use Rattle.offload_model.specs.Need.{exceeded_at, found_before}
use Rattle.offload_model.specs.Passing.{Passed, Ending, Stop, Stopped, Nowhere, AtFault, AtRound, Passes, stop_of}
use Rattle.offload_model.specs.Passing as passing
use Rattle.offload_model.specs.Written.{Options}
use Rattle.offload_words.specs.declared.merge.MergeOptions.{MergeOptions}
use Rattle.rounds.specs.RoundsState.{RoundsState}
use Rattle.rounds.specs.Merging.{options_of as rounds_options}
use Rattle.check_totals.specs.Counts.{Counts, totals_of}
use Rattle.check_totals.specs.Lines.{check_lines, made_line}
use Rattle.check_totals.specs.Checking.{counting, checking, checking_whole}
use Rattle.check_totals.specs.Tallies.{Tallies, TotalsAreTold}
use Rattle.checking.specs.declared.counting.CheckEnd.{CheckEnd}
use Rattle.checking.specs.declared.counting.CheckEnd.TheVariants as ends
use Rattle.checking.specs.Handling.{ending_of as check_ending}
use Rattle.command_answers.specs.declared.status.Status.{Status}
use Rattle.command_answers.specs.declared.status.Status.TheVariants as statuses
use Rattle.command_answers.specs.Ending.{ending_of, Ends, FlushesAt, IsStatusFor}
use Rattle.command_answers.specs.Output.{options}
use Rattle.command_rounds.specs.Plans.{plan_of}
use Rattle.command_answers.specs.Checking.{KeepsAt, ReadAnswers, checking_made, ChecksTo}
use Rattle.check_command.specs.Checking.{status_if, LinesEnd, Tells, Checked}
use Rattle.check_command.proofs.Lining.{lined_of, whole_lined, no_lines}
use Rattle.command_answers.proofs.Used.{reads_is}

-- ---- a capture that is read

record Says (blocks : ℕ) (o : Options) (place : Place) (old new : Option (List ℕ)) (is_flushed : Bool) (status : Status) (bytes left : List ℕ) : Type 0 where
  pub passes : Ends (Passes (checking blocks o place) old new) (ending_of status) bytes left
  pub flushes : FlushesAt new is_flushed (ending_of status)
  pub keeps : KeepsAt old new status

failed_says : (blocks : ℕ) (o : Options) (place : Place) (old new : Option (List ℕ)) (is_flushed : Bool) (bytes left : List ℕ)
    → Passes (checking blocks o place) old new passing.WriteFault bytes left → Says blocks o place old new is_flushed statuses.WriteFault bytes left
failed_says blocks o place old new is_flushed bytes left p = record { passes = p; flushes = λ is. absurd (false≢true is); keeps = tt }

-- all lines, or a prefix of them
lines_say : (blocks : ℕ) (o : Options) (place : Place) (old new : Option (List ℕ)) (is_flushed : Bool) (lines : List ℕ) (end status : Status) (bytes left : List ℕ)
    → (Appends old new lines → SaysFlushed new is_flushed true → Says blocks o place old new is_flushed end bytes left)
    → (AppendsPrefix old new lines → Passes (checking blocks o place) old new passing.WriteFault bytes left)
    → LinesEnd old new is_flushed lines end status → Says blocks o place old new is_flushed status bytes left
lines_say blocks o place old new is_flushed lines end status bytes left whole front told =
    let S : Status → Type 0 = λ s. Says blocks o place old new is_flushed s bytes left in
    ⊎_elim (λ p. subst S (sym p.0) (whole p.1 p.2)) (λ p. subst S (sym p.0) (failed_says blocks o place old new is_flushed bytes left (front p.1))) told

says : TotalsAreTold → (blocks : ℕ) (o : Options) (place : Place) (totals : Counts) (old new : Option (List ℕ)) (is_flushed : Bool) (status : Status) (bytes left : List ℕ)
    (end : CheckEnd) → Tallies (counting blocks o place) (totals_of o []) totals (check_ending end) bytes left
    → Tells old new is_flushed (check_lines totals) (status_if end blocks) status → Says blocks o place old new is_flushed status bytes left
says law blocks o place totals old new is_flushed status bytes left ends.Done counted told =
    let tell = law blocks o place totals old new bytes left in
    lines_say blocks o place old new is_flushed (check_lines totals) statuses.Ok status bytes left
    (λ wrote flushed. record { passes = tell.stopped Nowhere counted wrote; flushes = λ is. flushed; keeps = tt })
    (tell.failed Nowhere counted) told
says law blocks o place totals old new is_flushed status bytes left (ends.Malformed fault) counted told =
    let tell = law blocks o place totals old new bytes left in
    lines_say blocks o place old new is_flushed (check_lines totals) (statuses.Malformed fault) status bytes left
    (λ wrote flushed. record { passes = tell.stopped (AtFault fault) counted wrote; flushes = λ is. flushed; keeps = tt })
    (tell.failed (AtFault fault) counted) told
says law blocks o place totals old new is_flushed status bytes left (ends.PoolEmpty round need) counted told =
    let tell = law blocks o place totals old new bytes left in
    lines_say blocks o place old new is_flushed (check_lines totals) (statuses.PoolEmpty round need blocks) status bytes left
    (λ wrote flushed. record { passes = tell.stopped (AtRound round need) counted wrote; flushes = λ is. flushed; keeps = tt })
    (tell.failed (AtRound round need) counted) told
says law blocks o place totals old new is_flushed status bytes left ends.ReadFault counted told =
    let tell = law blocks o place totals old new bytes left in
    lines_say blocks o place old new is_flushed (check_lines totals) statuses.ReadFault status bytes left
    (λ wrote flushed. record { passes = tell.read_fault counted wrote; flushes = λ is. flushed; keeps = tt })
    (tell.both_failed counted) told
says law blocks o place totals old new is_flushed status bytes left ends.NoMemory counted told =
    let tell = law blocks o place totals old new bytes left in
    subst (λ (s : Status). Says blocks o place old new is_flushed s bytes left) (sym told.0)
    (record {
      passes = tell.no_memory counted (Appends-kept old old new [] (Appends-nil old) told.1);
      flushes = λ is. absurd (false≢true is);
      keeps = told.1;
    })

-- behind a file header
by_ending : (blocks : ℕ) (o : MergeOptions) (file : FileHead) (old new : Option (List ℕ)) (is_flushed : Bool) (untouched : Type 0) (e : Option Ending) (given rest left : List ℕ)
    → GivesFile Ethernet (Ok file) given rest → Ends (Passes (checking blocks (options o) (first_place file Ethernet 0)) old new) e rest left → FlushesAt new is_flushed e
    → Ends (passing.Answers Ethernet (checking_whole blocks (options o)) old new is_flushed untouched) e given left
by_ending blocks o file old new is_flushed untouched None given rest left gives p flush = absurd p
by_ending blocks o file old new is_flushed untouched (Some ending) given rest left gives p flush =
    whole_lined (checking blocks (options o)) old new is_flushed untouched file ending given rest left gives p flush

pub read_given : TotalsAreTold → (o : MergeOptions) (a b c : Option (List ℕ)) (file : FileHead) (old new : Option (List ℕ)) (is_flushed : Bool) (untouched rose : Type 0) (status : Status)
    → Told a b (GivesFile Ethernet (Ok file))
    → Told b c (Checked [] o.blocks (options o) (first_place file Ethernet 0) old new is_flushed rose status)
    → Told a c (ReadAnswers o old new is_flushed untouched status)
read_given law o a b c file old new is_flushed untouched rose status first next =
    Told-then a b c (GivesFile Ethernet (Ok file)) (Checked [] o.blocks (options o) (first_place file Ethernet 0) old new is_flushed rose status)
    (ReadAnswers o old new is_flushed untouched status)
    (λ given rest left gives checked.
    let s = says law o.blocks (options o) (first_place file Ethernet 0) checked.totals old new is_flushed status rest left checked.end checked.counted checked.told in
    (by_ending o.blocks o file old new is_flushed untouched (ending_of status) given rest left gives s.passes s.flushes, s.keeps)) first next

-- a file header that is refused or can't be read
pub refused_given : (o : MergeOptions) (a b old : Option (List ℕ)) (is_flushed : Bool) (untouched : Type 0) (fault : InFault) (status : Status)
    → untouched → IsStatusFor fault status → Told a b (GivesFile Ethernet (Err fault)) → Told a b (ReadAnswers o old old is_flushed untouched status)
refused_given o a b old is_flushed untouched (faults.Cap fault) status same is told =
    subst (λ (s : Status). Told a b (ReadAnswers o old old is_flushed untouched s)) (sym is)
    (Told-weaker a b (Ends (passing.Answers Ethernet (checking_whole o.blocks (options o)) old old is_flushed untouched) (ending_of (statuses.Malformed fault)))
    (ReadAnswers o old old is_flushed untouched (statuses.Malformed fault)) (λ given left a. (a, tt))
    (no_lines (checking o.blocks (options o)) a b old is_flushed untouched (faults.Cap fault) (statuses.Malformed fault) same refl told))
refused_given o a b old is_flushed untouched faults.ReadFault status same is told =
    subst (λ (s : Status). Told a b (ReadAnswers o old old is_flushed untouched s)) (sym is)
    (Told-weaker a b (Ends (passing.Answers Ethernet (checking_whole o.blocks (options o)) old old is_flushed untouched) (ending_of statuses.ReadFault))
    (ReadAnswers o old old is_flushed untouched statuses.ReadFault) (λ given left a. (a, tt))
    (no_lines (checking o.blocks (options o)) a b old is_flushed untouched faults.ReadFault statuses.ReadFault same refl told))

-- ---- how it ends

-- all lines were written, and then the sink was flushed, or failed
pub lines_flushed : (a b c : Option (List ℕ)) (is_flushed : Bool) (lines : List ℕ) (end status : Status) → Appends a b lines → Keeps b c
    → (status ≡ end) ⊎ (status ≡ statuses.WriteFault) → (status ≡ statuses.WriteFault) ⊎ SaysFlushed c is_flushed true → LinesEnd a c is_flushed lines end status
lines_flushed a b c is_flushed lines end status wrote kept answer flush =
    let all : Appends a c lines = Appends-kept a b c lines wrote kept in
    let failed : status ≡ statuses.WriteFault → LinesEnd a c is_flushed lines end status = λ e. inr (e, prefix_whole a c lines all) in
    ⊎_elim (λ ok. ⊎_elim failed (λ says. inl (ok, all, says)) flush) failed answer

-- there was no memory to count anything
pub none_checked : (first : List ℕ) (blocks : ℕ) (o : Options) (place : Place) (a old : Option (List ℕ)) (is_flushed : Bool) (rose : Type 0)
    → Told a a (Checked first blocks o place old old is_flushed rose statuses.NoMemory)
none_checked first blocks o place a old is_flushed rose =
    Told-same a (Checked first blocks o place old old is_flushed rose statuses.NoMemory)
    (λ bytes. record {
      end = ends.NoMemory;
      totals = totals_of o [];
      counted = ([], refl);
      told = (refl, Keeps-refl old);
      read = λ e. let no : ⊥ = (cc) in absurd no;
    })

-- the rounds that are made of these options
abbrev fresh : MergeOptions → RoundsState → RoundsState
fresh o rounds = record {
  stock = rounds.stock;
  blocks = o.blocks;
  taken = 0;
  empties = 0;
  pauses = 0;
  spares = record { lent = 0; given = 0; refused = 0 };
  budget = o.budget;
  plan = plan_of o;
  keep = true;
}

pub from_nothing : (o : MergeOptions) (rounds : RoundsState) (totals : Counts) → rounds ≡ fresh o rounds
    → ((p : Options) → p.queues ≡ o.queues → p.taps ≡ o.taps → totals ≡ totals_of p []) → totals ≡ totals_of (rounds_options rounds) []
from_nothing o rounds totals is none = none (rounds_options rounds) (ap (λ (r : RoundsState). r.plan.queues) is) (ap (λ (r : RoundsState). r.plan.taps) is)

-- all was counted from nothing, and what was counted is told
pub all_checked : (first : List ℕ) (o : MergeOptions) (rounds : RoundsState) (place : Place) (start totals : Counts) (a b old new : Option (List ℕ)) (is_flushed : Bool)
    (rose : Type 0) (end : CheckEnd) (status : Status) → rounds ≡ fresh o rounds → start ≡ totals_of (rounds_options rounds) []
    → Told a b (Tallies (counting rounds.blocks (rounds_options rounds) place) start totals (check_ending end))
    → Tells old new is_flushed (first ++ check_lines totals) (status_if end o.blocks) status → (end ≡ ends.ReadFault → rose)
    → Told a b (Checked first o.blocks (options o) place old new is_flushed rose status)
all_checked first o rounds place start totals a b old new is_flushed rose end status is none counted told read =
    Told-weaker a b (Tallies (counting rounds.blocks (rounds_options rounds) place) start totals (check_ending end))
    (Checked first o.blocks (options o) place old new is_flushed rose status)
    (λ bytes left tallies. record {
      end = end;
      totals = totals;
      counted =
          subst (λ (r : RoundsState). Tallies (counting r.blocks (rounds_options r) place) (totals_of (rounds_options r) []) totals (check_ending end) bytes left) is
          (subst (λ (t : Counts). Tallies (counting rounds.blocks (rounds_options rounds) place) t totals (check_ending end) bytes left) none tallies);
      told = told;
      read = read;
    }) counted

-- ---- a generated capture

pub lines_are : TotalsAreTold → (blocks : ℕ) (o : Options) (place : Place) (totals : Counts) (bytes left : List ℕ) (stop : Stop)
    → Tallies (counting blocks o place) (totals_of o []) totals (Stopped stop) bytes left → check_lines totals ≡ (checking blocks o place bytes).output
lines_are law blocks o place totals bytes left stop counted =
    ((law blocks o place totals (Some []) (Some (check_lines totals)) bytes left).stopped stop counted refl).2

-- what is counted of all bytes is told, or a prefix of it
stopped_says : TotalsAreTold → (blocks : ℕ) (o : Options) (place : Place) (passed : Passed) (first : List ℕ) (totals : Counts) (old new : Option (List ℕ)) (is_flushed : Bool)
    (bytes left : List ℕ) (end status : Status) (stop : Stop) → passed.output ≡ first ++ (checking blocks o place bytes).output
    → Tallies (counting blocks o place) (totals_of o []) totals (Stopped stop) bytes left
    → (Appends old new passed.output → SaysFlushed new is_flushed true → ChecksTo passed old new is_flushed end)
    → LinesEnd old new is_flushed (first ++ check_lines totals) end status → ChecksTo passed old new is_flushed status
stopped_says law blocks o place passed first totals old new is_flushed bytes left end status stop out counted whole told =
    let same : first ++ check_lines totals ≡ passed.output =
    ap (λ (l : List ℕ). first ++ l) (lines_are law blocks o place totals bytes left stop counted) ∙ sym out in
    ⊎_elim (λ p. subst (ChecksTo passed old new is_flushed) (sym p.0) (whole (subst (Appends old new) same p.1) p.2))
    (λ p. subst (ChecksTo passed old new is_flushed) (sym p.0) (subst (AppendsPrefix old new) same p.1)) told

made_by : TotalsAreTold → (blocks : ℕ) (o : Options) (place : Place) (passed : Passed) (first : List ℕ) (totals : Counts) (old new : Option (List ℕ)) (is_flushed : Bool)
    (rose : Type 0) (status : Status) (bytes left : List ℕ) → passed.output ≡ first ++ (checking blocks o place bytes).output
    → passed.stop ≡ (checking blocks o place bytes).stop → ((f : CapFault) → passed.stop ≡ AtFault f → ⊥) → (rose → ⊥)
    → (end : CheckEnd) → Tallies (counting blocks o place) (totals_of o []) totals (check_ending end) bytes left
    → Tells old new is_flushed (first ++ check_lines totals) (status_if end blocks) status → (end ≡ ends.ReadFault → rose) → ChecksTo passed old new is_flushed status
made_by law blocks o place passed first totals old new is_flushed rose status bytes left out stop fault never ends.Done counted told read =
    stopped_says law blocks o place passed first totals old new is_flushed bytes left statuses.Ok status Nowhere out counted
    (λ wrote flushed. (stop ∙ counted.0, wrote, flushed)) told
made_by law blocks o place passed first totals old new is_flushed rose status bytes left out stop fault never (ends.Malformed f) counted told read =
    absurd (fault f (stop ∙ counted.0))
made_by law blocks o place passed first totals old new is_flushed rose status bytes left out stop fault never (ends.PoolEmpty round need) counted told read =
    stopped_says law blocks o place passed first totals old new is_flushed bytes left (statuses.PoolEmpty round need blocks) status (AtRound round need) out counted
    (λ wrote flushed. (stop ∙ counted.0, wrote, flushed)) told
made_by law blocks o place passed first totals old new is_flushed rose status bytes left out stop fault never ends.ReadFault counted told read = absurd (never (read refl))
made_by law blocks o place passed first totals old new is_flushed rose status bytes left out stop fault never ends.NoMemory counted told read =
    subst (ChecksTo passed old new is_flushed) (sym told.0) told.1

-- it has no fault
no_fault : (budget : ℕ) (e : Option (ℕ × ℕ)) (found : Found) (f : CapFault) → found.fault ≡ None → stop_of (found_before budget e found).fault e ≡ AtFault f → ⊥
no_fault budget None found f none is =
    let at : stop_of None None ≡ AtFault f = ap (λ (o : Option CapFault). stop_of o None) (sym none) ∙ is in
    let no : ⊥ = (cc) in no
no_fault budget (Some at) found f none is = let no : ⊥ = (cc) in no

pub made_says : TotalsAreTold → MadeReadsBack → (seed count : ℕ) (o : MergeOptions) (file : FileHead) (first : List ℕ) (old new : Option (List ℕ)) (is_flushed : Bool)
    (rose : Type 0) (status : Status) (given rest left : List ℕ) → count < 2 ^ 32 → given ≡ made seed count → first ≡ made_line count (length (made seed count)) → (rose → ⊥)
    → GivesFile Ethernet (Ok file) given rest
    → Checked first o.blocks (options o) (first_place file Ethernet 0) old new is_flushed rose status rest left
    → ChecksTo (checking_made seed count o) old new is_flushed status
made_says law back seed count o file first old new is_flushed rose status given rest left few is line never gives checked =
    let place = first_place file Ethernet 0 in
    let all : checking_whole o.blocks (options o) (made seed count) ≡ checking o.blocks (options o) place rest =
    ap (checking_whole o.blocks (options o)) (sym is)
    ∙ lined_of (checking o.blocks (options o)) given gives.1
    ∙ ap (λ (f : FileHead). checking o.blocks (options o) (first_place f Ethernet 0) (drop 24 given)) (sym gives.2)
    ∙ ap (checking o.blocks (options o) place) (sym gives.3) in
    let found : (found_at place rest).fault ≡ None =
    ap (λ (f : Found). f.fault) (sym (reads_is Ethernet file given rest gives))
    ∙ ap (λ (l : List ℕ). (reads Ethernet l).fault) is
    ∙ ap (λ (f : Found). f.fault) (back seed count few).0 in
    made_by law o.blocks (options o) place (checking_made seed count o) first checked.totals old new is_flushed rose status rest left
    (ap (λ (l : List ℕ). l ++ (checking_whole o.blocks (options o) (made seed count)).output) (sym line) ∙ ap (λ (p : Passed). first ++ p.output) all)
    (ap (λ (p : Passed). p.stop) all)
    (λ f at.
    no_fault o.budget (exceeded_at o.blocks o.budget place rest) (found_at place rest) f found
    (sym (ap (λ (p : Passed). p.stop) all) ∙ at))
    never checked.end checked.counted checked.told checked.read
