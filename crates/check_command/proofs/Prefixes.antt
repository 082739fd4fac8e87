-- A prefix of the lines of all that was given, however little of it was read, where the source didn't fail.
use Rattle.std.proofs.Common.{◌≡◌, ℕ, List, [], drop, refl, sym, ap, ◌∙◌, subst, Option, Some, None, Ok, Err, Bool, ◌⊎◌, ⊎_elim, inl, inr}
use Rattle.std.proofs.KnownBytes.{Appends-nil, Appends-kept}
use Rattle.off_io.specs.Content.{AppendsPrefix}
use Rattle.off_io.specs.Told.{Told}
use Rattle.off_io.proofs.Owing.{prefix_whole}
use Rattle.off_io.proofs.Telling.{Told-then, Told-weaker}
use Rattle.pcap_io.specs.declared.faults.InFault.{InFault}
use Rattle.pcap_io.specs.declared.heads.FileHead.{FileHead}
use Rattle.pcap_io.specs.declared.heads.Link.TheVariants.{Ethernet}
use Rattle.pcap_io.specs.declared.place.Place.{Place}
use Rattle.pcap_io.specs.Places.{first_place}
use Rattle.pcap_io.specs.Reading.{GivesFile}
use Rattle.offload_model.specs.Passing.{Passed, Stop, Stopped, Nowhere, AtFault, AtRound, WritesPrefix, PrefixUnless}
use Rattle.offload_model.specs.Written.{Options}
use Rattle.check_totals.specs.Counts.{Counts, totals_of}
use Rattle.check_totals.specs.Lines.{check_lines}
use Rattle.check_totals.specs.Checking.{counting, checking, checking_whole}
use Rattle.check_totals.specs.Tallies.{Tallies, TotalsAreTold}
use Rattle.checking.specs.declared.counting.CheckEnd.{CheckEnd}
use Rattle.checking.specs.declared.counting.CheckEnd.TheVariants as ends
use Rattle.checking.specs.Handling.{ending_of as check_ending}
use Rattle.offload_words.specs.declared.merge.MergeOptions.{MergeOptions}
use Rattle.command_answers.specs.declared.status.Status.{Status}
use Rattle.command_answers.specs.declared.status.Status.TheVariants as statuses
use Rattle.check_command.specs.Checking.{status_if, LinesEnd, Tells, Checked}
use Rattle.command_answers.specs.Output.{options}
use Rattle.check_command.proofs.Lining.{lined_of}
use Rattle.check_command.proofs.Telling.{lines_are}

lines_prefix : TotalsAreTold → (blocks : ℕ) (o : Options) (place : Place) (totals : Counts) (old new : Option (List ℕ)) (is_flushed : Bool) (end status : Status)
    (bytes left : List ℕ) (stop : Stop) → Tallies (counting blocks o place) (totals_of o []) totals (Stopped stop) bytes left
    → LinesEnd old new is_flushed (check_lines totals) end status → WritesPrefix (checking blocks o place) old new bytes left
lines_prefix law blocks o place totals old new is_flushed end status bytes left stop counted told =
    subst (AppendsPrefix old new) (lines_are law blocks o place totals bytes left stop counted)
    (⊎_elim (λ p. prefix_whole old new (check_lines totals) p.1) (λ p. p.1) told)

lines_or_fault : TotalsAreTold → (blocks : ℕ) (o : Options) (place : Place) (totals : Counts) (old new : Option (List ℕ)) (is_flushed : Bool) (rose : Type 0) (status : Status)
    (bytes left : List ℕ) (end : CheckEnd) → Tallies (counting blocks o place) (totals_of o []) totals (check_ending end) bytes left
    → Tells old new is_flushed (check_lines totals) (status_if end blocks) status → (end ≡ ends.ReadFault → rose)
    → rose ⊎ WritesPrefix (checking blocks o place) old new bytes left
lines_or_fault law blocks o place totals old new is_flushed rose status bytes left ends.Done counted told read =
    inr (lines_prefix law blocks o place totals old new is_flushed statuses.Ok status bytes left Nowhere counted told)
lines_or_fault law blocks o place totals old new is_flushed rose status bytes left (ends.Malformed fault) counted told read =
    inr (lines_prefix law blocks o place totals old new is_flushed (statuses.Malformed fault) status bytes left (AtFault fault) counted told)
lines_or_fault law blocks o place totals old new is_flushed rose status bytes left (ends.PoolEmpty round need) counted told read =
    inr (lines_prefix law blocks o place totals old new is_flushed (statuses.PoolEmpty round need blocks) status bytes left (AtRound round need) counted told)
lines_or_fault law blocks o place totals old new is_flushed rose status bytes left ends.ReadFault counted told read = inl (read refl)
lines_or_fault law blocks o place totals old new is_flushed rose status bytes left ends.NoMemory counted told read =
    inr (0, Appends-kept old old new [] (Appends-nil old) told.1)

told_or : {R : Type 0} (a b : Option (List ℕ)) (Q : List ℕ → List ℕ → Type 0) → Told a b (λ x y. R ⊎ Q x y) → R ⊎ Told a b Q
told_or None b Q t = inr tt
told_or (Some x) None Q t = absurd t
told_or (Some x) (Some y) Q t = t

-- where no file header was read
pub no_lines_prefix : (o : MergeOptions) (a b old : Option (List ℕ)) (failed : Type 0) (fault : InFault) → Told a b (GivesFile Ethernet (Err fault))
    → PrefixUnless failed (checking_whole o.blocks (options o)) a b old old
no_lines_prefix o a b old failed fault told =
    inr (Told-weaker a b (GivesFile Ethernet (Err fault)) (WritesPrefix (checking_whole o.blocks (options o)) old old) (λ given left gives. (0, Appends-nil old)) told)

pub checked_prefix : TotalsAreTold → (o : MergeOptions) (a b c : Option (List ℕ)) (file : FileHead) (old new : Option (List ℕ)) (is_flushed : Bool) (rose failed : Type 0) (status : Status)
    → (rose → failed) → Told a b (GivesFile Ethernet (Ok file))
    → Told b c (Checked [] o.blocks (options o) (first_place file Ethernet 0) old new is_flushed rose status)
    → PrefixUnless failed (checking_whole o.blocks (options o)) a c old new
checked_prefix law o a b c file old new is_flushed rose failed status so first next =
    let place = first_place file Ethernet 0 in
    told_or a c (WritesPrefix (checking_whole o.blocks (options o)) old new)
    (Told-then a b c (GivesFile Ethernet (Ok file)) (Checked [] o.blocks (options o) place old new is_flushed rose status)
    (λ x y. failed ⊎ WritesPrefix (checking_whole o.blocks (options o)) old new x y)
    (λ given rest left gives checked.
    let all : checking_whole o.blocks (options o) given ≡ checking o.blocks (options o) place rest =
    lined_of (checking o.blocks (options o)) given gives.1
    ∙ ap (λ (f : FileHead). checking o.blocks (options o) (first_place f Ethernet 0) (drop 24 given)) (sym gives.2)
    ∙ ap (checking o.blocks (options o) place) (sym gives.3) in
    ⊎_elim (λ r. inl (so r)) (λ f. inr (subst (AppendsPrefix old new) (sym (ap (λ (p : Passed). p.output) all)) f))
    (lines_or_fault law o.blocks (options o) place checked.totals old new is_flushed rose status rest left checked.end checked.counted checked.told checked.read)) first next)
