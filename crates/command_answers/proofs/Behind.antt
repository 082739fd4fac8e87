-- A whole capture: the file header and the records behind it.
use Rattle.std.proofs.Common.{◌≡◌, ℕ, List, take, drop, sym, subst, Option, Some, None, Ok, Err, Bool}
use Rattle.std.specs.Io.KnownBytes.{Appends}
use Rattle.off_io.specs.Content.{AppendsPrefix}
use Rattle.off_io.specs.Told.{Told}
use Rattle.off_io.proofs.Telling.{Told-then, Told-weaker}
use Rattle.pcap_io.specs.declared.faults.InFault.{InFault}
use Rattle.pcap_io.specs.declared.faults.InFault.TheVariants.{Cap, ReadFault}
use Rattle.pcap_io.specs.declared.faults.CapFault.{CapFault}
use Rattle.pcap_io.specs.declared.heads.FileHead.{FileHead}
use Rattle.pcap_io.specs.declared.heads.Link.{Link}
use Rattle.pcap_io.specs.declared.place.Place.{Place}
use Rattle.pcap_io.specs.Headers.{file_place, file_head}
use Rattle.pcap_io.specs.Places.{first_place}
use Rattle.pcap_io.specs.Reading.{GivesFile}
use Rattle.pcap_io.specs.Written.{file_bytes}
use Rattle.offload_model.specs.Passing.{Passed, Ending, Stopped, AtFault, whole, Passes, Answers}
use Rattle.offload_model.specs.Passing.{WriteFault as write_fault, ReadFault as read_fault}
use Rattle.offload_model.proofs.Passings.{records_to_whole}
use Rattle.command_answers.specs.declared.status.Status.{Status}
use Rattle.command_answers.specs.Ending.{ending_of, Ends, FlushesAt, IsStatusFor}

-- a file header that is refused or can't be read
pub no_file : {K : Type 0} (from to : Link) (passing : Place → List ℕ → Passed) (a b old : Option (List ℕ)) (is_flushed : Bool) (before after : K)
    (fault : InFault) (status : Status) → after ≡ before → IsStatusFor fault status → Told a b (GivesFile from (Err fault))
    → Told a b (Ends (Answers from (whole from to passing) old old is_flushed (after ≡ before)) (ending_of status))
no_file from to passing a b old is_flushed before after (Cap fault) status same is told =
    let Says : CapFault → List ℕ → List ℕ → Type 0 = λ f. Answers from (whole from to passing) old old is_flushed (after ≡ before) (Stopped (AtFault f)) in
    subst (λ (s : Status). Told a b (Ends (Answers from (whole from to passing) old old is_flushed (after ≡ before)) (ending_of s))) (sym is)
    (Told-weaker a b (GivesFile from (Err (Cap fault))) (Says fault)
    (λ given left gives.
    let at : CapFault = record { kind = fault.kind; offset = file_place fault.kind; number = 0 } in
    subst (λ (f : CapFault). Says f given left) (sym gives.0.1)
    (subst (λ (l : List ℕ). Says at given l) (sym gives.1)
    ((records_to_whole from to passing old is_flushed before after given).refused fault.kind gives.0.0 same))) told)
no_file from to passing a b old is_flushed before after ReadFault status same is told =
    subst (λ (s : Status). Told a b (Ends (Answers from (whole from to passing) old old is_flushed (after ≡ before)) (ending_of s))) (sym is)
    (Told-weaker a b (GivesFile from (Err ReadFault)) (Answers from (whole from to passing) old old is_flushed (after ≡ before) read_fault)
    (λ given left gives. (records_to_whole from to passing old is_flushed before after given).not_read left gives same) told)

-- the file header was not wholly written
pub head_failed : {K : Type 0} (from to : Link) (passing : Place → List ℕ → Passed) (a b old new : Option (List ℕ)) (is_flushed : Bool) (before after : K)
    (file : FileHead) → AppendsPrefix old new (file_bytes file to) → Told a b (GivesFile from (Ok file))
    → Told a b (Answers from (whole from to passing) old new is_flushed (after ≡ before) write_fault)
head_failed from to passing a b old new is_flushed before after file wrote told =
    Told-weaker a b (GivesFile from (Ok file)) (Answers from (whole from to passing) old new is_flushed (after ≡ before) write_fault)
    (λ given left gives.
    subst (λ (l : List ℕ). Answers from (whole from to passing) old new is_flushed (after ≡ before) write_fault given l) (sym gives.3)
    ((records_to_whole from to passing old is_flushed before after given).not_written new gives.1
    (subst (λ (f : FileHead). AppendsPrefix old new (file_bytes f to)) gives.2 wrote))) told

-- what is said of the records behind it is said of the whole capture
pub whole_given : {K : Type 0} (from to : Link) (passing : Place → List ℕ → Passed) (a b c old mid new : Option (List ℕ)) (is_flushed : Bool) (before after : K)
    (file : FileHead) (o : Option Ending) → Told a b (GivesFile from (Ok file)) → Appends old mid (file_bytes file to)
    → Told b c (Ends (Passes (passing (first_place file from 0)) mid new) o) → FlushesAt new is_flushed o
    → Told a c (Ends (Answers from (whole from to passing) old new is_flushed (after ≡ before)) o)
whole_given from to passing a b c old mid new is_flushed before after file None told wrote rest flush =
    Told-then a b c (GivesFile from (Ok file)) (λ x y. ⊥) (λ x y. ⊥) (λ given left last gives none. none) told rest
whole_given from to passing a b c old mid new is_flushed before after file (Some ending) told wrote rest flush =
    Told-then a b c (GivesFile from (Ok file)) (Passes (passing (first_place file from 0)) mid new ending)
    (Answers from (whole from to passing) old new is_flushed (after ≡ before) ending)
    (λ given left last gives passes.
    let head : FileHead = file_head (take 24 given) in
    (records_to_whole from to passing old is_flushed before after given).behind mid new ending last gives.1
    (subst (λ (f : FileHead). Appends old mid (file_bytes f to)) gives.2 wrote)
    (subst (λ (f : FileHead). Passes (passing (first_place f from 0)) mid new ending (drop 24 given) last) gives.2
    (subst (λ (l : List ℕ). Passes (passing (first_place file from 0)) mid new ending l last) gives.3 passes))
    flush) told rest
