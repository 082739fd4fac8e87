-- A prefix of what a command writes of all that was given, however little of it was read, where the source didn't fail.
use Rattle.std.proofs.Common.{ℕ, List, drop, subst, Option, Ok, Err, inl, inr}
use Rattle.std.specs.Io.KnownBytes.{Appends}
use Rattle.std.proofs.KnownBytes.{Appends-nil}
use Rattle.off_io.specs.Content.{AppendsPrefix}
use Rattle.off_io.specs.Told.{Told}
use Rattle.off_io.proofs.Telling.{Told-then, Told-weaker, Told-same}
use Rattle.pcap_io.specs.declared.faults.InFault.{InFault}
use Rattle.pcap_io.specs.declared.heads.FileHead.{FileHead}
use Rattle.pcap_io.specs.declared.heads.Link.{Link}
use Rattle.pcap_io.specs.declared.place.Place.{Place}
use Rattle.pcap_io.specs.Places.{first_place}
use Rattle.pcap_io.specs.Reading.{GivesFile}
use Rattle.pcap_io.specs.Written.{file_bytes}
use Rattle.offload_model.specs.Passing.{Passed, WritesPrefix, PrefixUnless, whole}
use Rattle.offload_model.proofs.Passings.{prefixes_to_whole}

-- where nothing was read, nothing was written
pub nothing_prefix : (failed : Type 0) (passing : List ℕ → Passed) (a old : Option (List ℕ)) → PrefixUnless failed passing a a old old
nothing_prefix failed passing a old = inr (Told-same a (WritesPrefix passing old old) (λ bytes. (0, Appends-nil old)))

-- ---- behind a file header

-- a file header that is refused or can't be read
pub no_file_prefix : (from to : Link) (passing : Place → List ℕ → Passed) (a b old : Option (List ℕ)) (failed : Type 0) (fault : InFault)
    → Told a b (GivesFile from (Err fault)) → PrefixUnless failed (whole from to passing) a b old old
no_file_prefix from to passing a b old failed fault told =
    inr (Told-weaker a b (GivesFile from (Err fault)) (WritesPrefix (whole from to passing) old old)
    (λ given left gives. (prefixes_to_whole from to passing old given).none left) told)

-- the file header was not wholly written
pub head_failed_prefix : (from to : Link) (passing : Place → List ℕ → Passed) (a b old new : Option (List ℕ)) (failed : Type 0) (file : FileHead)
    → AppendsPrefix old new (file_bytes file to) → Told a b (GivesFile from (Ok file)) → PrefixUnless failed (whole from to passing) a b old new
head_failed_prefix from to passing a b old new failed file wrote told =
    inr (Told-weaker a b (GivesFile from (Ok file)) (WritesPrefix (whole from to passing) old new)
    (λ given left gives.
    (prefixes_to_whole from to passing old given).header new left gives.1
    (subst (λ (f : FileHead). AppendsPrefix old new (file_bytes f to)) gives.2 wrote)) told)

-- what is said of the records behind it is said of the whole capture
pub whole_prefix : (from to : Link) (passing : Place → List ℕ → Passed) (a b c old mid new : Option (List ℕ)) (later failed : Type 0) (file : FileHead)
    → (later → failed) → Told a b (GivesFile from (Ok file)) → Appends old mid (file_bytes file to)
    → PrefixUnless later (passing (first_place file from 0)) b c mid new → PrefixUnless failed (whole from to passing) a c old new
whole_prefix from to passing a b c old mid new later failed file so told wrote (inl e) = inl (so e)
whole_prefix from to passing a b c old mid new later failed file so told wrote (inr rest) =
    inr (Told-then a b c (GivesFile from (Ok file)) (WritesPrefix (passing (first_place file from 0)) mid new) (WritesPrefix (whole from to passing) old new)
    (λ given left last gives front.
    (prefixes_to_whole from to passing old given).records mid new last gives.1
    (subst (λ (f : FileHead). Appends old mid (file_bytes f to)) gives.2 wrote)
    (subst (λ (f : FileHead). WritesPrefix (passing (first_place f from 0)) mid new (drop 24 given) last) gives.2
    (subst (λ (l : List ℕ). WritesPrefix (passing (first_place file from 0)) mid new l last) gives.3 front))) told rest)
