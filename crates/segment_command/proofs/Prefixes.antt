-- A prefix of what `segment` writes of all that was given, however little of it was read.
use Rattle.std.proofs.Common.{ℕ, List, sym, subst, Option, Some, None, inr}
use Rattle.off_io.specs.Content.{AppendsPrefix}
use Rattle.off_io.specs.Told.{Told}
use Rattle.off_io.proofs.Appending.{prefix_more}
use Rattle.off_io.proofs.Telling.{Told-weaker}
use Rattle.pcap_io.specs.declared.place.Place.{Place}
use Rattle.offload_model.specs.Passing.{Ending, Passes, WritesPrefix, PrefixUnless, segmenting}
use Rattle.offload_model.proofs.Passings.{prefixes_are_written}
use Rattle.offload_model.specs.PassingLaws.{SegmentsGrow}
use Rattle.command_answers.specs.Ending.{Ends}

-- what was written of the bytes that are gone is a prefix of what is written of all
ends_prefix : SegmentsGrow → (blocks : ℕ) (place : Place) (old new : Option (List ℕ)) (o : Option Ending) (bytes left : List ℕ)
    → Ends (Passes (segmenting blocks place) old new) o bytes left → WritesPrefix (segmenting blocks place) old new bytes left
ends_prefix law blocks place old new None bytes left p = absurd p
ends_prefix law blocks place old new (Some ending) bytes left p =
    let w = prefixes_are_written (segmenting blocks place) old new ending bytes left p in
    let g = law blocks place w.0 w.1 in
    subst (λ (z : List ℕ). AppendsPrefix old new (segmenting blocks place z).output) (sym w.2)
    (subst (AppendsPrefix old new) (sym g.1) (prefix_more old new (segmenting blocks place w.0).output g.0 w.3))

pub segmented_prefix : SegmentsGrow → (failed : Type 0) (blocks : ℕ) (place : Place) (a b old new : Option (List ℕ)) (o : Option Ending)
    → Told a b (Ends (Passes (segmenting blocks place) old new) o) → PrefixUnless failed (segmenting blocks place) a b old new
segmented_prefix law failed blocks place a b old new o told =
    inr (Told-weaker a b (Ends (Passes (segmenting blocks place) old new) o) (WritesPrefix (segmenting blocks place) old new)
    (λ bytes left p. ends_prefix law blocks place old new o bytes left p) told)
