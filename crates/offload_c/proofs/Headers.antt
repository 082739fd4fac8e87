-- A whole capture: its file header, and the records behind it.
use Rattle.std.proofs.Common.{◌≡◌, ℕ, List, drop, refl, sym, subst, Option, None, Some, Err, Ok, true}
use Rattle.std.specs.Io.KnownBytes.{Appends}
use Rattle.off_io.specs.Content.{AppendsPrefix, SaysFlushed}
use Rattle.off_io.specs.Told.{Told}
use Rattle.off_io.proofs.Telling.{Told-weaker, Told-then}
use Rattle.pcap_io.specs.declared.faults.CapFault.{CapFault}
use Rattle.pcap_io.specs.declared.faults.InFault.{InFault}
use Rattle.pcap_io.specs.declared.faults.InFault.TheVariants as faults
use Rattle.pcap_io.specs.declared.heads.FileHead.{FileHead}
use Rattle.pcap_io.specs.declared.heads.Link.{Link}
use Rattle.pcap_io.specs.declared.place.Place.{Place}
use Rattle.pcap_io.specs.Places.{first_place}
use Rattle.pcap_io.specs.Reading.{GivesFile}
use Rattle.pcap_io.specs.Written.{file_bytes}
use Rattle.offload_model.specs.Passing.{Ending, Stopped, AtFault, Passed, ReadFault, WriteFault, whole, Passes}
use Rattle.offload_model.specs.PassingLaws.{AnswersOf}
use Rattle.offload_model.proofs.Passings.{records_to_whole}

says : (held : Option (List ℕ)) → SaysFlushed held true true
says None = tt
says (Some x) = refl

-- where the file header isn't taken
abbrev pub fault_ending : InFault → Ending
fault_ending (faults.Cap fault) = Stopped (AtFault fault)
fault_ending faults.ReadFault = ReadFault

module _ (from to : Link) (passing : Place → List ℕ → Passed) where
  answers : (h : Option (List ℕ)) (given : List ℕ) → AnswersOf from to passing h true (tt {0} ≡ tt {0}) given
  answers h given = records_to_whole from to passing h true (tt {0}) (tt {0}) given

  not_taken : (h : Option (List ℕ)) (fault : InFault) (given left : List ℕ) → GivesFile from (Err fault) given left → Passes (whole from to passing) h h (fault_ending fault) given left
  not_taken h (faults.Cap fault) given left gives =
      let p = ((answers h given).refused fault.kind gives.0.0 refl).passes in
      subst (λ (l : List ℕ). Passes (whole from to passing) h h (Stopped (AtFault fault)) given l) (sym gives.1)
      (subst (λ (f : CapFault). Passes (whole from to passing) h h (Stopped (AtFault f)) given (drop 24 given)) (sym gives.0.1) p)
  not_taken h faults.ReadFault given left gives = ((answers h given).not_read left gives refl).passes

  pub no_file : (a b h : Option (List ℕ)) (fault : InFault) → Told a b (GivesFile from (Err fault)) → Told a b (Passes (whole from to passing) h h (fault_ending fault))
  no_file a b h fault told =
      Told-weaker a b (GivesFile from (Err fault)) (Passes (whole from to passing) h h (fault_ending fault)) (λ given left gives. not_taken h fault given left gives) told

  pub head_failed : (a b h h1 : Option (List ℕ)) (file : FileHead) → AppendsPrefix h h1 (file_bytes file to) → Told a b (GivesFile from (Ok file))
      → Told a b (Passes (whole from to passing) h h1 WriteFault)
  head_failed a b h h1 file wrote told =
      Told-weaker a b (GivesFile from (Ok file)) (Passes (whole from to passing) h h1 WriteFault)
      (λ given left gives.
      let front = subst (λ (f : FileHead). AppendsPrefix h h1 (file_bytes f to)) gives.2 wrote in
      subst (λ (l : List ℕ). Passes (whole from to passing) h h1 WriteFault given l) (sym gives.3) ((answers h given).not_written h1 gives.1 front).passes) told

  pub behind_head : (h h1 h2 : Option (List ℕ)) (file : FileHead) (ending : Ending) (given rest left : List ℕ) → Appends h h1 (file_bytes file to) → GivesFile from (Ok file) given rest
      → Passes (passing (first_place file from 0)) h1 h2 ending rest left → Passes (whole from to passing) h h2 ending given left
  behind_head h h1 h2 file ending given rest left wrote gives p =
      let head = subst (λ (f : FileHead). Appends h h1 (file_bytes f to)) gives.2 wrote in
      let all = subst (λ (l : List ℕ). Passes (passing (first_place file from 0)) h1 h2 ending l left) gives.3 p in
      ((answers h given).behind h1 h2 ending left gives.1 head
      (subst (λ (f : FileHead). Passes (passing (first_place f from 0)) h1 h2 ending (drop 24 given) left) gives.2 all) (λ e. says h2)).passes

  pub run_given : (a b c h h1 h2 : Option (List ℕ)) (file : FileHead) (ending : Ending) → Appends h h1 (file_bytes file to) → Told a b (GivesFile from (Ok file))
      → Told b c (Passes (passing (first_place file from 0)) h1 h2 ending) → Told a c (Passes (whole from to passing) h h2 ending)
  run_given a b c h h1 h2 file ending wrote first then_ =
      Told-then a b c (GivesFile from (Ok file)) (Passes (passing (first_place file from 0)) h1 h2 ending) (Passes (whole from to passing) h h2 ending)
      (λ given rest left gives p. behind_head h h1 h2 file ending given rest left wrote gives p) first then_
