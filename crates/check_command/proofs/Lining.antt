-- Lines that are written of a whole capture, where it has a file header.
use Rattle.std.proofs.Common.{◌≡◌, ◌≤◌, ◌<◌, ℕ, List, [], ◌++◌, length, take, drop, sym, ap, ◌∙◌, subst, arith, Option, None, Some, Ok, Err, Bool, true, false, length-append, length-take, length-drop}
use Rattle.std.proofs.Common.{take-append-drop, append_assoc, if◌then◌else◌}
use Rattle.std.specs.Prelude.{nat_lt}
use Rattle.std.specs.Io.KnownBytes.{Appends}
use Rattle.std.proofs.KnownBytes.{Appends-nil}
use Rattle.std.proofs.lemmas.List.{take_at, drop_at, length-take-le}
use Rattle.std.proofs.lemmas.Bool.{lt-ltb, ltb-false}
use Rattle.std.proofs.lemmas.Option.{none-some}
use Rattle.off_io.specs.Content.{AppendsPrefix, SaysFlushed}
use Rattle.off_io.specs.Told.{Told}
use Rattle.off_io.proofs.Telling.{Told-weaker}
use Rattle.pcap_io.specs.declared.heads.FileHead.{FileHead}
use Rattle.pcap_io.specs.declared.heads.Link.TheVariants.{Ethernet}
use Rattle.pcap_io.specs.declared.place.Place.{Place}
use Rattle.pcap_io.specs.declared.faults.CapFault.{CapFault}
use Rattle.pcap_io.specs.declared.faults.CapKind.{CapKind}
use Rattle.pcap_io.specs.declared.faults.CapKind.TheVariants.{ShortHeader}
use Rattle.pcap_io.specs.declared.faults.InFault.{InFault}
use Rattle.pcap_io.specs.declared.faults.InFault.TheVariants as faults
use Rattle.pcap_io.specs.Headers.{first_that_holds, file_refusals, file_place, file_head}
use Rattle.pcap_io.specs.Places.{first_place}
use Rattle.pcap_io.specs.Reading.{GivesFile}
use Rattle.pcap_io.proofs.Fronts.{not_first}
use Rattle.offload_model.specs.Passing.{Stop, Nowhere, AtFault, AtRound, Passed, Ending, Stopped, ReadFault, WriteFault, NoMemory, behind_head, HasFileHead, IsLeft, IsNoRound, Passes, IsBehindHead}
use Rattle.offload_model.specs.Passing.{Answers, flushes}
use Rattle.command_answers.specs.declared.status.Status.{Status}
use Rattle.command_answers.specs.Ending.{ending_of, Ends, IsStatusFor}

-- what is made of a whole capture: of one without a lawful file header no line
abbrev pub lined : (Place → List ℕ → Passed) → List ℕ → Passed
lined passing given =
    behind_head (first_that_holds (file_refusals Ethernet (take 24 given))) [] (passing (first_place (file_head (take 24 given)) Ethernet 0) (drop 24 given))

refused_is : (passing : Place → List ℕ → Passed) (given : List ℕ) (kind : CapKind) → first_that_holds (file_refusals Ethernet (take 24 given)) ≡ Some kind
    → lined passing given ≡ record { output = []; stop = AtFault (record { kind = kind; offset = file_place kind; number = 0 }) }
refused_is passing given kind e =
    ap (λ (r : Option CapKind). behind_head r [] (passing (first_place (file_head (take 24 given)) Ethernet 0) (drop 24 given))) e

-- fewer than 24 bytes are refused
short_is : (passing : Place → List ℕ → Passed) (front : List ℕ) → length front < 24
    → lined passing front ≡ record { output = []; stop = AtFault (record { kind = ShortHeader; offset = 0; number = 0 }) }
short_is passing front short =
    let test : nat_lt (length (take 24 front)) 24 ≡ true = lt-ltb _ _ (omega (arith, length-take 24 front, short)) in
    refused_is passing front ShortHeader
    (ap (λ (v : Bool). if v then Some ShortHeader else first_that_holds (drop 1 (file_refusals Ethernet (take 24 front)))) test)

-- a lawful file header has all of its 24 bytes
long_head : (given : List ℕ) → HasFileHead Ethernet given → 24 ≤ length given
long_head given lawful =
    let test : nat_lt (length (take 24 given)) 24 ≡ false = (not_first _ _ _ lawful).0 in
    omega (arith, ltb-false _ _ test, length-take 24 given)

-- what stands behind a file header, whatever it is
lined_is : (passing : Place → List ℕ → Passed) (given more : List ℕ) → HasFileHead Ethernet given
    → lined passing (take 24 given ++ more) ≡ passing (first_place (file_head (take 24 given)) Ethernet 0) more
lined_is passing given more lawful =
    let front = take 24 given in
    let size : length front ≡ 24 = length-take-le 24 given (long_head given lawful) in
    let test : first_that_holds (file_refusals Ethernet (take 24 (front ++ more))) ≡ None =
    ap (λ (l : List ℕ). first_that_holds (file_refusals Ethernet l)) (take_at front more 24 size) ∙ lawful in
    ap (λ (r : Option CapKind). behind_head r [] (passing (first_place (file_head (take 24 (front ++ more))) Ethernet 0) (drop 24 (front ++ more)))) test
    ∙ ap (λ (l : List ℕ). passing (first_place (file_head l) Ethernet 0) (drop 24 (front ++ more))) (take_at front more 24 size)
    ∙ ap (λ (l : List ℕ). passing (first_place (file_head front) Ethernet 0) l) (drop_at front more 24 size)

-- the same of all that is given
pub lined_of : (passing : Place → List ℕ → Passed) (given : List ℕ) → HasFileHead Ethernet given
    → lined passing given ≡ passing (first_place (file_head (take 24 given)) Ethernet 0) (drop 24 given)
lined_of passing given lawful = ap (lined passing) (sym (take-append-drop 24 given)) ∙ lined_is passing given (drop 24 given) lawful

gone_behind : (given gone left : List ℕ) → drop 24 given ≡ gone ++ left → given ≡ (take 24 given ++ gone) ++ left
gone_behind given gone left split =
    sym (take-append-drop 24 given) ∙ ap (λ l. take 24 given ++ l) split ∙ sym (append_assoc (take 24 given) gone left)

left_behind : (stop : Stop) (given left : List ℕ) → IsLeft stop (drop 24 given) left → IsLeft stop given left
left_behind Nowhere given left is = is
left_behind (AtFault fault) given left is = (take 24 given ++ is.0, gone_behind given is.0 left is.1)
left_behind (AtRound round need) given left is = (take 24 given ++ is.0, gone_behind given is.0 left is.1)

passes_behind : (passing : Place → List ℕ → Passed) (old new : Option (List ℕ)) (ending : Ending) (given left : List ℕ) → HasFileHead Ethernet given
    → Passes (passing (first_place (file_head (take 24 given)) Ethernet 0)) old new ending (drop 24 given) left → Passes (lined passing) old new ending given left
passes_behind passing old new (Stopped stop) given left lawful p =
    let is = lined_of passing given lawful in (
      ap (λ (x : Passed). x.stop) is ∙ p.0,
      left_behind stop given left p.1,
      subst (Appends old new) (sym (ap (λ (x : Passed). x.output) is)) p.2,
    )
passes_behind passing old new ReadFault given left lawful p =
    let is = lined_is passing given p.0 lawful in (
      take 24 given ++ p.0,
      gone_behind given p.0 left p.1,
      subst IsNoRound (sym (ap (λ (x : Passed). x.stop) is)) p.2,
      subst (Appends old new) (sym (ap (λ (x : Passed). x.output) is)) p.3,
    )
passes_behind passing old new WriteFault given left lawful p =
    let is = lined_is passing given p.0 lawful in (
      take 24 given ++ p.0,
      gone_behind given p.0 left p.1,
      subst (AppendsPrefix old new) (sym (ap (λ (x : Passed). x.output) is)) p.2,
    )
passes_behind passing old new NoMemory given left lawful p =
    let is = lined_is passing given p.0 lawful in (
      take 24 given ++ p.0,
      gone_behind given p.0 left p.1,
      subst (AppendsPrefix old new) (sym (ap (λ (x : Passed). x.output) is)) p.2,
    )

is_behind : (passing : Place → List ℕ → Passed) (old new : Option (List ℕ)) (ending : Ending) (given left : List ℕ) → HasFileHead Ethernet given
    → Passes (passing (first_place (file_head (take 24 given)) Ethernet 0)) old new ending (drop 24 given) left → IsBehindHead Ethernet ending given left
is_behind passing old new (Stopped stop) given left lawful p = lawful
is_behind passing old new ReadFault given left lawful p =
    omega (arith, long_head given lawful, ap length p.1, length-append p.0 left, length-drop 24 given)
is_behind passing old new WriteFault given left lawful p = lawful
is_behind passing old new NoMemory given left lawful p = lawful

-- what is said of the records behind a file header is said of the whole capture
pub whole_lined : (passing : Place → List ℕ → Passed) (old new : Option (List ℕ)) (is_flushed : Bool) (untouched : Type 0) (file : FileHead) (ending : Ending)
    (given rest left : List ℕ) → GivesFile Ethernet (Ok file) given rest → Passes (passing (first_place file Ethernet 0)) old new ending rest left
    → (flushes ending ≡ true → SaysFlushed new is_flushed true) → Answers Ethernet (lined passing) old new is_flushed untouched ending given left
whole_lined passing old new is_flushed untouched file ending given rest left gives p flush =
    let lawful : HasFileHead Ethernet given = gives.1 in
    let q : Passes (passing (first_place (file_head (take 24 given)) Ethernet 0)) old new ending (drop 24 given) left =
    subst (λ (f : FileHead). Passes (passing (first_place f Ethernet 0)) old new ending (drop 24 given) left) gives.2
    (subst (λ (l : List ℕ). Passes (passing (first_place file Ethernet 0)) old new ending l left) gives.3 p) in
    record {
      passes = passes_behind passing old new ending given left lawful q;
      flushes = λ is. record { behind = λ read. flush is; alone = λ none. absurd (none (is_behind passing old new ending given left lawful q)) };
    }

-- a file header that is refused or can't be read
pub no_lines : (passing : Place → List ℕ → Passed) (a b old : Option (List ℕ)) (is_flushed : Bool) (untouched : Type 0) (fault : InFault) (status : Status)
    → untouched → IsStatusFor fault status → Told a b (GivesFile Ethernet (Err fault))
    → Told a b (Ends (Answers Ethernet (lined passing) old old is_flushed untouched) (ending_of status))
no_lines passing a b old is_flushed untouched (faults.Cap fault) status same is told =
    subst (λ (s : Status). Told a b (Ends (Answers Ethernet (lined passing) old old is_flushed untouched) (ending_of s))) (sym is)
    (Told-weaker a b (GivesFile Ethernet (Err (faults.Cap fault))) (Answers Ethernet (lined passing) old old is_flushed untouched (Stopped (AtFault fault)))
    (λ given left gives.
    let e = refused_is passing given fault.kind gives.0.0 in
    record {
      passes = (
        ap (λ (x : Passed). x.stop) e ∙ ap (λ (f : CapFault). AtFault f) (sym gives.0.1),
        (take 24 given, sym (take-append-drop 24 given) ∙ ap (λ (l : List ℕ). take 24 given ++ l) (sym gives.1)),
        subst (Appends old old) (sym (ap (λ (x : Passed). x.output) e)) (Appends-nil old),
      );
      flushes = λ yes. record { behind = λ lawful. absurd (none-some fault.kind (sym lawful ∙ gives.0.0)); alone = λ none. same };
    }) told)
no_lines passing a b old is_flushed untouched faults.ReadFault status same is told =
    subst (λ (s : Status). Told a b (Ends (Answers Ethernet (lined passing) old old is_flushed untouched) (ending_of s))) (sym is)
    (Told-weaker a b (GivesFile Ethernet (Err faults.ReadFault)) (Answers Ethernet (lined passing) old old is_flushed untouched ReadFault)
    (λ given left gone.
    let e = short_is passing gone.0 gone.2 in
    record {
      passes = (
        gone.0,
        gone.1,
        subst IsNoRound (sym (ap (λ (x : Passed). x.stop) e)) tt,
        subst (Appends old old) (sym (ap (λ (x : Passed). x.output) e)) (Appends-nil old),
      );
      flushes = λ yes. record {
        behind = λ long. absurd (omega (arith, long, gone.2, ap length gone.1, length-append gone.0 left));
        alone = λ none. same;
      };
    }) told)
