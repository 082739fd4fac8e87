-- What reading one record into blocks shows of the records of a capture.
use Rattle.std.proofs.Common.{◌≡◌, ◌≢◌, ◌+◌, ◌-◌, ◌<◌, ◌≤◌, ℕ, List, [], ◌∷◌, ◌++◌, ◌⊎◌, inl, inr, length, refl, sym, ap, ◌∙◌, arith, Option, None, Some, Ok, Err, subst, map, take, drop, append_assoc}
use Rattle.std.proofs.Common.{append-nil, take-append-drop, length-take, Bool, true, false, Result, if◌then◌else◌}
use Rattle.std.proofs.lemmas.List.{drop_all, take_all, length-take-le}
use Rattle.std.proofs.lemmas.Bool.{false≢true, lt-ltb}
use Rattle.std.specs.Prelude.{IfSome, OnOk, nat_lt}
use Rattle.off_io.specs.Faults.{Rose}
use Rattle.off_io.specs.Told.{Told}
use Rattle.off_io.proofs.Telling.{Told-weaker, Told-then}
use Rattle.raw_block.specs.Views.{SoleState}
use Rattle.skb.specs.SkbState.{buffer_bytes}
use Rattle.pcap_io.specs.declared.heads.RecHead.{RecHead}
use Rattle.pcap_io.specs.declared.place.Place.{Place}
use Rattle.pcap_io.specs.declared.faults.CapFault.{CapFault}
use Rattle.pcap_io.specs.declared.faults.InFault.{InFault}
use Rattle.pcap_io.specs.declared.faults.InFault.TheVariants as faults
use Rattle.pcap_io.specs.Capture.{Found, packet, ended, one_more, records_from}
use Rattle.pcap_io.specs.Places.{EntersBody, found_at, IsHead, IsReady, IsRefusal, ReadsOn}
use Rattle.pcap_io.specs.Reading.{GivesHead, RefusesHead, TakesHead}
use Rattle.pcap_io.specs.Headers.{first_that_holds, head_refusals}
use Rattle.pcap_io.specs.Lengths.{lengths_at}
use Rattle.pcap_io.specs.declared.faults.CapKind.TheVariants.{ShortRecordHeader}
use Rattle.pcap_io.proofs.LengthLaws.{lengths_by_record, lengths_refused}
use Rattle.pcap_io.proofs.RecordLaws.{records_none, whole_record, cut_record, takes_again, refused_again, no_record}
use Rattle.reading.specs.Data.{data_of, GivesFrame}
use Rattle.offload_model.specs.Need.{need_of, needed}
use Rattle.gro.specs.declared.slot.Slot.{Slot as Held}
use Rattle.gro.specs.Packets.{PacketsState}
use Rattle.reading.proofs.Laying.{below_or}
use Rattle.reading.specs.declared.record.Stop.{Stop}
use Rattle.reading.specs.declared.record.Stop.TheVariants.{End, Lacking, Malformed, PoolEmpty, ReadFault, NoMemory}
use Rattle.reading.specs.Reading.{front_size, HasHead, GivesKept, GivesPacket, GivesRecord, KeepsHead, NeedsMore, IsStopOf, OfAnswer, judged_at}

pub packet_given : (a b : Option (List ℕ)) (place : Place) (head : RecHead) (front : List ℕ) (len : ℕ) (soles : List SoleState) (p : Held) → buffer_bytes p.skb ≡ data_of 64 len soles
    → HasHead head front p
    → Told a b (GivesFrame place front len (Ok tt) soles) → Told a b (GivesPacket place head front (Ok p))
packet_given a b place head front len soles p same has told =
    Told-weaker a b (GivesFrame place front len (Ok tt) soles) (GivesPacket place head front (Ok p)) (λ bytes left gives. (gives ∙ ap (λ (z : List ℕ). (front ++ z) ++ left) (sym same), has)) told

-- the body's fault is the packet's
frame_stop : (place : Place) (head : RecHead) (front : List ℕ) (len : ℕ) (soles : List SoleState) (fault : InFault) (stop : Stop) (bytes left : List ℕ) → IsStopOf fault stop
    → head.captured ≡ length front + len
    → GivesFrame place front len (Err fault) soles bytes left → GivesPacket place head front (Err stop) bytes left
frame_stop place head front len soles (faults.Cap fault) stop bytes left is whole gives = rw is (omega (arith, gives.0, whole), gives.1, gives.2)
frame_stop place head front len soles faults.ReadFault stop bytes left is whole gives = rw is (gives.0, gives.1, omega (arith, gives.2, whole))

pub frame_stop_given : (a b : Option (List ℕ)) (place : Place) (head : RecHead) (front : List ℕ) (len : ℕ) (soles : List SoleState) (fault : InFault) (stop : Stop) → IsStopOf fault stop
    → head.captured ≡ length front + len
    → Told a b (GivesFrame place front len (Err fault) soles) → Told a b (GivesPacket place head front (Err stop))
frame_stop_given a b place head front len soles fault stop is whole told =
    Told-weaker a b (GivesFrame place front len (Err fault) soles) (GivesPacket place head front (Err stop)) (λ bytes left gives. frame_stop place head front len soles fault stop bytes left is whole
    gives) told

-- whatever was gone of it, want of memory ends it too
pub memory_given : (a b : Option (List ℕ)) (place : Place) (head : RecHead) (front : List ℕ) (len : ℕ) (soles : List SoleState) → Told a b (GivesFrame place front len (Ok tt) soles)
    → Told a b (GivesPacket place head front (Err NoMemory))
memory_given a b place head front len soles told =
    Told-weaker a b (GivesFrame place front len (Ok tt) soles) (GivesPacket place head front (Err NoMemory)) (λ bytes left gives. (front ++ data_of 64 len soles, gives)) told

-- the bytes of a header, and some of those behind it
split_after : (old : Place) (bytes rest part left : List ℕ) (head : RecHead) → TakesHead old bytes rest head → rest ≡ part ++ left → bytes ≡ (take 16 bytes ++ part) ++ left
split_after old bytes rest part left head takes split =
    sym (take-append-drop 16 bytes) ∙ ap (λ (l : List ℕ). take 16 bytes ++ l) (sym takes.rest ∙ split) ∙ sym (append_assoc (take 16 bytes) part left)

-- fewer than 16 bytes announce no record
no_length : (place : Place) (bytes : List ℕ) → length bytes < 16 → lengths_at place bytes ≡ []
no_length place [] short = (lengths_by_record place).none
no_length place (b ∷ bytes) short =
    let xs = b ∷ bytes in
    let order = place.file.order in
    let test : nat_lt (length (take 16 xs)) 16 ≡ true = lt-ltb _ _ (omega (arith, length-take 16 xs, short)) in
    let refused : first_that_holds (head_refusals order place.link place.number (take 16 xs)) ≡ Some ShortRecordHeader =
    ap (λ (v : Bool). if v then Some ShortRecordHeader else first_that_holds (drop 1 (head_refusals order place.link place.number (take 16 xs)))) test in
    lengths_refused order place.link place.number xs ShortRecordHeader (omega arith) refused

-- what a header that was taken announces, whatever of its body is there
announces : (old mid : Place) (bytes rest : List ℕ) (head : RecHead) → TakesHead old bytes rest head → EntersBody old mid head → (length rest < head.captured) ⊎ (head.captured ≤ length rest)
    → (more : List ℕ) × (lengths_at old bytes ≡ head.captured ∷ more)
announces old mid bytes rest head takes enters (inl short) = ([], (lengths_by_record old).cut bytes rest head takes short)
announces old mid bytes rest head takes enters (inr long) =
    let left = drop head.captured rest in (
      lengths_at mid left,
      (lengths_by_record old).whole mid bytes rest (take head.captured rest) left head takes enters (sym (take-append-drop head.captured rest)) (length-take-le head.captured rest long),
    )

-- where the record that is cut short fits
cut_fits : (old : Place) (bytes rest : List ℕ) (used blocks : ℕ) (head : RecHead) → TakesHead old bytes rest head → length rest < head.captured
    → used + need_of (head.captured - front_size old.link) ≤ blocks
    → used + needed (judged_at old bytes) ≤ blocks
cut_fits old bytes rest used blocks head takes short fits =
    let n = ap (λ (ls : List ℕ). needed (map (λ (k : ℕ). k - front_size old.link) ls)) ((lengths_by_record old).cut bytes rest head takes short) in
    omega (arith, n, fits)

none_fits : (old : Place) (bytes : List ℕ) (used blocks : ℕ) → lengths_at old bytes ≡ [] → used ≤ blocks → used + needed (judged_at old bytes) ≤ blocks
none_fits old bytes used blocks none fits =
    let n = ap (λ (ls : List ℕ). needed (map (λ (k : ℕ). k - front_size old.link) ls)) none in
    omega (arith, n, fits)

body_cut : (old mid new : Place) (used blocks : ℕ) (front : List ℕ) (head : RecHead) (stop : Stop) (bytes rest left : List ℕ)
    → used + need_of (head.captured - front_size old.link) ≤ blocks
    → EntersBody old mid head → TakesHead old bytes rest head → GivesPacket mid head front (Err stop) rest left → GivesRecord used blocks old new front (Err stop) bytes left
body_cut old mid new used blocks front head End bytes rest left fits enters takes gives = absurd gives
body_cut old mid new used blocks front head (PoolEmpty n) bytes rest left fits enters takes gives = absurd gives
body_cut old mid new used blocks front head Lacking bytes rest left fits enters takes gives = absurd gives
body_cut old mid new used blocks front head (Malformed fault) bytes rest left fits enters takes gives =
    let cut = cut_record old mid bytes rest head takes enters gives.0 in
    let all : bytes ≡ bytes ++ left = sym (append-nil bytes) ∙ ap (λ (l : List ℕ). bytes ++ l) (sym gives.2) in
    let fit = cut_fits old bytes rest used blocks head takes gives.0 fits in
    (cut ∙ ap (λ (k : CapFault). ended (Some k)) (sym gives.1), fit, (bytes, all, ap (λ (f : Found). f.packets) cut, fit))
body_cut old mid new used blocks front head ReadFault bytes rest left fits enters takes gives =
    let gone = take 16 bytes ++ gives.0 in
    let again = takes_again old bytes rest gives.0 head takes in
    let cut = cut_record old mid gone gives.0 head again enters gives.2 in
    (gone, split_after old bytes rest gives.0 left head takes gives.1, ap (λ (f : Found). f.packets) cut, cut_fits old gone gives.0 used blocks head again gives.2 fits)
body_cut old mid new used blocks front head NoMemory bytes rest left fits enters takes gives =
    (take 16 bytes ++ gives.0, split_after old bytes rest gives.0 left head takes gives.1)

body_whole : (old mid new : Place) (used blocks : ℕ) (front : List ℕ) (head : RecHead) (p : Held) (bytes rest left : List ℕ)
    → EntersBody old mid head → ReadsOn mid new head.captured → TakesHead old bytes rest head → GivesPacket mid head front (Ok p) rest left → GivesRecord used blocks old new front (Ok p) bytes left
body_whole old mid new used blocks front head p bytes rest left enters on takes gives =
    let xs = front ++ buffer_bytes p.skb in
    let has = gives.1 in
    let apart = λ (tail : List ℕ). append_assoc (take 16 bytes) xs tail in
    let again = λ (tail : List ℕ). takes_again old bytes rest (xs ++ tail) head takes in
    let one : (tail : List ℕ) → found_at old ((take 16 bytes ++ xs) ++ tail) ≡ one_more (packet old.number head.sec head.frac head.original xs)
    (records_from old.file.order old.link mid.number mid.offset 0 tail) =
    λ tail. ap (found_at old) (apart tail) ∙ whole_record old mid (take 16 bytes ++ (xs ++ tail)) (xs ++ tail) xs tail head (again tail) enters refl has.4 in
    let lengths : (tail : List ℕ) → lengths_at old ((take 16 bytes ++ xs) ++ tail) ≡ head.captured ∷ lengths_at mid tail =
    λ tail. ap (lengths_at old) (apart tail) ∙ (lengths_by_record old).whole mid (take 16 bytes ++ (xs ++ tail)) (xs ++ tail) xs tail head (again tail) enters refl has.4 in (
      take 16 bytes ++ xs,
      split_after old bytes rest xs left head takes gives.0,
      λ tail. record {
        found = rw (on.file, on.link, on.number, on.offset, enters.file, enters.link, has.0, enters.numbered, has.1, has.2, has.3) (one tail);
        lengths = rw (on.file, on.link, on.number) (lengths tail) ∙ ap (λ (k : ℕ). k ∷ lengths_at new tail) (sym has.4);
      },
    )

-- a fault within a header
head_stop : (old new : Place) (used blocks : ℕ) (front : List ℕ) (fault : InFault) (stop : Stop) (bytes left : List ℕ) → used ≤ blocks → IsStopOf fault stop → GivesHead old (Err fault) bytes left
    → GivesRecord used blocks old new front (Err stop) bytes left
head_stop old new used blocks front (faults.Cap fault) stop bytes left fits is gives =
    let xs = take 16 bytes in
    let split : bytes ≡ xs ++ left = sym (take-append-drop 16 bytes) ∙ ap (λ (l : List ℕ). xs ++ l) (sym gives.rest) in
    let none = (lengths_by_record old).refused bytes left fault gives in
    let again : take 16 xs ≡ xs = take_all 16 xs (omega (arith, length-take 16 bytes)) in
    let found = refused_again old bytes left fault gives in
    let refuses : RefusesHead old xs (drop 16 xs) fault = record {
      some = omega (arith, length-take 16 bytes, gives.some);
      refused = subst (λ (z : List ℕ). IsRefusal old (head_refusals old.file.order old.link old.number z) fault) (sym again) gives.refused;
      found = found;
      rest = refl;
    } in
    rw is (
      gives.found,
      none_fits old bytes used blocks none fits,
      (xs, split, ap (λ (f : Found). f.packets) found, none_fits old xs used blocks ((lengths_by_record old).refused xs (drop 16 xs) fault refuses) fits),
    )
head_stop old new used blocks front faults.ReadFault stop bytes left fits is gives =
    rw is (gives.0, gives.1, no_record old gives.0 gives.2, none_fits old gives.0 used blocks (no_length old gives.0 gives.2) fits)

pub head_stop_given : (a b : Option (List ℕ)) (old new : Place) (used blocks : ℕ) (front : List ℕ) (fault : InFault) (stop : Stop) → used ≤ blocks → IsStopOf fault stop
    → Told a b (GivesHead old (Err fault))
    → Told a b (GivesRecord used blocks old new front (Err stop))
head_stop_given a b old new used blocks front fault stop fits is told =
    Told-weaker a b (GivesHead old (Err fault)) (GivesRecord used blocks old new front (Err stop)) (λ bytes left gives. head_stop old new used blocks front fault stop bytes left fits is gives) told

pub none_from : {X : Type 0} (o : Option X) → ((x : X) → o ≡ Some x → ⊥) → o ≡ None
none_from None h = refl
none_from (Some x) h = absurd (h x refl)

pub end_given : (a b : Option (List ℕ)) (old new : Place) (used blocks : ℕ) (front : List ℕ) (found : Option RecHead) → found ≡ None → Told a b (GivesHead old (Ok found))
    → Told a b (GivesRecord used blocks old new front (Err End))
end_given a b old new used blocks front found none told =
    let at_none : Told a b (GivesHead old (Ok None)) = subst (λ (f : Option RecHead). Told a b (GivesHead old (Ok f))) none told in
    Told-weaker a b (GivesHead old (Ok None)) (GivesRecord used blocks old new front (Err End))
    (λ bytes left gives. (
      subst (λ (xs : List ℕ). found_at old xs ≡ ended None) (sym gives.0) (records_none old.file.order old.link old.number old.offset),
      subst (λ (xs : List ℕ). lengths_at old xs ≡ []) (sym gives.0) (lengths_by_record old).none,
      gives.1,
      gives.0,
    )) at_none

needs_more : (old mid : Place) (used blocks need : ℕ) (head : RecHead) (bytes left : List ℕ) → EntersBody old mid head → need ≡ used + need_of (head.captured - front_size old.link) → blocks < need
    → TakesHead old bytes left head → NeedsMore used blocks need old bytes left
needs_more old mid used blocks need head bytes left enters is more takes =
    let some = announces old mid bytes left head takes enters (below_or (length left) head.captured) in
    let front = take 16 bytes in
    let size : length front ≡ 16 = length-take-le 16 bytes takes.whole in
    let again : take 16 front ≡ front = take_all 16 front (omega (arith, size)) in
    let alone : TakesHead old front [] head = record {
      whole = omega (arith, size);
      lawful = subst (λ (l : List ℕ). first_that_holds (head_refusals old.file.order old.link old.number l) ≡ None) (sym again) takes.lawful;
      fields = subst (λ (l : List ℕ). IsHead old l head) (sym again) takes.fields;
      rest = sym (drop_all 16 front (omega (arith, size)));
    } in
    let here = announces old mid front [] head alone enters (below_or 0 head.captured) in
    let split : bytes ≡ front ++ left = sym (take-append-drop 16 bytes) ∙ ap (λ (l : List ℕ). front ++ l) (sym takes.rest) in
    (head.captured, (some.0, (some.1, is, more, (front, split), (front, split, here))))

pub empty_given : (a b : Option (List ℕ)) (old mid : Place) (used blocks need : ℕ) (front : List ℕ) (found : Option RecHead) (head : RecHead) → found ≡ Some head → IfSome found (KeepsHead old mid)
    → need ≡ used + need_of (head.captured - front_size old.link) → blocks < need
    → Told a b (GivesHead old (Ok found)) → Told a b (GivesRecord used blocks old mid front (Err (PoolEmpty need)))
empty_given a b old mid used blocks need front found head some keeps is more told =
    let at_some : Told a b (GivesHead old (Ok (Some head))) = subst (λ (f : Option RecHead). Told a b (GivesHead old (Ok f))) some told in
    let entered = (subst (λ (f : Option RecHead). IfSome f (KeepsHead old mid)) some keeps).enters in
    Told-weaker a b (GivesHead old (Ok (Some head))) (GivesRecord used blocks old mid front (Err (PoolEmpty need)))
    (λ bytes left takes. needs_more old mid used blocks need head bytes left entered is more takes) at_some

-- the bytes of the header that was found
pub head_given : (a b : Option (List ℕ)) (old : Place) (found : Option RecHead) (head : RecHead) → found ≡ Some head → Told a b (GivesHead old (Ok found)) → Told a b (GivesHead old (Ok (Some head)))
head_given a b old found head some told = subst (λ (f : Option RecHead). Told a b (GivesHead old (Ok f))) some told

-- a record whose blocks aren't home and don't come: its header is gone
pub lacking_given : (a b : Option (List ℕ)) (old new : Place) (used blocks : ℕ) (front : List ℕ) (head : RecHead) → Told a b (GivesHead old (Ok (Some head)))
    → Told a b (GivesRecord used blocks old new front (Err Lacking))
lacking_given a b old new used blocks front head told =
    Told-weaker a b (GivesHead old (Ok (Some head))) (GivesRecord used blocks old new front (Err Lacking))
    (λ bytes left takes. (take 16 bytes, sym (take-append-drop 16 bytes) ∙ ap (λ (l : List ℕ). take 16 bytes ++ l) (sym takes.rest))) told

-- the body behind a header that was kept
pub kept_whole : (b c : Option (List ℕ)) (at mid new : Place) (used blocks : ℕ) (front : List ℕ) (head : RecHead) (p : Held) → KeepsHead at mid head → ReadsOn mid new head.captured
    → Told b c (GivesPacket mid head front (Ok p)) → Told b c (GivesKept used blocks at new head front (Ok p))
kept_whole b c at mid new used blocks front head p keeps on told =
    Told-weaker b c (GivesPacket mid head front (Ok p)) (GivesKept used blocks at new head front (Ok p))
    (λ rest left gives. λ bytes takes. body_whole at mid new used blocks front head p bytes rest left keeps.enters on takes gives) told

pub kept_cut : (b c : Option (List ℕ)) (at mid new : Place) (used blocks : ℕ) (front : List ℕ) (head : RecHead) (stop : Stop) → KeepsHead at mid head
    → used + need_of (head.captured - front_size at.link) ≤ blocks
    → Told b c (GivesPacket mid head front (Err stop)) → Told b c (GivesKept used blocks at new head front (Err stop))
kept_cut b c at mid new used blocks front head stop keeps fits told =
    Told-weaker b c (GivesPacket mid head front (Err stop)) (GivesKept used blocks at new head front (Err stop))
    (λ rest left gives. λ bytes takes. body_cut at mid new used blocks front head stop bytes rest left fits keeps.enters takes gives) told

pub kept_given : {X : Type 0} (answer : Result X Stop) (b c : Option (List ℕ)) (at mid new : Place) (used blocks : ℕ) (front : List ℕ) (head : RecHead) (ps qs : PacketsState)
    → KeepsHead at mid head → used + need_of (head.captured - front_size at.link) ≤ blocks → OnOk answer (ReadsOn mid new head.captured)
    → OfAnswer answer ps qs (λ r. Told b c (GivesPacket mid head front r)) → OfAnswer answer ps qs (λ r. Told b c (GivesKept used blocks at new head front r))
kept_given (Ok x) b c at mid new used blocks front head ps qs keeps fits on given = λ p is. kept_whole b c at mid new used blocks front head p keeps on (given p is)
kept_given (Err stop) b c at mid new used blocks front head ps qs keeps fits on given = kept_cut b c at mid new used blocks front head stop keeps fits given

-- a header, and what stands behind it
pub record_given : (a b c : Option (List ℕ)) (old new : Place) (used blocks : ℕ) (front : List ℕ) (found : Option RecHead) (head : RecHead) (answer : Result Held Stop) → found ≡ Some head
    → Told a b (GivesHead old (Ok found)) → Told b c (GivesKept used blocks old new head front answer) → Told a c (GivesRecord used blocks old new front answer)
record_given a b c old new used blocks front found head answer some first second =
    let at_some : Told a b (GivesHead old (Ok (Some head))) = subst (λ (f : Option RecHead). Told a b (GivesHead old (Ok f))) some first in
    Told-then a b c (GivesHead old (Ok (Some head))) (GivesKept used blocks old new head front answer) (GivesRecord used blocks old new front answer)
    (λ bytes rest left takes gives. gives bytes takes) at_some second

abbrev pub is_lacking : {X : Type 0} → Result X Stop → Bool
is_lacking (Err Lacking) = true
is_lacking _ = false

-- no blocks are lacking at a fault of the reader
pub never_lacking : {X : Type 0} (answer : Result X Stop) (fault : InFault) (stop : Stop) → answer ≡ Err stop → IsStopOf fault stop → answer ≢ Err Lacking
never_lacking {X = X} answer (faults.Cap fault) stop is why lacks = false≢true (sym (ap (λ (s : Stop). is_lacking {X = X} (Err s)) why) ∙ ap is_lacking (sym is ∙ lacks))
never_lacking {X = X} answer faults.ReadFault stop is why lacks = false≢true (sym (ap (λ (s : Stop). is_lacking {X = X} (Err s)) why) ∙ ap is_lacking (sym is ∙ lacks))

pub not_lacking : {X : Type 0} (answer : Result X Stop) → is_lacking answer ≡ false → answer ≢ Err Lacking
not_lacking answer other lacks = false≢true (sym other ∙ ap is_lacking lacks)

abbrev is_memory : {X : Type 0} → Result X Stop → Bool
is_memory (Err NoMemory) = true
is_memory _ = false

pub not_memory : {X : Type 0} (answer : Result X Stop) → is_memory answer ≡ false → answer ≢ Err NoMemory
not_memory answer other short = false≢true (sym other ∙ ap is_memory short)

-- nor is a fault of the reader want of memory
pub never_memory : {X : Type 0} (answer : Result X Stop) (fault : InFault) (stop : Stop) → answer ≡ Err stop → IsStopOf fault stop → answer ≢ Err NoMemory
never_memory {X = X} answer (faults.Cap fault) stop is why short = false≢true (sym (ap (λ (s : Stop). is_memory {X = X} (Err s)) why) ∙ ap is_memory (sym is ∙ short))
never_memory {X = X} answer faults.ReadFault stop is why short = false≢true (sym (ap (λ (s : Stop). is_memory {X = X} (Err s)) why) ∙ ap is_memory (sym is ∙ short))

pub no_stop : {X : Type 0} (x : X) (stop : Stop) → Ok x ≢ Err stop
no_stop x stop is = cc

pub other_stop : {X : Type 0} (answer : Result X Stop) → answer ≡ Err NoMemory → answer ≢ Err ReadFault
other_stop answer is fails = cc

-- why no record was read, whatever an answer has else
abbrev pub stop_in : {X : Type 0} → Result X Stop → Stop
stop_in (Ok x) = End
stop_in (Err stop) = stop

-- a fault that was counted behind an earlier call
pub rose_after : (before mid now : ℕ) → before ≤ mid → Rose mid now → Rose before now
rose_after before mid now later rose = omega (arith, later, rose)

-- the header that was found is kept
pub kept_head : (at new : Place) (found : Option RecHead) (head : RecHead) → found ≡ Some head → IfSome found (KeepsHead at new) → KeepsHead at new head
kept_head at new found head some keeps = subst (λ (f : Option RecHead). IfSome f (KeepsHead at new)) some keeps
