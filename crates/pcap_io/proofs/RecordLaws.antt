-- What a capture's bytes read as, record by record.
use Rattle.std.proofs.Common.{◌≡◌, ◌<◌, ◌≤◌, ◌+◌, ℕ, zero, suc, List, [], ◌∷◌, ◌++◌, length, take, drop, refl, sym, ap, ◌∙◌, arith, Option, None, Some, Err, subst, length-append, length-drop}
use Rattle.std.proofs.Common.{length-take, Bool, true, false, if◌then◌else◌}
use Rattle.std.proofs.lemmas.Option.{none-some}
use Rattle.std.specs.Prelude.{nat_lt}
use Rattle.std.proofs.lemmas.List.{take_all, take_at, drop_at, length-take-le, drop-drop}
use Rattle.std.proofs.lemmas.Bool.{lt-ltb, le-ltb}
use Rattle.pcap_io.specs.declared.faults.CapKind.{CapKind}
use Rattle.pcap_io.specs.declared.faults.CapKind.TheVariants.{ShortRecord, ShortRecordHeader}
use Rattle.net_bytes.specs.declared.order.Order.{Order}
use Rattle.pcap_io.specs.declared.heads.Link.{Link}
use Rattle.pcap_io.specs.declared.heads.RecHead.{RecHead}
use Rattle.pcap_io.specs.declared.place.Place.{Place}
use Rattle.pcap_io.specs.Headers.{first_that_holds, head_refusals, body_refusals, record_refusals, captured_length}
use Rattle.pcap_io.specs.Capture.{Packet, Found, packet, packet_at, ended, one_more, judged, records_from}
use Rattle.off_io.specs.Told.{Told}
use Rattle.pcap_io.specs.Places.{IsRefusal, found_at, IsHead, EntersBody, short_record}
use Rattle.pcap_io.specs.Reading.{GivesHead, TakesHead, RefusesHead}
use Rattle.pcap_io.specs.declared.faults.CapFault.{CapFault}
use Rattle.pcap_io.specs.declared.faults.InFault.TheVariants.{Cap}
use Rattle.std.specs.Io.KnownBytes.{Consumes, IsAtEnd}
use Rattle.pcap_io.proofs.Fronts.{not_first, front_read}

-- bytes that belong to the record before are passed over
pub records_skip : (order : Order) (link : Link) (n offset skip : ℕ) (bytes : List ℕ) → skip ≤ length bytes → records_from order link n offset skip bytes
    ≡ records_from order link n offset 0 (drop skip bytes)
unfolding records_from
records_skip order link n offset zero [] le = refl
records_skip order link n offset (suc skip) [] le = absurd (omega (arith, le))
records_skip order link n offset zero (b ∷ bytes) le = refl
records_skip order link n offset (suc skip) (b ∷ bytes) le = records_skip order link n offset skip bytes (omega (arith, le))

pub records_none : (order : Order) (link : Link) (n offset : ℕ) → records_from order link n offset 0 [] ≡ ended None
unfolding records_from
records_none order link n offset = refl

pub records_fault : (order : Order) (link : Link) (n offset : ℕ) (bytes : List ℕ) (kind : CapKind) → 0 < length bytes → first_that_holds (record_refusals order link n bytes) ≡ Some kind
    → records_from order link n offset 0 bytes ≡ ended (Some (record { kind = kind; offset = offset; number = n }))
unfolding records_from
records_fault order link n offset [] kind some e = absurd (omega (arith, some))
records_fault order link n offset (b ∷ bytes) kind some e =
    let size = captured_length order (take 16 (b ∷ bytes)) in
    ap (λ (r : Option CapKind). judged r n offset (packet_at order n (b ∷ bytes)) (records_from order link (n + 1) (offset + 16 + size) (15 + size) bytes)) e

pub records_whole : (order : Order) (link : Link) (n offset : ℕ) (bytes : List ℕ) → 16 + captured_length order (take 16 bytes) ≤ length bytes
    → first_that_holds (record_refusals order link n bytes) ≡ None
    → records_from order link n offset 0 bytes ≡ one_more (packet_at order n bytes) (records_from order link (n + 1) (offset + 16 + captured_length order (take 16 bytes)) 0
    (drop (16 + captured_length order (take 16 bytes)) bytes))
unfolding records_from
records_whole order link n offset [] long e = absurd (omega (arith, long))
records_whole order link n offset (b ∷ bytes) long e =
    let size = captured_length order (take 16 (b ∷ bytes)) in
    let skipped = records_skip order link (n + 1) (offset + 16 + size) (15 + size) bytes (omega (arith, long)) in
    let same : drop (16 + size) (b ∷ bytes) ≡ drop (15 + size) bytes = let e : 16 + size ≡ suc (15 + size) = omega arith in ap (λ (k : ℕ). drop k (b ∷ bytes)) e in
    ap (λ (r : Option CapKind). judged r n offset (packet_at order n (b ∷ bytes)) (records_from order link (n + 1) (offset + 16 + size) (15 + size) bytes)) e
    ∙ ap (one_more (packet_at order n (b ∷ bytes))) (skipped ∙ ap (records_from order link (n + 1) (offset + 16 + size) 0) (sym same))

-- the first refusal of two lists
if_more : (b : Bool) (kind k : CapKind) (x y : Option CapKind) → (x ≡ Some k → y ≡ Some k) → (if b then Some kind else x) ≡ Some k → (if b then Some kind else y) ≡ Some k
if_more true kind k x y h e = e
if_more false kind k x y h e = h e

pub first_append_some : (rows more : List (Bool × CapKind)) (k : CapKind) → first_that_holds rows ≡ Some k → first_that_holds (rows ++ more) ≡ Some k
first_append_some [] more k e = absurd (none-some k e)
first_append_some (row ∷ rows) more k e = if_more row.0 row.1 k (first_that_holds rows) (first_that_holds (rows ++ more)) (first_append_some rows more k) e

pub first_append_none : (rows more : List (Bool × CapKind)) → first_that_holds rows ≡ None → first_that_holds (rows ++ more) ≡ first_that_holds more
first_append_none [] more e = refl
first_append_none (row ∷ rows) more e =
    let p = not_first row.0 row.1 (first_that_holds rows) e in
    ap (λ (b : Bool). if b then Some row.1 else first_that_holds (rows ++ more)) p.0 ∙ first_append_none rows more p.1

same_fault : (kind : CapKind) (a b n m : ℕ) → a ≡ b → n ≡ m → ended (Some (record { kind = kind; offset = a; number = n })) ≡ ended (Some (record { kind = kind; offset = b; number = m }))
same_fault kind a b n m p q =
    ap (λ (k : ℕ). ended (Some (record { kind = kind; offset = k; number = n }))) p ∙ ap (λ (k : ℕ). ended (Some (record { kind = kind; offset = b; number = k }))) q

-- a refused header ends the capture
pub head_refused : (old new : Option (List ℕ)) (place : Place) (fault : CapFault) (count : ℕ) (buf : List ℕ) → length buf ≡ 16 → count ≤ length buf → (count ≡ 0 → ⊥)
    → Consumes old new (take count buf) × (count < length buf → IsAtEnd new)
    → IsRefusal place (head_refusals place.file.order place.link place.number (take count buf)) fault
    → Told old new (GivesHead place (Err (Cap fault)))
head_refused None new place fault count buf size le some took is = tt
head_refused (Some xs) None place fault count buf size le some took is = absurd took.0
head_refused (Some xs) (Some ys) place fault count buf size le some took is =
    let both = front_read xs ys buf count 16 size (omega arith) took.0 (λ lt. took.1 (omega arith)) in
    let order = place.file.order in
    let refused : first_that_holds (head_refusals order place.link place.number (take 16 xs)) ≡ Some fault.kind = rw both.0 is.0 in
    let all : first_that_holds (record_refusals order place.link place.number xs) ≡ Some fault.kind = first_append_some (head_refusals order place.link place.number (take 16 xs))
    (body_refusals order (take 16 xs) (drop 16 xs)) fault.kind refused in
    let long : 0 < length xs = omega (arith, ap length took.0, length-append (take count buf) ys, length-take-le count buf le) in
    record {
      some = long;
      refused = (refused, is.1, is.2);
      found = records_fault order place.link place.number place.offset xs fault.kind long all ∙ same_fault fault.kind _ _ _ _ (sym is.1) (sym is.2);
      rest = both.1;
    }

-- what the last test says
pub body_test : (order : Order) (link : Link) (n : ℕ) (bytes : List ℕ) (b : Bool) → first_that_holds (head_refusals order link n (take 16 bytes)) ≡ None
    → nat_lt (length (drop 16 bytes)) (captured_length order (take 16 bytes)) ≡ b
    → first_that_holds (record_refusals order link n bytes) ≡ (if b then Some ShortRecord else None)
body_test order link n bytes b lawful test =
    first_append_none (head_refusals order link n (take 16 bytes)) (body_refusals order (take 16 bytes) (drop 16 bytes)) lawful
    ∙ ap (λ (v : Bool). if v then Some ShortRecord else None) test

same_packet : (n a b c d e f : ℕ) (s t : List ℕ) → a ≡ b → c ≡ d → e ≡ f → s ≡ t → packet n a c e s ≡ packet n b d f t
same_packet n a b c d e f s t p q r u = rw (p, q, r, u) refl

-- a record whose body is there
pub whole_record : (place mid : Place) (bytes rest frame left : List ℕ) (head : RecHead)
    → TakesHead place bytes rest head → EntersBody place mid head → rest ≡ frame ++ left → length frame ≡ head.captured
    → found_at place bytes ≡ one_more (packet place.number head.sec head.frac head.original frame) (records_from place.file.order place.link mid.number mid.offset 0 left)
whole_record place mid bytes rest frame left head takes enters split size =
    let order = place.file.order in
    let front = take 16 bytes in
    let n = captured_length order front in
    let n_is : n ≡ length frame = sym takes.fields.captured ∙ sym size in
    let body : drop 16 bytes ≡ frame ++ left = sym takes.rest ∙ split in
    let long : n ≤ length (drop 16 bytes) = omega (arith, n_is, ap length body, length-append frame left) in
    let whole : 16 + n ≤ length bytes = omega (arith, long, length-drop 16 bytes, takes.whole) in
    let lawful = body_test order place.link place.number bytes false takes.lawful (le-ltb _ _ long) in
    let frame_is : take n (drop 16 bytes) ≡ frame = ap (take n) body ∙ take_at frame left n (sym n_is) in
    let left_is : drop (16 + n) bytes ≡ left = sym (drop-drop n 16 bytes) ∙ ap (drop n) body ∙ drop_at frame left n (sym n_is) in
    let fields = same_packet place.number _ _ _ _ _ _ _ _ (sym takes.fields.sec) (sym takes.fields.frac) (sym takes.fields.original) frame_is in
    let offset_is : place.offset + 16 + n ≡ mid.offset = omega (arith, enters.offset, n_is, size) in
    let from = records_whole order place.link place.number place.offset bytes whole lawful in
    from ∙ rw (left_is, offset_is, ← enters.number) (ap (λ (p : Packet). one_more p (records_from order place.link mid.number mid.offset 0 left)) fields)

-- a record whose body is cut short
pub cut_record : (place mid : Place) (bytes rest : List ℕ) (head : RecHead)
    → TakesHead place bytes rest head → EntersBody place mid head → length rest < head.captured
    → found_at place bytes ≡ ended (Some (short_record mid))
cut_record place mid bytes rest head takes enters short =
    let order = place.file.order in
    let cut : length (drop 16 bytes) < captured_length order (take 16 bytes) = omega (arith, ap length takes.rest, takes.fields.captured, short) in
    let some : 0 < length bytes = omega (arith, takes.whole) in
    let refused = body_test order place.link place.number bytes true takes.lawful (lt-ltb _ _ cut) in
    records_fault order place.link place.number place.offset bytes ShortRecord some refused
    ∙ same_fault ShortRecord _ _ _ _ (sym enters.current) (omega (arith, enters.number))

-- a header that was taken is taken again, whatever follows it
pub takes_again : (place : Place) (bytes rest more : List ℕ) (head : RecHead) → TakesHead place bytes rest head → TakesHead place (take 16 bytes ++ more) more head
takes_again place bytes rest more head takes =
    let front = take 16 bytes in
    let size : length front ≡ 16 = length-take-le 16 bytes takes.whole in
    let same : take 16 (front ++ more) ≡ front = take_at front more 16 size in
    record {
      whole = omega (arith, size, length-append front more);
      lawful = ap (λ (xs : List ℕ). first_that_holds (head_refusals place.file.order place.link place.number xs)) same ∙ takes.lawful;
      fields = subst (λ (xs : List ℕ). IsHead place xs head) (sym same) takes.fields;
      rest = sym (drop_at front more 16 size);
    }

-- fewer than 16 bytes hold no record
pub no_record : (place : Place) (front : List ℕ) → length front < 16 → (found_at place front).packets ≡ []
no_record place [] short = ap (λ (f : Found). f.packets) (records_none place.file.order place.link place.number place.offset)
no_record place (b ∷ bytes) short =
    let order = place.file.order in
    let xs = b ∷ bytes in
    let test : nat_lt (length (take 16 xs)) 16 ≡ true = lt-ltb _ _ (omega (arith, length-take 16 xs, short)) in
    let refused : first_that_holds (head_refusals order place.link place.number (take 16 xs)) ≡ Some ShortRecordHeader =
    ap (λ (v : Bool). if v then Some ShortRecordHeader else first_that_holds (drop 1 (head_refusals order place.link place.number (take 16 xs)))) test in
    let all = first_append_some (head_refusals order place.link place.number (take 16 xs)) (body_refusals order (take 16 xs) (drop 16 xs)) ShortRecordHeader refused in
    ap (λ (f : Found). f.packets) (records_fault order place.link place.number place.offset xs ShortRecordHeader (omega arith) all)

-- a refused header is refused again, whatever follows it
pub refused_again : (place : Place) (bytes rest : List ℕ) (fault : CapFault) → RefusesHead place bytes rest fault → found_at place (take 16 bytes) ≡ ended (Some fault)
refused_again place bytes rest fault refuses =
    let order = place.file.order in
    let xs = take 16 bytes in
    let again : take 16 xs ≡ xs = take_all 16 xs (omega (arith, length-take 16 bytes)) in
    let refused : first_that_holds (head_refusals order place.link place.number (take 16 xs)) ≡ Some fault.kind =
    ap (λ (l : List ℕ). first_that_holds (head_refusals order place.link place.number l)) again ∙ refuses.refused.0 in
    let all : first_that_holds (record_refusals order place.link place.number xs) ≡ Some fault.kind =
    first_append_some (head_refusals order place.link place.number (take 16 xs)) (body_refusals order (take 16 xs) (drop 16 xs)) fault.kind refused in
    let long : 0 < length xs = omega (arith, length-take 16 bytes, refuses.some) in
    records_fault order place.link place.number place.offset xs fault.kind long all ∙ same_fault fault.kind _ _ _ _ (sym refuses.refused.1) (sym refuses.refused.2)
