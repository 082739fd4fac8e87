-- The captured lengths of a capture, record by record, and beside its packets.
use Rattle.std.proofs.Common.{◌≡◌, ◌<◌, ◌≤◌, ◌+◌, ℕ, zero, suc, List, [], ◌∷◌, ◌++◌, length, map, take, drop, refl, sym, ap, ◌∙◌, arith, Option, None, Some, Bool, true, false, length-append}
use Rattle.std.proofs.Common.{length-drop}
use Rattle.std.proofs.lemmas.List.{drop_at, drop-drop, length-take-le}
use Rattle.std.proofs.lemmas.Bool.{lt-ltb, le-ltb}
use Rattle.std.proofs.lemmas.Option.{none-some}
use Rattle.net_bytes.specs.declared.order.Order.{Order}
use Rattle.pcap_io.specs.declared.heads.Link.{Link}
use Rattle.pcap_io.specs.declared.heads.FileHead.{FileHead}
use Rattle.pcap_io.specs.declared.heads.RecHead.{RecHead}
use Rattle.pcap_io.specs.declared.place.Place.{Place}
use Rattle.pcap_io.specs.declared.faults.CapKind.{CapKind}
use Rattle.pcap_io.specs.declared.faults.CapKind.TheVariants as kinds
use Rattle.pcap_io.specs.Headers.{first_that_holds, head_refusals, body_refusals, record_refusals, captured_length}
use Rattle.pcap_io.specs.Capture.{Packet, Found, packet_at, judged, records_from}
use Rattle.pcap_io.specs.Places.{EntersBody}
use Rattle.pcap_io.specs.Lengths.{lengths_by, lengths_from, lengths_at}
use Rattle.pcap_io.specs.Reading.{TakesHead}
use Rattle.pcap_io.specs.Laws.{LengthsByRecord, LengthsOfPackets, frame_length}
use Rattle.pcap_io.proofs.RecordLaws.{body_test, first_append_some}
use Rattle.pcap_io.proofs.SplitLaws.{unrefused}

pub lengths_none : (order : Order) (link : Link) (n : ℕ) → lengths_from order link n 0 [] ≡ []
unfolding lengths_from
lengths_none order link n = refl

-- bytes that belong to the record before are passed over
pub lengths_skip : (order : Order) (link : Link) (n skip : ℕ) (bytes : List ℕ) → skip ≤ length bytes
    → lengths_from order link n skip bytes ≡ lengths_from order link n 0 (drop skip bytes)
unfolding lengths_from
lengths_skip order link n zero [] le = refl
lengths_skip order link n (suc skip) [] le = absurd (omega (arith, le))
lengths_skip order link n zero (b ∷ bytes) le = refl
lengths_skip order link n (suc skip) (b ∷ bytes) le = lengths_skip order link n skip bytes (omega (arith, le))

-- the record at the front, by what refuses it
pub lengths_here : (order : Order) (link : Link) (n : ℕ) (bytes : List ℕ) (refused : Option CapKind) → 0 < length bytes
    → first_that_holds (record_refusals order link n bytes) ≡ refused
    → lengths_from order link n 0 bytes
    ≡ lengths_by refused (captured_length order (take 16 bytes)) (lengths_from order link (n + 1) (15 + captured_length order (take 16 bytes)) (drop 1 bytes))
unfolding lengths_from
lengths_here order link n [] refused some e = absurd (omega (arith, some))
lengths_here order link n (b ∷ bytes) refused some e =
    let size = captured_length order (take 16 (b ∷ bytes)) in
    ap (λ (r : Option CapKind). lengths_by r size (lengths_from order link (n + 1) (15 + size) bytes)) e

pub lengths_whole : (order : Order) (link : Link) (n : ℕ) (bytes : List ℕ) → 16 + captured_length order (take 16 bytes) ≤ length bytes
    → first_that_holds (record_refusals order link n bytes) ≡ None
    → lengths_from order link n 0 bytes
    ≡ captured_length order (take 16 bytes) ∷ lengths_from order link (n + 1) 0 (drop (16 + captured_length order (take 16 bytes)) bytes)
lengths_whole order link n bytes long e =
    let size = captured_length order (take 16 bytes) in
    let rest = lengths_skip order link (n + 1) (15 + size) (drop 1 bytes) (omega (arith, long, length-drop 1 bytes)) in
    let same : drop (15 + size) (drop 1 bytes) ≡ drop (16 + size) bytes =
    let e : 1 + (15 + size) ≡ 16 + size = omega arith in drop-drop (15 + size) 1 bytes ∙ ap (λ (k : ℕ). drop k bytes) e in
    lengths_here order link n bytes None (omega (arith, long)) e
    ∙ ap (λ (l : List ℕ). size ∷ l) (rest ∙ ap (lengths_from order link (n + 1) 0) same)

-- no test of a header refuses a body
refused_by : (a b c d e : Bool) (kind : CapKind) (size : ℕ) (rest : List ℕ)
    → first_that_holds ((a, kinds.ShortRecordHeader) ∷ (b, kinds.TooMany) ∷ (c, kinds.TooLong) ∷ (d, kinds.BadOriginal) ∷ (e, kinds.BadOffload) ∷ []) ≡ Some kind
    → lengths_by (Some kind) size rest ≡ []
refused_by true b c d e kind size rest p = ap (λ (r : Option CapKind). lengths_by r size rest) (sym p)
refused_by false true c d e kind size rest p = ap (λ (r : Option CapKind). lengths_by r size rest) (sym p)
refused_by false false true d e kind size rest p = ap (λ (r : Option CapKind). lengths_by r size rest) (sym p)
refused_by false false false true e kind size rest p = ap (λ (r : Option CapKind). lengths_by r size rest) (sym p)
refused_by false false false false true kind size rest p = ap (λ (r : Option CapKind). lengths_by r size rest) (sym p)
refused_by false false false false false kind size rest p = absurd (none-some kind p)

pub lengths_refused : (order : Order) (link : Link) (n : ℕ) (bytes : List ℕ) (kind : CapKind) → 0 < length bytes
    → first_that_holds (head_refusals order link n (take 16 bytes)) ≡ Some kind → lengths_from order link n 0 bytes ≡ []
lengths_refused order link n bytes kind some e =
    let all = first_append_some (head_refusals order link n (take 16 bytes)) (body_refusals order (take 16 bytes) (drop 16 bytes)) kind e in
    lengths_here order link n bytes (Some kind) some all ∙ refused_by _ _ _ _ _ kind _ _ e

same_lengths : (a b : ℕ) (o o' : Order) (l l' : Link) (n n' : ℕ) (xs ys : List ℕ) → a ≡ b → o ≡ o' → l ≡ l' → n ≡ n' → xs ≡ ys
    → a ∷ lengths_from o l n 0 xs ≡ b ∷ lengths_from o' l' n' 0 ys
same_lengths a b o o' l l' n n' xs ys p q r s t = rw (p, q, r, s, t) refl

-- a record whose body is there
whole_length : (place mid : Place) (bytes rest frame left : List ℕ) (head : RecHead)
    → TakesHead place bytes rest head → EntersBody place mid head → rest ≡ frame ++ left → length frame ≡ head.captured
    → lengths_at place bytes ≡ head.captured ∷ lengths_at mid left
whole_length place mid bytes rest frame left head takes enters split size =
    let order = place.file.order in
    let n = captured_length order (take 16 bytes) in
    let n_is : n ≡ head.captured = sym takes.fields.captured in
    let body : drop 16 bytes ≡ frame ++ left = sym takes.rest ∙ split in
    let long : n ≤ length (drop 16 bytes) = omega (arith, n_is, size, ap length body, length-append frame left) in
    let whole : 16 + n ≤ length bytes = omega (arith, long, length-drop 16 bytes, takes.whole) in
    let lawful = body_test order place.link place.number bytes false takes.lawful (le-ltb _ _ long) in
    let left_is : drop (16 + n) bytes ≡ left = sym (drop-drop n 16 bytes) ∙ ap (drop n) body ∙ drop_at frame left n (size ∙ sym n_is) in
    lengths_whole order place.link place.number bytes whole lawful
    ∙ same_lengths n head.captured order mid.file.order place.link mid.link (place.number + 1) mid.number _ left
    n_is (ap (λ (f : FileHead). f.order) (sym enters.file)) (sym enters.link) (sym enters.number) left_is

-- a record whose body is cut short
cut_length : (place : Place) (bytes rest : List ℕ) (head : RecHead) → TakesHead place bytes rest head → length rest < head.captured
    → lengths_at place bytes ≡ head.captured ∷ []
cut_length place bytes rest head takes short =
    let order = place.file.order in
    let cut : length (drop 16 bytes) < captured_length order (take 16 bytes) = omega (arith, ap length takes.rest, takes.fields.captured, short) in
    let refused = body_test order place.link place.number bytes true takes.lawful (lt-ltb _ _ cut) in
    lengths_here order place.link place.number bytes (Some kinds.ShortRecord) (omega (arith, takes.whole)) refused
    ∙ ap (λ (k : ℕ). k ∷ []) (sym takes.fields.captured)

pub lengths_by_record : LengthsByRecord
lengths_by_record place = record {
  none = lengths_none place.file.order place.link place.number;
  refused = λ bytes left fault refuses.
      lengths_refused place.file.order place.link place.number bytes fault.kind refuses.some refuses.refused.0;
  whole = whole_length place;
  cut = cut_length place;
}

-- ---- beside the packets

abbrev AreOfPackets : List ℕ → List Packet → Type 0
AreOfPackets lens ps = (more : List ℕ) × (lens ≡ map frame_length ps ++ more) × (length more ≤ 1)

one_at_most : (kind : CapKind) (size : ℕ) (rest : List ℕ) → length (lengths_by (Some kind) size rest) ≤ 1
one_at_most kinds.ShortHeader size rest = omega arith
one_at_most kinds.BadMagic size rest = omega arith
one_at_most kinds.BadVersion size rest = omega arith
one_at_most kinds.BadLinkType size rest = omega arith
one_at_most kinds.ShortRecordHeader size rest = omega arith
one_at_most kinds.TooMany size rest = omega arith
one_at_most kinds.TooLong size rest = omega arith
one_at_most kinds.BadOriginal size rest = omega arith
one_at_most kinds.BadOffload size rest = omega arith
one_at_most kinds.ShortRecord size rest = omega arith

of_record : (r : Option CapKind) (size n offset : ℕ) (p : Packet) (lens : List ℕ) (f : Found) → (r ≡ None → frame_length p ≡ size)
    → AreOfPackets lens f.packets → AreOfPackets (lengths_by r size lens) (judged r n offset p f).packets
of_record None size n offset p lens f long rest =
    (rest.0, ap (λ (k : ℕ). k ∷ lens) (sym (long refl)) ∙ ap (λ (l : List ℕ). frame_length p ∷ l) rest.1, rest.2)
of_record (Some kind) size n offset p lens f long rest = (lengths_by (Some kind) size lens, refl, one_at_most kind size lens)

-- a record that nothing refuses is whole
is_whole : (order : Order) (link : Link) (n : ℕ) (bytes : List ℕ) → first_that_holds (record_refusals order link n bytes) ≡ None
    → length (take (captured_length order (take 16 bytes)) (drop 16 bytes)) ≡ captured_length order (take 16 bytes)
is_whole order link n bytes none =
    length-take-le (captured_length order (take 16 bytes)) (drop 16 bytes) (unrefused order link n bytes none).body

of_packets : (order : Order) (link : Link) (n offset skip : ℕ) (bytes : List ℕ)
    → AreOfPackets (lengths_from order link n skip bytes) (records_from order link n offset skip bytes).packets
unfolding lengths_from records_from
of_packets order link n offset zero [] = ([], refl, omega arith)
of_packets order link n offset (suc skip) [] = ([], refl, omega arith)
of_packets order link n offset (suc skip) (b ∷ bytes) = of_packets order link n offset skip bytes
of_packets order link n offset zero (b ∷ bytes) =
    let size = captured_length order (take 16 (b ∷ bytes)) in
    of_record (first_that_holds (record_refusals order link n (b ∷ bytes))) size n offset (packet_at order n (b ∷ bytes))
    (lengths_from order link (n + 1) (15 + size) bytes) (records_from order link (n + 1) (offset + 16 + size) (15 + size) bytes)
    (is_whole order link n (b ∷ bytes)) (of_packets order link (n + 1) (offset + 16 + size) (15 + size) bytes)

pub lengths_of_packets : LengthsOfPackets
lengths_of_packets place bytes = of_packets place.file.order place.link place.number place.offset 0 bytes
