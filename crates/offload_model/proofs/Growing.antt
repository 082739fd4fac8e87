-- More bytes make no segment less: what segmenting writes of the first bytes is a prefix of what it writes of all.
use Rattle.std.proofs.Common.{◌≡◌, ◌≤◌, ◌<◌, ◌+◌, ◌-◌, ◌*◌, ℕ, zero, suc, List, [], ◌∷◌, ◌++◌, length, take, drop, refl, sym, ap, ◌∙◌, arith, Option, None, Some, Bool, true, false, length-drop}
use Rattle.std.proofs.Common.{take-append-drop, append_assoc}
use Rattle.std.specs.Prelude.{nat_le}
use Rattle.std.specs.List.{flat_map}
use Rattle.std.proofs.lemmas.List.{length-take-le}
use Rattle.std.proofs.lemmas.Bool.{leb-true, leb-false}
use Rattle.std.proofs.lemmas.Option.{none-some}
use Rattle.net_bytes.specs.Order.{number}
use Rattle.pcap_io.specs.declared.heads.RecHead.{RecHead}
use Rattle.pcap_io.specs.declared.place.Place.{Place}
use Rattle.pcap_io.specs.declared.faults.CapFault.{CapFault}
use Rattle.pcap_io.specs.declared.faults.CapKind.{CapKind}
use Rattle.pcap_io.specs.Headers.{first_that_holds, head_refusals, body_refusals, record_refusals, captured_length, original_length}
use Rattle.pcap_io.specs.Capture.{Packet, Found, ended, packet, one_more}
use Rattle.pcap_io.specs.Lengths.{lengths_at}
use Rattle.pcap_io.specs.Places.{found_at, EntersBody}
use Rattle.pcap_io.specs.Reading.{TakesHead}
use Rattle.pcap_io.proofs.LengthLaws.{lengths_by_record}
use Rattle.pcap_io.proofs.RecordLaws.{records_none, records_fault, first_append_some, whole_record, takes_again}
use Rattle.pcap_io.proofs.SplitLaws.{Unrefused, unrefused}
use Rattle.offload_model.specs.Segments.{segments_of}
use Rattle.offload_model.specs.Tests.{is_lawful_record}
use Rattle.offload_model.specs.Tested.{tested_from}
use Rattle.offload_model.specs.Written.{record_bytes}
use Rattle.offload_model.specs.Need.{need_of, found_before, exceeded_record_at}
use Rattle.offload_model.specs.Passing.{Passed, segmenting}
use Rattle.offload_model.specs.PassingLaws.{SegmentsGrow, IsFrontOf}
use Rattle.offload_model.proofs.Steps.{segmenting_goes_by_record}

-- ---- nothing is written

take_none : (n : ℕ) (none : List Packet) → none ≡ [] → take n none ≡ []
take_none n [] e = by n
  where
    by : (m : ℕ) → take {A = Packet} m [] ≡ []
    by zero = refl
    by (suc m) = refl
take_none n (p ∷ ps) e = absurd cc

before_none : (e : Option (ℕ × ℕ)) (fault : Option CapFault) → (found_before 1 e (ended fault)).packets ≡ []
before_none None fault = refl
before_none (Some at) fault = take_none (at.0 * 1) [] refl

ends_empty : (blocks : ℕ) (place : Place) (bytes : List ℕ) (fault : Option CapFault) → found_at place bytes ≡ ended fault → (segmenting blocks place bytes).output ≡ []
ends_empty blocks place bytes fault e =
    let at = exceeded_record_at blocks place bytes in
    let none : (found_before 1 at (found_at place bytes)).packets ≡ [] = ap (λ (f : Found). (found_before 1 at f).packets) e ∙ before_none at fault in
    ap (λ (ps : List Packet). flat_map (record_bytes place.file.order) (flat_map segments_of (tested_from place.offset ps (found_before 1 at (found_at place bytes)).fault).packets)) none

front_none : (a b : List ℕ) → a ≡ [] → IsFrontOf a b
front_none a b e = (b, ap (λ z. z ++ b) (sym e))

front_behind : (done a b : List ℕ) → IsFrontOf a b → IsFrontOf (done ++ a) (done ++ b)
front_behind done a b f = (f.0, ap (λ z. done ++ z) f.1 ∙ sym (append_assoc done a f.0))

-- ---- a whole record at the front

head_passes : (place : Place) (bytes : List ℕ) → first_that_holds (record_refusals place.file.order place.link place.number bytes) ≡ None
    → (h : Option CapKind) → first_that_holds (head_refusals place.file.order place.link place.number (take 16 bytes)) ≡ h
    → first_that_holds (head_refusals place.file.order place.link place.number (take 16 bytes)) ≡ None
head_passes place bytes e None h = h
head_passes place bytes e (Some kind) h =
    absurd (none-some kind (sym e ∙ first_append_some (head_refusals place.file.order place.link place.number (take 16 bytes)) (body_refusals place.file.order (take 16 bytes) (drop 16 bytes)) kind h))

module _ (blocks : ℕ) (place : Place) (xs : List ℕ) (lawful : first_that_holds (record_refusals place.file.order place.link place.number xs) ≡ None) where
  abbrev size : ℕ
  size = captured_length place.file.order (take 16 xs)

  abbrev head : RecHead
  head = record {
    sec = number place.file.order 4 (take 16 xs);
    frac = number place.file.order 4 (drop 4 (take 16 xs));
    captured = size;
    original = original_length place.file.order (take 16 xs);
    number = place.number;
    offset = place.offset;
  }

  abbrev mid : Place
  mid = record { file = place.file; link = place.link; number = place.number + 1; offset = place.offset + 16 + size; current = place.offset; body = size; is_done = false }

  abbrev frame : List ℕ
  frame = take size (drop 16 xs)

  abbrev left : List ℕ
  left = drop size (drop 16 xs)

  abbrev r : Packet
  r = packet place.number head.sec head.frac head.original frame

  abbrev at : List ℕ → List ℕ
  at tail = take 16 xs ++ (frame ++ tail)

  is : Unrefused place.file.order place.link place.number xs
  is = unrefused place.file.order place.link place.number xs lawful

  long : length frame ≡ size
  long = length-take-le size (drop 16 xs) is.body

  takes : TakesHead place xs (drop 16 xs) head
  takes = record { whole = is.head; lawful = head_passes place xs lawful _ refl; fields = record { sec = refl; frac = refl; captured = refl; original = refl }; rest = refl }

  enters : EntersBody place mid head
  enters = record { file = refl; link = refl; number = refl; offset = refl; current = refl; body = refl; goes_on = refl; numbered = refl; lies = refl }

  found : (tail : List ℕ) → found_at place (at tail) ≡ one_more r (found_at mid tail)
  found tail = whole_record place mid (at tail) (frame ++ tail) frame tail head (takes_again place xs (drop 16 xs) (frame ++ tail) head takes) enters refl long

  lens : (tail : List ℕ) → lengths_at place (at tail) ≡ length frame ∷ lengths_at mid tail
  lens tail =
      (lengths_by_record place).whole mid (at tail) (frame ++ tail) frame tail head (takes_again place xs (drop 16 xs) (frame ++ tail) head takes) enters refl long
      ∙ ap (λ (n : ℕ). n ∷ lengths_at mid tail) (sym long)

  whole : xs ≡ at left
  whole = sym (take-append-drop 16 xs) ∙ ap (λ z. take 16 xs ++ z) (sym (take-append-drop size (drop 16 xs)))

  whole_more : (ys : List ℕ) → xs ++ ys ≡ at (left ++ ys)
  whole_more ys =
      ap (λ z. z ++ ys) whole ∙ append_assoc (take 16 xs) (frame ++ left) ys ∙ ap (λ z. take 16 xs ++ z) (append_assoc frame left ys)

  shorter : length left + 16 ≤ length xs
  shorter = omega (arith, length-drop size (drop 16 xs), length-drop 16 xs, is.head)

  abbrev Grows : List ℕ → Type 0
  Grows ys = IsFrontOf (segmenting blocks place xs).output (segmenting blocks place (xs ++ ys)).output

  -- it is cut
  cut_front : (ys : List ℕ) → need_of (length frame - 12) ≤ blocks → is_lawful_record r ≡ true
      → IsFrontOf (segmenting blocks mid left).output (segmenting blocks mid (left ++ ys)).output → Grows ys
  cut_front ys fits good rest =
      let done = flat_map (record_bytes place.file.order) (segments_of r) in
      let one : (tail : List ℕ) → (segmenting blocks place (at tail)).output ≡ done ++ (segmenting blocks mid tail).output =
      λ tail. ap (λ (x : Passed). x.output) ((segmenting_goes_by_record blocks place (at tail)).lawful r mid tail fits good refl (ap (λ (n : ℕ). place.offset + 16 + n) (sym long)) (found tail)
      (lens tail)) in
      let f = front_behind done _ _ rest in
      (f.0, ap (λ z. (segmenting blocks place z).output) (whole_more ys) ∙ one (left ++ ys) ∙ f.1 ∙ ap (λ z. z ++ f.0) (sym (ap (λ z. (segmenting blocks place z).output) whole ∙ one left)))

  -- or nothing is written
  unlawful_front : (ys : List ℕ) → need_of (length frame - 12) ≤ blocks → is_lawful_record r ≡ false → Grows ys
  unlawful_front ys fits bad =
      front_none _ _ (ap (λ z. (segmenting blocks place z).output) whole
      ∙ ap (λ (x : Passed). x.output) ((segmenting_goes_by_record blocks place (at left)).unlawful r mid left fits bad (found left) (lens left)))

  exceeds_front : (ys : List ℕ) → blocks < need_of (length frame - 12) → Grows ys
  exceeds_front ys more =
      front_none _ _ (ap (λ z. (segmenting blocks place z).output) whole
      ∙ ap (λ (x : Passed). x.output) ((segmenting_goes_by_record blocks place (at left)).exceeds (length frame) (lengths_at mid left) more (lens left)))

  record_front : (ys : List ℕ) → IsFrontOf (segmenting blocks mid left).output (segmenting blocks mid (left ++ ys)).output → Grows ys
  record_front ys rest = by_need (nat_le (need_of (length frame - 12)) blocks) refl
    where
      by_law : (v : Bool) → is_lawful_record r ≡ v → need_of (length frame - 12) ≤ blocks → Grows ys
      by_law true e fits = cut_front ys fits e rest
      by_law false e fits = unlawful_front ys fits e

      by_need : (v : Bool) → nat_le (need_of (length frame - 12)) blocks ≡ v → Grows ys
      by_need true e = by_law (is_lawful_record r) refl (leb-true _ _ e)
      by_need false e = exceeds_front ys (leb-false _ _ e)

-- ---- all of them

segments_grow_by : (fuel blocks : ℕ) (place : Place) (xs ys : List ℕ) → length xs ≤ fuel → IsFrontOf (segmenting blocks place xs).output (segmenting blocks place (xs ++ ys)).output
segments_grow_by fuel blocks place [] ys le = front_none _ _ (ends_empty blocks place [] None (records_none place.file.order place.link place.number place.offset))
segments_grow_by zero blocks place (x ∷ xs) ys le = absurd (omega (arith, le))
segments_grow_by (suc fuel) blocks place (x ∷ xs) ys le =
    by (λ p left l. segments_grow_by fuel blocks p left ys l) (first_that_holds (record_refusals place.file.order place.link place.number (x ∷ xs))) refl
  where
    by : ((p : Place) (left : List ℕ) → length left ≤ fuel → IsFrontOf (segmenting blocks p left).output (segmenting blocks p (left ++ ys)).output)
        → (o : Option CapKind) → first_that_holds (record_refusals place.file.order place.link place.number (x ∷ xs)) ≡ o
        → IsFrontOf (segmenting blocks place (x ∷ xs)).output (segmenting blocks place ((x ∷ xs) ++ ys)).output
    by more None e =
        record_front blocks place (x ∷ xs) e ys
        (more (mid blocks place (x ∷ xs) e) (left blocks place (x ∷ xs) e) (omega (arith, le, shorter blocks place (x ∷ xs) e)))
    by more (Some kind) e = front_none _ _ (ends_empty blocks place (x ∷ xs) _ (records_fault place.file.order place.link place.number place.offset (x ∷ xs) kind (omega arith) e))

pub segments_grow : SegmentsGrow
segments_grow blocks place xs ys = segments_grow_by (length xs) blocks place xs ys (omega arith)
