-- More bytes make nothing less: what is written of the first bytes is a prefix of what is written of all.
use Rattle.std.proofs.Common.{◌≡◌, ◌≤◌, ◌<◌, ◌+◌, ◌*◌, ℕ, zero, suc, List, [], ◌∷◌, ◌++◌, length, take, drop, refl, sym, ap, ◌∙◌, arith, Option, None, Some, Bool, true, false, length-drop}
use Rattle.std.proofs.Common.{take-append-drop, append_assoc}
use Rattle.std.specs.Prelude.{nat_le}
use Rattle.std.specs.List.{flat_map}
use Rattle.std.proofs.lemmas.List.{length-take-le}
use Rattle.std.proofs.lemmas.Bool.{leb-true, leb-false}
use Rattle.std.proofs.lemmas.Option.{none-some}
use Rattle.net_bytes.specs.Order.{number}
use Rattle.pcap_io.specs.declared.heads.RecHead.{RecHead}
use Rattle.pcap_io.specs.declared.place.Place.{Place}
use Rattle.pcap_io.specs.declared.faults.CapFault.{CapFault}
use Rattle.pcap_io.specs.declared.faults.CapKind.{CapKind}
use Rattle.pcap_io.specs.Headers.{first_that_holds, head_refusals, body_refusals, record_refusals, captured_length, original_length}
use Rattle.pcap_io.specs.Capture.{Packet, Found, ended, packet, one_more}
use Rattle.pcap_io.specs.Lengths.{lengths_at}
use Rattle.pcap_io.specs.Places.{found_at, EntersBody}
use Rattle.pcap_io.specs.Reading.{TakesHead}
use Rattle.pcap_io.proofs.LengthLaws.{lengths_by_record}
use Rattle.pcap_io.proofs.RecordLaws.{records_none, records_fault, first_append_some, whole_record, takes_again}
use Rattle.pcap_io.proofs.SplitLaws.{Unrefused, unrefused}
use Rattle.offload_model.specs.Need.{need_of, found_before, exceeded_at}
use Rattle.offload_model.specs.Passing.{Passed}
use Rattle.wire_model.specs.declared.wiring.Wiring.{Wiring}
use Rattle.wire_model.specs.Passing.{wire_bytes, wiring, IsFrontOf, WiresGrow}
use Rattle.wire_model.proofs.Passing.{wiring_goes_by_record}

-- ---- nothing is written

take_none : (n : ℕ) (none : List Packet) → none ≡ [] → take n none ≡ []
take_none n [] e = by n
  where
    by : (m : ℕ) → take {A = Packet} m [] ≡ []
    by zero = refl
    by (suc m) = refl
take_none n (p ∷ ps) e = absurd cc

before_none : (e : Option (ℕ × ℕ)) (fault : Option CapFault) → (found_before 1 e (ended fault)).packets ≡ []
before_none None fault = refl
before_none (Some at) fault = take_none (at.0 * 1) [] refl

ends_empty : (blocks : ℕ) (o : Wiring) (place : Place) (bytes : List ℕ) (fault : Option CapFault) → found_at place bytes ≡ ended fault → (wiring blocks o place bytes).output ≡ []
ends_empty blocks o place bytes fault e =
    let at = exceeded_at blocks 1 place bytes in
    let none : (found_before 1 at (found_at place bytes)).packets ≡ [] = ap (λ (f : Found). (found_before 1 at f).packets) e ∙ before_none at fault in
    ap (λ (ps : List Packet). flat_map (wire_bytes o place.file.order) ps) none

front_none : (a b : List ℕ) → a ≡ [] → IsFrontOf a b
front_none a b e = (b, ap (λ z. z ++ b) (sym e))

front_behind : (done a b : List ℕ) → IsFrontOf a b → IsFrontOf (done ++ a) (done ++ b)
front_behind done a b f = (f.0, ap (λ z. done ++ z) f.1 ∙ sym (append_assoc done a f.0))

-- ---- a whole record at the front

head_passes : (place : Place) (bytes : List ℕ) → first_that_holds (record_refusals place.file.order place.link place.number bytes) ≡ None
    → (h : Option CapKind) → first_that_holds (head_refusals place.file.order place.link place.number (take 16 bytes)) ≡ h
    → first_that_holds (head_refusals place.file.order place.link place.number (take 16 bytes)) ≡ None
head_passes place bytes e None h = h
head_passes place bytes e (Some kind) h =
    absurd (none-some kind (sym e ∙ first_append_some (head_refusals place.file.order place.link place.number (take 16 bytes)) (body_refusals place.file.order (take 16 bytes) (drop 16 bytes)) kind h))

module _ (blocks : ℕ) (o : Wiring) (place : Place) (xs : List ℕ) (lawful : first_that_holds (record_refusals place.file.order place.link place.number xs) ≡ None) where
  abbrev size : ℕ
  size = captured_length place.file.order (take 16 xs)

  abbrev head : RecHead
  head = record {
    sec = number place.file.order 4 (take 16 xs);
    frac = number place.file.order 4 (drop 4 (take 16 xs));
    captured = size;
    original = original_length place.file.order (take 16 xs);
    number = place.number;
    offset = place.offset;
  }

  abbrev mid : Place
  mid = record { file = place.file; link = place.link; number = place.number + 1; offset = place.offset + 16 + size; current = place.offset; body = size; is_done = false }

  abbrev frame : List ℕ
  frame = take size (drop 16 xs)

  abbrev left : List ℕ
  left = drop size (drop 16 xs)

  abbrev r : Packet
  r = packet place.number head.sec head.frac head.original frame

  abbrev at : List ℕ → List ℕ
  at tail = take 16 xs ++ (frame ++ tail)

  is : Unrefused place.file.order place.link place.number xs
  is = unrefused place.file.order place.link place.number xs lawful

  long : length frame ≡ size
  long = length-take-le size (drop 16 xs) is.body

  takes : TakesHead place xs (drop 16 xs) head
  takes = record { whole = is.head; lawful = head_passes place xs lawful _ refl; fields = record { sec = refl; frac = refl; captured = refl; original = refl }; rest = refl }

  enters : EntersBody place mid head
  enters = record { file = refl; link = refl; number = refl; offset = refl; current = refl; body = refl; goes_on = refl; numbered = refl; lies = refl }

  found : (tail : List ℕ) → found_at place (at tail) ≡ one_more r (found_at mid tail)
  found tail = whole_record place mid (at tail) (frame ++ tail) frame tail head (takes_again place xs (drop 16 xs) (frame ++ tail) head takes) enters refl long

  lens : (tail : List ℕ) → lengths_at place (at tail) ≡ length frame ∷ lengths_at mid tail
  lens tail =
      (lengths_by_record place).whole mid (at tail) (frame ++ tail) frame tail head (takes_again place xs (drop 16 xs) (frame ++ tail) head takes) enters refl long
      ∙ ap (λ (n : ℕ). n ∷ lengths_at mid tail) (sym long)

  whole : xs ≡ at left
  whole = sym (take-append-drop 16 xs) ∙ ap (λ z. take 16 xs ++ z) (sym (take-append-drop size (drop 16 xs)))

  whole_more : (ys : List ℕ) → xs ++ ys ≡ at (left ++ ys)
  whole_more ys =
      ap (λ z. z ++ ys) whole ∙ append_assoc (take 16 xs) (frame ++ left) ys ∙ ap (λ z. take 16 xs ++ z) (append_assoc frame left ys)

  shorter : length left + 16 ≤ length xs
  shorter = omega (arith, length-drop size (drop 16 xs), length-drop 16 xs, is.head)

  abbrev Grows : List ℕ → Type 0
  Grows ys = IsFrontOf (wiring blocks o place xs).output (wiring blocks o place (xs ++ ys)).output

  -- it is written
  whole_front : (ys : List ℕ) → need_of (length frame) ≤ blocks
      → IsFrontOf (wiring blocks o mid left).output (wiring blocks o mid (left ++ ys)).output → Grows ys
  whole_front ys fits rest =
      let done = wire_bytes o place.file.order r in
      let one : (tail : List ℕ) → (wiring blocks o place (at tail)).output ≡ done ++ (wiring blocks o mid tail).output =
      λ tail. ap (λ (x : Passed). x.output) ((wiring_goes_by_record blocks o place (at tail)).whole r mid tail fits refl (found tail) (lens tail)) in
      let f = front_behind done _ _ rest in
      (f.0, ap (λ z. (wiring blocks o place z).output) (whole_more ys) ∙ one (left ++ ys) ∙ f.1 ∙ ap (λ z. z ++ f.0) (sym (ap (λ z. (wiring blocks o place z).output) whole ∙ one left)))

  -- or nothing is
  exceeds_front : (ys : List ℕ) → blocks < need_of (length frame) → Grows ys
  exceeds_front ys more =
      front_none _ _ (ap (λ z. (wiring blocks o place z).output) whole
      ∙ ap (λ (x : Passed). x.output) ((wiring_goes_by_record blocks o place (at left)).exceeds (length frame) (lengths_at mid left) more (lens left)))

  record_front : (ys : List ℕ) → IsFrontOf (wiring blocks o mid left).output (wiring blocks o mid (left ++ ys)).output → Grows ys
  record_front ys rest = by_need (nat_le (need_of (length frame)) blocks) refl
    where
      by_need : (v : Bool) → nat_le (need_of (length frame)) blocks ≡ v → Grows ys
      by_need true e = whole_front ys (leb-true _ _ e) rest
      by_need false e = exceeds_front ys (leb-false _ _ e)

-- ---- all of them

wires_grow_by : (fuel blocks : ℕ) (o : Wiring) (place : Place) (xs ys : List ℕ) → length xs ≤ fuel → IsFrontOf (wiring blocks o place xs).output (wiring blocks o place (xs ++ ys)).output
wires_grow_by fuel blocks o place [] ys le = front_none _ _ (ends_empty blocks o place [] None (records_none place.file.order place.link place.number place.offset))
wires_grow_by zero blocks o place (x ∷ xs) ys le = absurd (omega (arith, le))
wires_grow_by (suc fuel) blocks o place (x ∷ xs) ys le =
    by (λ p left l. wires_grow_by fuel blocks o p left ys l) (first_that_holds (record_refusals place.file.order place.link place.number (x ∷ xs))) refl
  where
    by : ((p : Place) (left : List ℕ) → length left ≤ fuel → IsFrontOf (wiring blocks o p left).output (wiring blocks o p (left ++ ys)).output)
        → (k : Option CapKind) → first_that_holds (record_refusals place.file.order place.link place.number (x ∷ xs)) ≡ k
        → IsFrontOf (wiring blocks o place (x ∷ xs)).output (wiring blocks o place ((x ∷ xs) ++ ys)).output
    by more None e =
        record_front blocks o place (x ∷ xs) e ys
        (more (mid blocks o place (x ∷ xs) e) (left blocks o place (x ∷ xs) e) (omega (arith, le, shorter blocks o place (x ∷ xs) e)))
    by more (Some kind) e = front_none _ _ (ends_empty blocks o place (x ∷ xs) _ (records_fault place.file.order place.link place.number place.offset (x ∷ xs) kind (omega arith) e))

pub wires_grow : WiresGrow
wires_grow blocks o place xs ys = wires_grow_by (length xs) blocks o place xs ys (omega arith)
