-- What the tests of a header come to, and the fields of a lawful one.
use Rattle.std.proofs.Common.{◌≡◌, ◌<◌, ◌≤◌, ◌^◌, ◌+◌, ◌-◌, ℕ, List, [], ◌∷◌}
use Rattle.std.proofs.Common.{length, take, drop, Bool, true, false, Option, None, Some, Ok}
use Rattle.std.proofs.Common.{if◌then◌else◌, refl, sym, ap, ◌∙◌, subst, arith, length-drop, length-take}
use Rattle.std.specs.Prelude.{unwrap_or, is_none, nat_lt, not, ◌&&◌, ◌==◌}
use Rattle.std.specs.Io.KnownBytes.{Consumes, IsAtEnd}
use Rattle.std.proofs.lemmas.Bool.{ltb-false, leb-false, le-ltb, lt-leb, eq-eqb, ne_eqb}
use Rattle.std.proofs.lemmas.List.{take_all, get_or-take}
use Rattle.net_bytes.specs.declared.order.Order.{Order}
use Rattle.net_bytes.specs.declared.order.Order.TheVariants.{Little}
use Rattle.net_bytes.specs.Order.{number}
use Rattle.net_bytes.specs.Bytes.{byte, be32}
use Rattle.off_io.specs.Told.{Told}
use Rattle.pcap_io.specs.declared.heads.Link.{Link}
use Rattle.pcap_io.specs.declared.heads.Link.TheVariants as links
use Rattle.pcap_io.specs.declared.heads.RecHead.{RecHead}
use Rattle.pcap_io.specs.declared.place.Place.{Place}
use Rattle.pcap_io.specs.declared.faults.CapKind.{CapKind}
use Rattle.pcap_io.specs.declared.faults.CapKind.TheVariants.{ShortHeader, BadMagic, BadVersion, BadLinkType}
use Rattle.pcap_io.specs.declared.faults.CapKind.TheVariants.{ShortRecordHeader, TooMany, TooLong, BadOriginal}
use Rattle.pcap_io.specs.declared.faults.CapKind.TheVariants.{BadOffload}
use Rattle.pcap_io.specs.Limits.{most_record}
use Rattle.pcap_io.specs.Headers.{first_that_holds, file_refusals, head_refusals, captured_length, original_length}
use Rattle.pcap_io.specs.Headers.{captured_limit, link_number, is_bad_original, lacks_off_head, order_of, spelling_of}
use Rattle.pcap_io.specs.Headers.{file_head, off_head2}
use Rattle.pcap_io.specs.Places.{Counted, IsHead}
use Rattle.pcap_io.specs.Reading.{GivesHead}
use Rattle.pcap_io.proofs.Fronts.{not_first, front_read}

-- a number that is read from a place on
pub number_behind : (order : Order) (k n : ℕ) (xs : List ℕ)
    → number order k (take (length xs - n) (drop n xs)) ≡ number order k (drop n xs)
number_behind order k n xs =
    let short : length (drop n xs) ≤ length xs - n = omega (arith, length-drop n xs) in
    ap (number order k) (take_all (length xs - n) (drop n xs) short)

-- a test that holds refuses, and one that doesn't leaves it to those behind it
refuses : (b : Bool) (kind : CapKind) (rest : Option CapKind) → b ≡ true
    → Some kind ≡ (if b then Some kind else rest)
refuses b kind rest e = ap (λ (x : Bool). if x then Some kind else rest) (sym e)

passes : (b : Bool) (kind : CapKind) (rest : Option CapKind) → b ≡ false
    → rest ≡ (if b then Some kind else rest)
passes b kind rest e = ap (λ (x : Bool). if x then Some kind else rest) (sym e)

-- a file header of 24 bytes that names its byte order, and the two numbers of its version
module _ (link : Link) (head : List ℕ) (order : Order) (nanos : Bool)
    (named : spelling_of head ≡ Some (order, nanos)) (long : 24 ≤ length head) (a b : ℕ)
    (major : a ≡ number order 2 (take (length head - 4) (drop 4 head)))
    (minor : b ≡ number order 2 (take (length head - 6) (drop 6 head))) where
  order_is : order ≡ order_of head
  order_is = ap (λ (o : Option (Order × Bool)). (unwrap_or o (Little, false)).0) (sym named)

  read : (k n m : ℕ) → m ≡ number order k (take (length head - n) (drop n head))
      → m ≡ number (order_of head) k (drop n head)
  read k n m e = e ∙ number_behind order k n head ∙ ap (λ (o : Order). number o k (drop n head)) order_is

  abbrev is_other : Bool
  is_other = not ((number (order_of head) 2 (drop 4 head) == 2) && (number (order_of head) 2 (drop 6 head) == 4))

  version : not ((a == 2) && (b == 4)) ≡ is_other
  version = ap (λ (x : ℕ). not ((x == 2) && (b == 4))) (read 2 4 a major)
      ∙ ap (λ (x : ℕ). not ((number (order_of head) 2 (drop 4 head) == 2) && (x == 4))) (read 2 6 b minor)

  by_version : (rest : Option CapKind) → rest ≡ (if nat_lt (length head) 24 then Some ShortHeader else
      (if is_none (spelling_of head) then Some BadMagic else rest))
  by_version rest = passes (is_none (spelling_of head)) BadMagic rest (ap is_none named)
      ∙ passes (nat_lt (length head) 24) ShortHeader _ (le-ltb _ _ long)

  pub bad_version : not ((a == 2) && (b == 4)) ≡ true
      → Some BadVersion ≡ first_that_holds (file_refusals link head)
  bad_version e = refuses is_other BadVersion _ (sym version ∙ e) ∙ by_version _

  module _ (e : not ((a == 2) && (b == 4)) ≡ false) (n : ℕ) (is : n ≡ number order 4 (take (length head - 20)
      (drop 20 head))) where
    by_link : (rest : Option CapKind) → rest ≡ (if nat_lt (length head) 24 then Some ShortHeader else (if is_none
        (spelling_of head) then Some BadMagic else
        (if is_other then Some BadVersion else rest)))
    by_link rest = passes is_other BadVersion rest (sym version ∙ e) ∙ by_version _

    same : not (n == link_number link) ≡ not (number (order_of head) 4 (drop 20 head) == link_number link)
    same = ap (λ (x : ℕ). not (x == link_number link)) (read 4 20 n is)

    pub bad_link : (n ≡ link_number link → ⊥) → Some BadLinkType ≡ first_that_holds (file_refusals link head)
    bad_link other = refuses _ BadLinkType _ (sym same ∙ ap not (ne_eqb _ _ other)) ∙ by_link _

    pub lawful_file : n ≡ link_number link → None ≡ first_that_holds (file_refusals link head)
    lawful_file this = passes _ BadLinkType _ (sym same ∙ ap not (eq-eqb _ _ this)) ∙ by_link _

pub file_fields : (head : List ℕ) (named : Order × Bool) (zone sigfigs : ℕ)
    → named ≡ unwrap_or (spelling_of head) (Little, false)
    → zone ≡ number named.0 4 (drop 8 head) → sigfigs ≡ number named.0 4 (drop 12 head)
    → record { order = named.0; nanos = named.1; zone = zone; sigfigs = sigfigs } ≡ file_head head
file_fields head named zone sigfigs e z s =
    let at = λ (n : ℕ). ap (λ (x : Order × Bool). number x.0 4 (drop n head)) e in
    λ i. record { order = (e i).0; nanos = (e i).1; zone = (z ∙ at 8) i; sigfigs = (s ∙ at 12) i }

abbrev by_lengths : Link → ℕ → ℕ → Option CapKind
by_lengths link captured original =
    first_that_holds ((nat_lt (captured_limit link) captured, TooLong) ∷ (is_bad_original link original, BadOriginal)
    ∷ (lacks_off_head link captured, BadOffload) ∷ [])

-- a record's header of 16 bytes is judged by its lengths
pub by_header : (order : Order) (link told : Link) (n captured original : ℕ) (head : List ℕ) (answer : Option
    CapKind) → 16 ≤ length head → n < 2 ^ 32 → link ≡ told
    → captured ≡ number order 4 (take (length head - 8) (drop 8 head))
    → original ≡ number order 4 (take (length head - 12) (drop 12 head))
    → answer ≡ by_lengths told captured original → answer ≡ first_that_holds (head_refusals order link n head)
by_header order link told n captured original head answer long few is c o e =
    e ∙ ap (λ (l : Link). by_lengths l captured original) (sym is)
    ∙ ap (λ (x : ℕ). by_lengths link x original) (c ∙ number_behind order 4 8 head)
    ∙ ap (by_lengths link (captured_length order head)) (o ∙ number_behind order 4 12 head)
    ∙ passes _ TooMany _ (lt-leb _ _ few) ∙ passes _ ShortRecordHeader _ (le-ltb _ _ long)

-- what the tests of a record's header have found
pub record IsLawful (order : Order) (link : Link) (n : ℕ) (head : List ℕ) : Type 0 where
  pub whole : 16 ≤ length head
  pub few : n < 2 ^ 32
  pub limit : captured_length order head ≤ captured_limit link
  pub original : is_bad_original link (original_length order head) ≡ false
  pub off_head : lacks_off_head link (captured_length order head) ≡ false

pub lawful_is : (order : Order) (link : Link) (n : ℕ) (head : List ℕ)
    → first_that_holds (head_refusals order link n head) ≡ None → IsLawful order link n head
lawful_is order link n head e =
    let a = not_first _ _ _ e in
    let b = not_first _ _ _ a.1 in
    let c = not_first _ _ _ b.1 in
    let d = not_first _ _ _ c.1 in
    record {
      whole = ltb-false _ _ a.0;
      few = leb-false _ _ b.0;
      limit = ltb-false _ _ c.0;
      original = d.0;
      off_head =
          (not_first _ _ _ d.1).0;
    }

limit_most : (link : Link) → captured_limit link ≤ most_record
limit_most links.Ethernet = omega arith
limit_most links.Offload = omega arith

pub counted_next : (old new : Place) (n : ℕ) → Counted old → old.number < 2 ^ 32
    → n ≤ captured_limit old.link → new.number ≡ old.number + 1 → new.offset ≡ old.offset + (16 + n)
    → Counted new
counted_next old new n is few low number offset = record {
  few = omega (arith, few, number);
  within = omega (
    arith,
    is.within,
    limit_most old.link,
    low,
    number,
    offset,
  );
}

-- a lawful header was taken
pub head_taken : (old new : Option (List ℕ)) (place : Place) (head : RecHead) (count : ℕ) (buf : List ℕ)
    → length buf ≡ 16 → count ≤ length buf
    → Consumes old new (take count buf) × (count < length buf → IsAtEnd new)
    → first_that_holds (head_refusals place.file.order place.link place.number (take count buf)) ≡ None
    → IsHead place (take count buf) head
    → Told old new (GivesHead place (Ok (Some head)))
head_taken None new place head count buf size le took lawful is = tt
head_taken (Some xs) None place head count buf size le took lawful is = absurd took.0
head_taken (Some xs) (Some ys) place head count buf size le took lawful is =
    let both = front_read xs ys buf count 16 size (omega arith) took.0 (λ lt. took.1 (omega arith)) in
    let whole = (lawful_is place.file.order place.link place.number (take count buf) lawful).whole in
    record {
      whole = omega (arith, whole, ap length both.0, length-take 16 xs);
      lawful = ap (λ (l : List ℕ). first_that_holds (head_refusals place.file.order place.link place.number l))
          both.0 ∙ lawful;
      fields = subst (λ (l : List ℕ). IsHead place l head) (sym both.0) is;
      rest = both.1;
    }

-- the fields of an offload header lie in its own bytes
pub off_head2_front : (xs : List ℕ) → off_head2 (take 16 xs) ≡ off_head2 xs
off_head2_front xs =
    let at : (k : ℕ) → k < 16 → byte (take 16 xs) k ≡ byte xs k = λ k low. get_or-take 16 xs k 0 low in
    let four : (k : ℕ) → k + 3 < 16 → be32 (take 16 xs) k ≡ be32 xs k =
    λ k low. rw (
      at k (omega arith),
      at (k + 1) (omega arith),
      at (k + 2) (omega arith),
      at ((k + 2) + 1) (omega
          arith),
    ) refl in
    λ i. record {
      version = at 0 (omega arith) i;
      kind = at 1 (omega arith) i;
      modes = at 2 (omega arith) i;
      lane = at 3 (omega arith) i;
      n = four 4 (omega arith) i;
      m = four 8 (omega arith) i;
      number = four 12 (omega arith) i;
    }
