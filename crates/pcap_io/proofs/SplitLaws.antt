-- The split of a capture into its records.
use Rattle.std.proofs.Common.{arith, ◌≡◌, refl, sym, ap, ◌∙◌, subst, ℕ, zero, suc, ◌+◌, ◌*◌, ◌^◌, ◌<◌, ◌≤◌, List, [], ◌∷◌, ◌++◌, length, take, drop, Bool, false, Option, None, Some, length-drop}
use Rattle.std.proofs.Common.{length-take, length-append, take-append-drop, append_assoc, append-nil}
use Rattle.std.proofs.lemmas.List.{take_at, drop_at, drop-drop, length-take-le}
use Rattle.std.proofs.lemmas.Bool.{ltb-false, le-ltb, lt-leb, leb-false}
use Rattle.std.specs.Prelude.{nat_lt}
use Rattle.net_bytes.specs.declared.order.Order.{Order}
use Rattle.net_bytes.specs.declared.order.Order.TheVariants.{Big, Little}
use Rattle.net_bytes.specs.Order.{number}
use Rattle.pcap_io.specs.declared.heads.Link.{Link}
use Rattle.pcap_io.specs.declared.heads.Link.TheVariants as links
use Rattle.pcap_io.specs.declared.heads.FileHead.{FileHead}
use Rattle.pcap_io.specs.declared.faults.CapKind.{CapKind}
use Rattle.pcap_io.specs.declared.faults.CapKind.TheVariants.{ShortRecordHeader, TooMany, TooLong, BadOriginal, BadOffload, ShortRecord}
use Rattle.pcap_io.specs.declared.faults.CapFault.{CapFault}
use Rattle.pcap_io.specs.Headers.{first_that_holds, file_refusals, record_refusals, order_of, captured_length, original_length, captured_limit, is_bad_original, lacks_off_head}
use Rattle.pcap_io.specs.Capture.{Packet, Found, packet, packet_at, ended, one_more, records_from, found_after, reads_numbered}
use Rattle.pcap_io.specs.Written.{file_bytes, rec_bytes}
use Rattle.pcap_io.specs.Split.{AreBytes, spelled, spelled_all, IsLawful, AreLawful, EndsAs, IsSplit}
use Rattle.pcap_io.specs.Laws.{CaptureSplits, SplitIsUnique, CaptureReadsBack}
use Rattle.pcap_io.proofs.Fronts.{not_first}
use Rattle.pcap_io.proofs.HeadLaws.{rec_head_law, rec_bytes_law, file_head_law, bytes_drop}
use Rattle.pcap_io.proofs.RecordLaws.{records_none, records_fault, records_whole}

rec_size : (order : Order) (sec frac captured original : ℕ) → length (rec_bytes order sec frac captured original) ≡ 16
rec_size Big sec frac captured original = refl
rec_size Little sec frac captured original = refl

limit_fits : (link : Link) (n : ℕ) → n ≤ captured_limit link → n < 2 ^ 32
limit_fits links.Ethernet n le = omega (arith, le)
limit_fits links.Offload n le = omega (arith, le)

-- none of six tests holds
none_holds : (a b c d e f : Bool) (j k l m n o : CapKind) → a ≡ false → b ≡ false → c ≡ false → d ≡ false → e ≡ false → f ≡ false
    → first_that_holds ((a, j) ∷ (b, k) ∷ (c, l) ∷ (d, m) ∷ (e, n) ∷ (f, o) ∷ []) ≡ None
none_holds a b c d e f j k l m n o p q r s t u = rw (p, q, r, s, t, u) refl

same_packet : (n n' a b c d e f : ℕ) (s t : List ℕ) → n ≡ n' → a ≡ b → c ≡ d → e ≡ f → s ≡ t → packet n a c e s ≡ packet n' b d f t
same_packet n n' a b c d e f s t o p q r u = rw (o, p, q, r, u) refl

-- a spelled record is lawful and whole, and its packet is read back
pub spelled_reads : (order : Order) (link : Link) (n offset : ℕ) (p : Packet) (more : List ℕ) → IsLawful link n p
    → records_from order link n offset 0 (spelled order p ++ more) ≡ one_more p (records_from order link (n + 1) (offset + length (spelled order p)) 0 more)
spelled_reads order link n offset p more lawful =
    let size = length p.frame in
    let head = rec_bytes order p.sec p.frac size p.original in
    let bytes = spelled order p ++ more in
    let split : bytes ≡ head ++ (p.frame ++ more) = append_assoc head p.frame more in
    let long : length head ≡ 16 = rec_size order p.sec p.frac size p.original in
    let says = rec_head_law order p.sec p.frac size p.original lawful.sec lawful.frac (limit_fits link size lawful.captured_in_range) lawful.original in
    let front : take 16 bytes ≡ head = ap (take 16) split ∙ take_at head (p.frame ++ more) 16 long in
    let body : drop 16 bytes ≡ p.frame ++ more = ap (drop 16) split ∙ drop_at head (p.frame ++ more) 16 long in
    let captured : captured_length order (take 16 bytes) ≡ size = ap (captured_length order) front ∙ says.captured in
    let original : original_length order (take 16 bytes) ≡ p.original = ap (original_length order) front ∙ says.original in
    let none : first_that_holds (record_refusals order link n bytes) ≡ None =
    none_holds _ _ _ _ _ _ ShortRecordHeader TooMany TooLong BadOriginal BadOffload ShortRecord
    (le-ltb _ _ (omega (arith, ap length front, long)))
    (lt-leb (2 ^ 32) n lawful.few)
    (le-ltb _ _ (omega (arith, captured, lawful.captured_in_range)))
    (ap (is_bad_original link) original ∙ lawful.original_in_range)
    (ap (lacks_off_head link) captured ∙ lawful.has_off_head)
    (le-ltb _ _ (omega (arith, captured, ap length body, length-append p.frame more))) in
    let whole : 16 + captured_length order (take 16 bytes) ≤ length bytes =
    omega (arith, captured, ap length split, length-append head (p.frame ++ more), long, length-append p.frame more) in
    let is : packet_at order n bytes ≡ p =
    same_packet n p.number _ p.sec _ p.frac _ p.original _ p.frame (sym lawful.number) (ap (number order 4) front ∙ says.sec) (ap (λ l. number order 4 (drop 4 l)) front ∙ says.frac) original
    (ap (λ k. take k (drop 16 bytes)) captured ∙ ap (take size) body ∙ take_at p.frame more size refl) in
    let rest : drop (16 + captured_length order (take 16 bytes)) bytes ≡ more =
    ap (λ k. drop (16 + k) bytes) captured ∙ sym (drop-drop size 16 bytes) ∙ ap (drop size) body ∙ drop_at p.frame more size refl in
    let place : offset + 16 + captured_length order (take 16 bytes) ≡ offset + length (spelled order p) = omega (arith, captured, length-append head p.frame, long) in
    records_whole order link n offset bytes whole none
    ∙ ap (λ q. one_more q (records_from order link (n + 1) (offset + 16 + captured_length order (take 16 bytes)) 0 (drop (16 + captured_length order (take 16 bytes)) bytes))) is
    ∙ ap (λ k. one_more p (records_from order link (n + 1) k 0 (drop (16 + captured_length order (take 16 bytes)) bytes))) place
    ∙ ap (λ l. one_more p (records_from order link (n + 1) (offset + length (spelled order p)) 0 l)) rest

-- no whole lawful record: nothing more is read
pub ends_reads : (order : Order) (link : Link) (n offset : ℕ) (rest : List ℕ) (fault : Option CapFault) → EndsAs order link n offset rest fault → records_from order link n offset 0 rest ≡ ended fault
ends_reads order link n offset [] fault end = records_none order link n offset ∙ ap ended (sym end)
ends_reads order link n offset (b ∷ bytes) fault end = records_fault order link n offset (b ∷ bytes) end.0 (omega arith) end.1 ∙ ap ended (sym end.2)

ends_at : (order : Order) (link : Link) (n n' offset offset' : ℕ) (rest : List ℕ) (fault : Option CapFault) → n ≡ n' → offset ≡ offset' → EndsAs order link n offset rest fault
    → EndsAs order link n' offset' rest fault
ends_at order link n n' offset offset' rest fault p q end =
    subst (λ k. EndsAs order link k offset' rest fault) p (subst (λ k. EndsAs order link n k rest fault) q end)

pub split_reads : (order : Order) (link : Link) (ps : List Packet) (n offset : ℕ) (rest : List ℕ) (fault : Option CapFault)
    → AreLawful link n ps → EndsAs order link (n + length ps) (offset + length (spelled_all order ps)) rest fault
    → records_from order link n offset 0 (spelled_all order ps ++ rest) ≡ record { packets = ps; fault = fault }
split_reads order link [] n offset rest fault lawful end =
    ends_reads order link n offset rest fault (ends_at order link (n + 0) n (offset + 0) offset rest fault (omega arith) (omega arith) end)
split_reads order link (p ∷ ps) n offset rest fault lawful end =
    let one = spelled order p in
    let all = spelled_all order ps in
    let later = offset + length one in
    let end' : EndsAs order link (n + 1 + length ps) (later + length all) rest fault =
    ends_at order link (n + length (p ∷ ps)) (n + 1 + length ps) (offset + length (one ++ all)) (later + length all) rest fault (omega arith) (omega (arith, length-append one all)) end in
    ap (records_from order link n offset 0) (append_assoc one all rest)
    ∙ spelled_reads order link n offset p (all ++ rest) lawful.0
    ∙ ap (one_more p) (split_reads order link ps (n + 1) later rest fault lawful.1 end')

-- what splits the bytes is what they read as
pub split_is : (first : ℕ) (link : Link) (bytes : List ℕ) (f : Found) (xs : List ℕ) → IsSplit first link bytes f xs → reads_numbered first link bytes ≡ f
split_is first link bytes f xs split =
    let order = order_of (take 24 bytes) in
    ap (λ (r : Option CapKind). found_after r (records_from order link first 24 0 (drop 24 bytes))) split.header
    ∙ ap (records_from order link first 24 0) split.whole
    ∙ split_reads order link f.packets first 24 xs f.fault split.lawful split.end

rest_is : (first : ℕ) (link : Link) (bytes : List ℕ) (f : Found) (xs : List ℕ) → IsSplit first link bytes f xs
    → xs ≡ drop (length (spelled_all (order_of (take 24 bytes)) f.packets)) (drop 24 bytes)
rest_is first link bytes f xs split =
    let all = spelled_all (order_of (take 24 bytes)) f.packets in
    sym (ap (drop (length all)) split.whole ∙ drop_at all xs (length all) refl)

pub unique : SplitIsUnique
unique first link bytes f g xs ys p q =
    let same : f ≡ g = sym (split_is first link bytes f xs p) ∙ split_is first link bytes g ys q in (
      same,
      rest_is first link bytes f xs p ∙ ap (λ (h : Found). drop (length (spelled_all (order_of (take 24 bytes)) h.packets)) (drop 24 bytes)) same ∙ sym (rest_is first link bytes g ys q),
    )

bytes_take : (k : ℕ) (bytes : List ℕ) → AreBytes bytes → AreBytes (take k bytes)
bytes_take zero bytes are = tt
bytes_take (suc k) [] are = tt
bytes_take (suc k) (b ∷ bytes) are = (are.0, bytes_take k bytes are.1)

high_fits : (a b c d : ℕ) → a < 256 → b < 256 → c < 256 → d < 256 → a * 256 ^ 3 + (b * 256 ^ 2 + (c * 256 ^ 1 + (d * 256 ^ 0 + 0))) < 2 ^ 32
high_fits a b c d p q r s = omega arith

low_fits : (a b c d : ℕ) → a < 256 → b < 256 → c < 256 → d < 256 → a + 256 * (b + 256 * (c + 256 * (d + 256 * 0))) < 2 ^ 32
low_fits a b c d p q r s = omega arith

number_fits : (order : Order) (bytes : List ℕ) → 4 ≤ length bytes → AreBytes bytes → number order 4 bytes < 2 ^ 32
number_fits order [] long are = absurd (omega (arith, long))
number_fits order (a ∷ []) long are = absurd (omega (arith, long))
number_fits order (a ∷ b ∷ []) long are = absurd (omega (arith, long))
number_fits order (a ∷ b ∷ c ∷ []) long are = absurd (omega (arith, long))
number_fits Big (a ∷ b ∷ c ∷ d ∷ bytes) long are = high_fits a b c d are.0 are.1.0 are.1.1.0 are.1.1.1.0
number_fits Little (a ∷ b ∷ c ∷ d ∷ bytes) long are = low_fits a b c d are.0 are.1.0 are.1.1.0 are.1.1.1.0

-- a record at the front that nothing refuses
pub record Unrefused (order : Order) (link : Link) (n : ℕ) (bytes : List ℕ) : Type 0 where
  pub head : 16 ≤ length bytes
  pub few : n < 2 ^ 32
  pub captured : captured_length order (take 16 bytes) ≤ captured_limit link
  pub original : is_bad_original link (original_length order (take 16 bytes)) ≡ false
  pub has_off_head : lacks_off_head link (captured_length order (take 16 bytes)) ≡ false
  pub body : captured_length order (take 16 bytes) ≤ length (drop 16 bytes)

long_head : (bytes : List ℕ) → nat_lt (length (take 16 bytes)) 16 ≡ false → 16 ≤ length bytes
long_head bytes test = omega (arith, ltb-false (length (take 16 bytes)) 16 test, length-take 16 bytes)

pub unrefused : (order : Order) (link : Link) (n : ℕ) (bytes : List ℕ) → first_that_holds (record_refusals order link n bytes) ≡ None → Unrefused order link n bytes
unrefused order link n bytes e =
    let a = not_first _ _ _ e in
    let b = not_first _ _ _ a.1 in
    let c = not_first _ _ _ b.1 in
    let d = not_first _ _ _ c.1 in
    let f = not_first _ _ _ d.1 in
    let g = not_first _ _ _ f.1 in
    record {
      head = long_head bytes a.0;
      few = leb-false (2 ^ 32) n b.0;
      captured = ltb-false _ _ c.0;
      original = d.0;
      has_off_head = f.0;
      body = ltb-false _ _ g.0;
    }

-- it is its packet spelled out
record_spelled : (order : Order) (link : Link) (n : ℕ) (bytes : List ℕ) → AreBytes bytes → Unrefused order link n bytes
    → bytes ≡ spelled order (packet_at order n bytes) ++ drop (16 + captured_length order (take 16 bytes)) bytes
record_spelled order link n bytes are is =
    let head = take 16 bytes in
    let size = captured_length order head in
    let frame = take size (drop 16 bytes) in
    let long : length head ≡ 16 = length-take-le 16 bytes is.head in
    let full : length frame ≡ size = length-take-le size (drop 16 bytes) is.body in
    let said : rec_bytes order (number order 4 head) (number order 4 (drop 4 head)) (length frame) (original_length order head) ≡ head =
    ap (λ k. rec_bytes order (number order 4 head) (number order 4 (drop 4 head)) k (original_length order head)) full ∙ rec_bytes_law order head long (bytes_take 16 bytes are) in
    let rest : frame ++ drop (16 + size) bytes ≡ drop 16 bytes = ap (λ l. frame ++ l) (sym (drop-drop size 16 bytes)) ∙ take-append-drop size (drop 16 bytes) in
    sym (ap (λ l. (l ++ frame) ++ drop (16 + size) bytes) said ∙ append_assoc head frame (drop (16 + size) bytes) ∙ ap (λ l. head ++ l) rest ∙ take-append-drop 16 bytes)

record_lawful : (order : Order) (link : Link) (n : ℕ) (bytes : List ℕ) → AreBytes bytes → Unrefused order link n bytes → IsLawful link n (packet_at order n bytes)
record_lawful order link n bytes are is =
    let head = take 16 bytes in
    let size = captured_length order head in
    let long : length head ≡ 16 = length-take-le 16 bytes is.head in
    let full : length (take size (drop 16 bytes)) ≡ size = length-take-le size (drop 16 bytes) is.body in
    let are_head = bytes_take 16 bytes are in
    record {
      number = refl;
      few = is.few;
      sec = number_fits order head (omega (arith, long)) are_head;
      frac = number_fits order (drop 4 head) (omega (arith, long, length-drop 4 head)) (bytes_drop 4 head are_head);
      original = number_fits order (drop 12 head) (omega (arith, long, length-drop 12 head)) (bytes_drop 12 head are_head);
      captured_in_range = omega (arith, full, is.captured);
      original_in_range = is.original;
      has_off_head = ap (lacks_off_head link) full ∙ is.has_off_head;
    }

-- the records of some bytes, spelled out, and the rest
record HasRest (order : Order) (link : Link) (n offset : ℕ) (bytes : List ℕ) (found : Found) : Type 0 where
  rest : List ℕ
  whole : bytes ≡ spelled_all order found.packets ++ rest
  lawful : AreLawful link n found.packets
  end : EndsAs order link (n + length found.packets) (offset + length (spelled_all order found.packets)) rest found.fault

rest_none : (order : Order) (link : Link) (n offset : ℕ) (bytes : List ℕ) (fault : Option CapFault) → EndsAs order link n offset bytes fault → HasRest order link n offset bytes (ended fault)
rest_none order link n offset bytes fault end = record {
  rest = bytes;
  whole = refl;
  lawful = tt;
  end = ends_at order link n (n + 0) offset (offset + 0) bytes fault (omega arith) (omega arith) end;
}

rest_more : (order : Order) (link : Link) (n offset : ℕ) (bytes left : List ℕ) (p : Packet) (found : Found)
    → bytes ≡ spelled order p ++ left → IsLawful link n p → HasRest order link (n + 1) (offset + length (spelled order p)) left found → HasRest order link n offset bytes (one_more p found)
rest_more order link n offset bytes left p found split lawful more =
    let one = spelled order p in
    let all = spelled_all order found.packets in
    record {
      rest = more.rest;
      whole = split ∙ ap (λ l. one ++ l) more.whole ∙ sym (append_assoc one all more.rest);
      lawful = (lawful, more.lawful);
      end = ends_at order link (n + 1 + length found.packets) (n + length (p ∷ found.packets)) (offset + length one + length all) (offset + length (one ++ all)) more.rest found.fault
          (omega arith) (omega (arith, length-append one all)) more.end;
    }

-- one record more, where what follows it has its rest
one_step : (order : Order) (link : Link) (n offset b : ℕ) (bytes : List ℕ) → AreBytes (b ∷ bytes)
    → ((m place : ℕ) (left : List ℕ) → length left < length (b ∷ bytes) → AreBytes left → HasRest order link m place left (records_from order link m place 0 left))
    → (r : Option CapKind) → first_that_holds (record_refusals order link n (b ∷ bytes)) ≡ r → HasRest order link n offset (b ∷ bytes) (records_from order link n offset 0 (b ∷ bytes))
one_step order link n offset b bytes are more (Some kind) e =
    let fault : CapFault = record { kind = kind; offset = offset; number = n } in
    subst (HasRest order link n offset (b ∷ bytes)) (sym (records_fault order link n offset (b ∷ bytes) kind (omega arith) e))
    (rest_none order link n offset (b ∷ bytes) (Some fault) (kind, e, refl))
one_step order link n offset b bytes are more None e =
    let all = b ∷ bytes in
    let size = captured_length order (take 16 all) in
    let left = drop (16 + size) all in
    let p = packet_at order n all in
    let is = unrefused order link n all e in
    let whole : 16 + size ≤ length all = omega (arith, is.head, is.body, length-drop 16 all) in
    let full : length (take size (drop 16 all)) ≡ size = length-take-le size (drop 16 all) is.body in
    let long : length (spelled order p) ≡ 16 + size =
    length-append (rec_bytes order p.sec p.frac (length p.frame) p.original) p.frame ∙ ap (λ k. k + length p.frame) (rec_size order p.sec p.frac (length p.frame) p.original) ∙ ap (λ k. 16 + k) full in
    let there : offset + 16 + size ≡ offset + length (spelled order p) = omega (arith, long) in
    let behind = more (n + 1) (offset + 16 + size) left (omega (arith, length-drop (16 + size) all)) (bytes_drop (16 + size) all are) in
    subst (HasRest order link n offset all) (sym (records_whole order link n offset all whole e))
    (rest_more order link n offset all left p (records_from order link (n + 1) (offset + 16 + size) 0 left) (record_spelled order link n all are is) (record_lawful order link n all are is)
    (subst (λ k. HasRest order link (n + 1) k left (records_from order link (n + 1) (offset + 16 + size) 0 left)) there behind))

has_rest : (k : ℕ) (order : Order) (link : Link) (n offset : ℕ) (bytes : List ℕ) → length bytes ≤ k → AreBytes bytes → HasRest order link n offset bytes (records_from order link n offset 0 bytes)
has_rest zero order link n offset [] le are =
    subst (HasRest order link n offset []) (sym (records_none order link n offset)) (rest_none order link n offset [] None refl)
has_rest zero order link n offset (b ∷ bytes) le are = absurd (omega (arith, le))
has_rest (suc k) order link n offset [] le are =
    subst (HasRest order link n offset []) (sym (records_none order link n offset)) (rest_none order link n offset [] None refl)
has_rest (suc k) order link n offset (b ∷ bytes) le are =
    one_step order link n offset b bytes are (λ m place left less are_left. has_rest k order link m place left (omega (arith, le, less)) are_left)
    (first_that_holds (record_refusals order link n (b ∷ bytes))) refl

pub splits : CaptureSplits
splits first link bytes are header =
    let order = order_of (take 24 bytes) in
    let body = drop 24 bytes in
    let found = records_from order link first 24 0 body in
    let is : reads_numbered first link bytes ≡ found = ap (λ (r : Option CapKind). found_after r found) header in
    let more = has_rest (length body) order link first 24 body (omega arith) (bytes_drop 24 bytes are) in
    let split : IsSplit first link bytes found more.rest = record { header = header; whole = more.whole; lawful = more.lawful; end = more.end } in
    (more.rest, subst (λ (f : Found). IsSplit first link bytes f more.rest) (sym is) split)

file_size : (head : FileHead) (link : Link) → length (file_bytes head link) ≡ 24
file_size head link = by_order head.order head.nanos head.zone head.sigfigs link
  where
    by_order : (order : Order) (nanos : Bool) (zone sigfigs : ℕ) (link : Link) → length (file_bytes (record { order = order; nanos = nanos; zone = zone; sigfigs = sigfigs }) link) ≡ 24
    by_order Big nanos zone sigfigs link = refl
    by_order Little nanos zone sigfigs link = refl

-- a whole capture that was written
pub written_law : CaptureReadsBack
written_law first head link ps zone sigfigs lawful =
    let front = file_bytes head link in
    let records = spelled_all head.order ps in
    let bytes = front ++ records in
    let long = file_size head link in
    let says = file_head_law head link zone sigfigs in
    let taken : take 24 bytes ≡ front = take_at front records 24 long in
    let order_is : order_of (take 24 bytes) ≡ head.order = ap order_of taken ∙ ap (λ (h : FileHead). h.order) says.1 in
    let header : first_that_holds (file_refusals link (take 24 bytes)) ≡ None = ap (λ (l : List ℕ). first_that_holds (file_refusals link l)) taken ∙ says.0 in
    let whole : drop 24 bytes ≡ spelled_all (order_of (take 24 bytes)) ps ++ [] =
    drop_at front records 24 long ∙ ap (λ (o : Order). spelled_all o ps) (sym order_is) ∙ sym (append-nil (spelled_all (order_of (take 24 bytes)) ps)) in
    split_is first link bytes (record { packets = ps; fault = None }) [] (record { header = header; whole = whole; lawful = lawful; end = refl })
