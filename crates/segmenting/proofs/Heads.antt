-- An offload header, of which the first bytes stand apart from those in the buffer.
use Rattle.std.proofs.Common.{◌≡◌, ℕ, ◌+◌, ◌-◌, ◌<◌, ◌≤◌, Bool, true, false, List, [], ◌++◌, length, length-append, take, drop, append-nil, append_assoc, refl, ap, sym, ◌∙◌, subst, arith}
use Rattle.std.specs.Prelude.{◌==◌, if◌then◌else◌}
use Rattle.std.proofs.lemmas.Bool.{and_parts}
use Rattle.std.proofs.lemmas.List.{drop_all, drop_at, get_or_append_left, take-append-drop, take_at}
use Rattle.std.proofs.Math.Seq.{drop-append-add}
use borrow.Rule.Slice.PartMut.{put_mid, post_of}
use Rattle.net_bytes.specs.Bytes.{byte}
use Rattle.pcap_io.specs.Capture.{Packet}
use Rattle.pcap_io.specs.Headers.{any_head, head_size, off_head, off_head2}
use Rattle.pcap_io.specs.Limits.{off_head_size, off_head2_size}
use Rattle.pcap_io.specs.declared.off_head.AnyHead.{AnyHead}
use Rattle.pcap_io.specs.declared.off_head.AnyHead.TheVariants.{V1, V2}
use Rattle.offload_model.specs.Tests.{is_lawful_record, is_opened_by}
use Rattle.offload_model.proofs.Decides.{decides_opened}
use Rattle.skb.specs.SkbState.{SkbState, IsAlone, buffer_bytes}
use Rattle.gro.specs.declared.slot.Slot.{Slot as Held}
use Rattle.segmenting.specs.Cutting.{IsBehind}
use Rattle.reading.specs.Reading.{record_of}

-- ---- two parts of a row that were copied in

pub both_are : (first second a b zeros : List ℕ) → a ≡ first → b ≡ second → length first ≡ off_head_size → length zeros ≡ 4 → put_mid off_head_size 4 (a ++ zeros) b ≡ first ++ second
both_are first second a b zeros p q size rest =
    let e : post_of off_head_size 4 (first ++ zeros) ≡ [] = ap (drop 4) (drop_at first zeros off_head_size size) ∙ drop_all 4 zeros (omega (arith, rest)) in
    ap (λ (l : List ℕ). put_mid off_head_size 4 (l ++ zeros) b) p ∙ ap (put_mid off_head_size 4 (first ++ zeros)) q
    ∙ ap (λ (l : List ℕ). l ++ (second ++ post_of off_head_size 4 (first ++ zeros))) (take_at first zeros off_head_size size)
    ∙ ap (λ (l : List ℕ). first ++ (second ++ l)) e ∙ ap (λ (l : List ℕ). first ++ l) (append-nil second)

-- ---- of a list that begins with the header

-- the first bytes, and those that stand in a buffer's head
pub whole_is : (front rest head more : List ℕ) → rest ≡ take 4 head → front ++ (head ++ more) ≡ (front ++ rest) ++ (drop 4 head ++ more)
whole_is front rest head more e =
    ap (λ (z : List ℕ). front ++ (z ++ more)) (sym (take-append-drop 4 head)) ∙ ap (λ (z : List ℕ). front ++ z) (append_assoc (take 4 head) (drop 4 head) more)
    ∙ sym (append_assoc front (take 4 head) (drop 4 head ++ more)) ∙ ap (λ (z : List ℕ). (front ++ z) ++ (drop 4 head ++ more)) (sym e)

off_head_by : (f g : List ℕ) → ((k : ℕ) → k < off_head_size → byte f k ≡ byte g k) → off_head f ≡ off_head g
off_head_by f g same =
    rw (
      same 0 (omega arith),
      same 1 (omega arith),
      same 2 (omega arith),
      same 3 (omega arith),
      same 4 (omega arith),
      same 5 (omega arith),
      same 6 (omega arith),
      same 7 (omega arith),
      same 8 (omega arith),
      same 9 (omega arith),
      same 10 (omega arith),
      same 11 (omega arith),
    ) refl

off_head2_by : (f g : List ℕ) → ((k : ℕ) → k < off_head2_size → byte f k ≡ byte g k) → off_head2 f ≡ off_head2 g
off_head2_by f g same =
    rw (
      same 0 (omega arith),
      same 1 (omega arith),
      same 2 (omega arith),
      same 3 (omega arith),
      same 4 (omega arith),
      same 5 (omega arith),
      same 6 (omega arith),
      same 7 (omega arith),
      same 8 (omega arith),
      same 9 (omega arith),
      same 10 (omega arith),
      same 11 (omega arith),
      same 12 (omega arith),
      same 13 (omega arith),
      same 14 (omega arith),
      same 15 (omega arith),
    ) refl

-- a header that is there is the same, whatever follows
pub head_more : (xs ys : List ℕ) → 1 ≤ length xs → head_size (any_head xs) ≤ length xs → any_head (xs ++ ys) ≡ any_head xs
head_more xs ys some fits = ap (λ (n : ℕ). if n == 2 then V2 (off_head2 (xs ++ ys)) else V1 (off_head (xs ++ ys))) (at 0 some) ∙ by (byte xs 0 == 2) fits
  where
    at : (k : ℕ) → k < length xs → byte (xs ++ ys) k ≡ byte xs k
    at k lt = get_or_append_left xs ys 0 k lt

    by : (two : Bool) → head_size (if two then V2 (off_head2 xs) else V1 (off_head xs)) ≤ length xs
        → (if two then V2 (off_head2 (xs ++ ys)) else V1 (off_head (xs ++ ys))) ≡ (if two then V2 (off_head2 xs) else V1 (off_head xs))
    by true fits = ap V2 (off_head2_by (xs ++ ys) xs (λ k lt. at k (omega (arith, lt, fits))))
    by false fits = ap V1 (off_head_by (xs ++ ys) xs (λ k lt. at k (omega (arith, lt, fits))))

pub sizes : (head : AnyHead) → (off_head_size ≤ head_size head) × (head_size head ≤ off_head2_size)
sizes (V1 h) = (omega arith, omega arith)
sizes (V2 h) = (omega arith, omega arith)

-- what tells that a header is there tells it of a longer list
pub there_more : (xs ys : List ℕ) → 1 ≤ length xs → off_head2_size ≤ length xs → any_head (xs ++ ys) ≡ any_head xs
there_more xs ys some long = head_more xs ys some (omega (arith, long, (sizes (any_head xs)).1))

-- one that the first bytes hold is there, whatever follows
pub there_still : (front ys : List ℕ) → length front ≡ off_head_size → head_size (any_head front) ≤ length front
    → (any_head (front ++ ys) ≡ any_head front) × (head_size (any_head (front ++ ys)) ≤ length (front ++ ys))
there_still front ys long fits =
    let more = head_more front ys (omega (arith, long)) fits in
    (more, omega (arith, ap head_size more, fits, length-append front ys))

-- and with too few bytes behind these for the longer one it is theirs alone
pub there_alone : (front ys : List ℕ) → length front ≡ off_head_size → length ys < 4 → head_size (any_head (front ++ ys)) ≤ length (front ++ ys) → head_size (any_head front) ≤ length front
there_alone front ys long few fits = by (byte front 0 == 2) (subst (λ (n : ℕ). head_size (if n == 2 then V2 (off_head2 (front ++ ys)) else V1 (off_head (front ++ ys))) ≤ length (front ++ ys)) (get_or_append_left front ys 0 0 (omega (arith, long))) fits)
  where
    by : (two : Bool) → head_size (if two then V2 (off_head2 (front ++ ys)) else V1 (off_head (front ++ ys))) ≤ length (front ++ ys)
        → head_size (if two then V2 (off_head2 front) else V1 (off_head front)) ≤ length front
    by true fits = absurd (omega (arith, fits, length-append front ys, long, few))
    by false fits = omega (arith, long)

-- ---- of a record

-- as many bytes as the header has behind the first ones are in the buffer
pub is_there : (front b : List ℕ) (head : AnyHead) → length front ≡ off_head_size → head ≡ any_head (front ++ b) → head_size (any_head (front ++ b)) ≤ length (front ++ b)
    → head_size head - off_head_size ≤ length b
is_there front b head long is le = omega (arith, ap head_size is, le, length-append front b, long)

pub behind_front : (front b : List ℕ) (n : ℕ) → length front ≡ off_head_size → off_head_size ≤ n → drop n (front ++ b) ≡ drop (n - off_head_size) b
behind_front front b n long le =
    let e : n ≡ length front + (n - off_head_size) = omega (arith, long, le) in
    ap (λ (k : ℕ). drop k (front ++ b)) e ∙ drop-append-add front b (n - off_head_size)

pub behind_is : (front : List ℕ) (p : Held) (skb : SkbState) (head : AnyHead) → head ≡ any_head (front ++ buffer_bytes p.skb) → head_size head + length (buffer_bytes skb)
    ≡ length (front ++ buffer_bytes p.skb)
    → buffer_bytes skb ≡ drop (head_size head) (front ++ buffer_bytes p.skb) → IsBehind (record_of front p) head (record p { skb = skb })
behind_is front p skb head is size behind = record {
  head_is = sym is;
  size = sym size;
  original = refl;
  behind =
      ap (λ (h : AnyHead). packet_of_record (head_size h) (drop (head_size h) (front ++ buffer_bytes p.skb))) (sym is)
      ∙ ap (packet_of_record (head_size head)) (sym behind);
}
  where
    packet_of_record : ℕ → List ℕ → Packet
    packet_of_record n f = record { number = p.number; sec = p.sec; frac = p.frac; original = p.original - n; frame = f }

-- where a buffer begins makes no difference to who holds its blocks
pub alone_within : (old new : SkbState) (n : ℕ) → new ≡ record old { from = n } → IsAlone old → IsAlone new
alone_within old new n e h = subst IsAlone (sym e) (record { head = h.head; rest = h.rest })

-- a record without its header isn't lawful
pub not_lawful : (r : Packet) → length r.frame < head_size (any_head r.frame) → is_lawful_record r ≡ false
not_lawful r less = by (is_lawful_record r) refl
  where
    by : (b : Bool) → is_lawful_record r ≡ b → b ≡ false
    by false e = refl
    by true e =
        let opened = (decides_opened (any_head r.frame) (length r.frame) r.original).0 (and_parts (is_opened_by (any_head r.frame) (length r.frame) r.original) _ e).0 in
        absurd (omega (arith, opened.there, less))
