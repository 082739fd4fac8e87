-- Sums that are right as they are, and frames that are right once they are filled.
use Rattle.std.proofs.Common.{◌≡◌, ℕ, zero, suc, ◌+◌, ◌-◌, ◌/◌, ◌%◌, ◌≤◌, ◌⊎◌, inl, inr, Bool, true, false, List, [], ◌∷◌, length, set, refl, sym, ap, ◌∙◌, subst, arith, Option, None, Some, eqb-true}
use Rattle.std.specs.Prelude.{if◌then◌else◌, ◌==◌, ◌||◌}
use Rattle.std.proofs.lemmas.Bool.{and_parts, cases_eq, eq-eqb, ne_eqb}
use Rattle.std.proofs.lemmas.List.{set-get_or}
use Rattle.net_bytes.specs.Bytes.{byte, be16, put16}
use Rattle.inet_sum.specs.Sum.{not_zero}
use Rattle.tcp_headers.specs.Udp.{checksum as udp_checksum}
use Rattle.frame_layout.specs.Shape.{Layout, shape_of}
use Rattle.frame_layout.specs.Headers.{AtHeaders, all_headers}
use Rattle.frame_layout.specs.Candidate.{ip4_sum, ip6_length, tcp_sum, udp_sum, is_length_right, is_sum_right, IsLengthRight, IsSumRight, are_sums_right}
use Rattle.frame_layout.specs.declared.layout.Header.{Header}
use Rattle.frame_layout.specs.declared.layout.Layer.{Layer}
use Rattle.frame_layout.specs.declared.layout.Layer.TheVariants.{Ip4, Ip6, Udp, Tcp}
use Rattle.frame_layout.proofs.Lemmas.{laid}
use Rattle.pcap_io.specs.Capture.{Packet}
use Rattle.offload_model.specs.Laws.{InBytes}
use Rattle.offload_model.specs.Captured.{IsCaptured}
use Rattle.pcap_io.specs.Limits.{most_frame}
use Rattle.offload_model.specs.Edits.{put_length, put_sum, with_edits, with_sums, with_lengths_and_sums}
use Rattle.offload_model.proofs.Filled.{put16_small, with_sums-long}
use Rattle.offload_model.proofs.Made.{with_lengths_and_sums-long, lengths_right, sums_right}
use Rattle.wire_model.specs.declared.fate.Fate.TheVariants.{Right, Filled, Wrong}
use Rattle.wire_model.specs.declared.wiring.Wiring.{Wiring}
use Rattle.wire_model.specs.Filling.{fate_of, fates_of, fill_sum, fill_sums, filled_as, filled_of, is_due, is_whole, no_header, packet_fates, packet_fates_as, with_bytes, wrong_at, wrong_in}
use Rattle.wire_model.specs.Wire.{cut_head, cut_of, is_cut, wire_of}
use Rattle.offload_model.specs.Segments.{segments_by}
use Rattle.wire_model.specs.Laws.{AllAreFilled, FilledIsCaptured, FilledIsRight, IsRight, OthersPass, RightStays}

-- ---- a field that holds what is written

put16_same : (f : List ℕ) (at : ℕ) → InBytes f → put16 f at (be16 f at) ≡ f
put16_same f at small =
    let high : be16 f at / 256 ≡ byte f at = omega (arith, small (at + 1)) in
    let low : be16 f at % 256 ≡ byte f (at + 1) = omega (arith, small (at + 1)) in
    ap (λ z. set (set f at z) (at + 1) (be16 f at % 256)) high ∙ ap (λ xs. set xs (at + 1) (be16 f at % 256)) (set-get_or f at 0)
    ∙ ap (set f (at + 1)) low ∙ set-get_or f (at + 1) 0

put_same : (f : List ℕ) (at n : ℕ) → InBytes f → be16 f at ≡ n → put16 f at n ≡ f
put_same f at n small e = ap (put16 f at) (sym e) ∙ put16_same f at small

-- a UDP sum field of 0 stays, and else the sum is put
udp_put : (ip : Header) (at : ℕ) (f : List ℕ) → InBytes f → (be16 f (at + 6) ≡ 0) ⊎ (be16 f (at + 6) ≡ udp_sum f ip at) → put_sum ip Udp at f ≡ f
udp_put ip at f small (inl z) = rw (eq-eqb (be16 f (at + 6)) 0 z) refl
udp_put ip at f small (inr v) = elim (cases_eq (be16 f (at + 6)) 0) [
  | inl z ↦ rw (eq-eqb (be16 f (at + 6)) 0 z) refl
  | inr n ↦ rw (ne_eqb (be16 f (at + 6)) 0 n) (put_same f (at + 6) (udp_sum f ip at) small v)
]

sum_same : (ip : Header) (l : Layer) (at : ℕ) (f : List ℕ) → InBytes f → IsSumRight f ip l at → put_sum ip l at f ≡ f
sum_same ip Ip4 at f small q = put_same f (at + 10) (ip4_sum f at) small q
sum_same ip Tcp at f small q = put_same f (at + 16) (tcp_sum f ip at) small q
sum_same ip Udp at f small q = udp_put ip at f small q
sum_same ip _ at f small q = refl

length_same : (l : Layer) (at : ℕ) (f : List ℕ) → InBytes f → IsLengthRight f l at → put_length l at f ≡ f
length_same Ip4 at f small q = put_same f (at + 2) (length f - at) small q
length_same Ip6 at f small q = put_same f (at + 4) (ip6_length (length f - at - 40)) small q
length_same Udp at f small q = put_same f (at + 4) (length f - at) small q
length_same _ at f small q = refl

lengths_same : (hs : List Header) (f : List ℕ) → InBytes f → AtHeaders (IsLengthRight f) hs → with_edits put_length hs f ≡ f
lengths_same [] f small q = refl
lengths_same (h ∷ hs) f small q = ap (put_length h.layer h.at) (lengths_same hs f small q.1) ∙ length_same h.layer h.at f small q.0

-- ---- bytes stay bytes

not_zero_le : (n : ℕ) → n ≤ 65535 → not_zero n ≤ 65535
not_zero_le zero h = omega arith
not_zero_le (suc n) h = h

sum_small : (ip : Header) (l : Layer) (at : ℕ) (f : List ℕ) → InBytes f → InBytes (put_sum ip l at f)
sum_small ip Ip4 at f s = put16_small f (at + 10) (ip4_sum f at) (omega arith) s
sum_small ip Tcp at f s = put16_small f (at + 16) (tcp_sum f ip at) (omega arith) s
sum_small ip Udp at f s = by (udp_checksum f at == 0)
  where
    by : (b : Bool) → InBytes (if b then f else put16 f (at + 6) (udp_sum f ip at))
    by true = s
    by false = put16_small f (at + 6) (udp_sum f ip at) (not_zero_le _ (omega arith)) s
sum_small ip _ at f s = s

sums_small : (ip : Header) (hs : List Header) (f : List ℕ) → InBytes f → InBytes (with_sums ip hs f)
sums_small ip [] f s = s
sums_small ip (h ∷ hs) f s = sum_small ip h.layer h.at (with_sums h hs f) (sums_small h hs f s)

-- ---- tests

is_right_so : (f : List ℕ) (ip : Header) (l : Layer) (at : ℕ) → is_sum_right f ip l at ≡ true → IsSumRight f ip l at
is_right_so f ip Ip4 at e = eqb-true _ _ e
is_right_so f ip Tcp at e = eqb-true _ _ e
is_right_so f ip Udp at e = by (udp_checksum f at == 0) refl e
  where
    by : (b : Bool) → (udp_checksum f at == 0) ≡ b → (b || (udp_checksum f at == udp_sum f ip at)) ≡ true → (udp_checksum f at ≡ 0) ⊎ (udp_checksum f at ≡ udp_sum f ip at)
    by true z q = inl (eqb-true _ _ z)
    by false z q = inr (eqb-true _ _ q)
is_right_so f ip _ at e = tt

length_right_so : (f : List ℕ) (l : Layer) (at : ℕ) → is_length_right (length f) f l at ≡ true → IsLengthRight f l at
length_right_so f Ip4 at e = eqb-true _ _ e
length_right_so f Ip6 at e = eqb-true _ _ e
length_right_so f Udp at e = eqb-true _ _ e
length_right_so f _ at e = tt

lengths_right_so : (hs : List Header) (f : List ℕ) → all_headers (is_length_right (length f) f) hs ≡ true → AtHeaders (IsLengthRight f) hs
lengths_right_so [] f e = tt
lengths_right_so (h ∷ hs) f e =
    let b = and_parts (is_length_right (length f) f h.layer h.at) _ e in
    (length_right_so f h.layer h.at b.0, lengths_right_so hs f b.1)

-- ---- where no sum stays wrong, all are right

-- one that isn't due is right
one_filled : (all : Bool) (ip : Header) (l : Layer) (at : ℕ) (g : List ℕ) → InBytes g → wrong_at (fate_of all g ip l at) ≡ 0 → fill_sum all ip l at g ≡ put_sum ip l at g
one_filled all ip l at g small none = by (is_due all g ip l at) (is_sum_right g ip l at) refl none
  where
    by : (due right : Bool) → is_sum_right g ip l at ≡ right → wrong_at (if right then Right else (if due then Filled else Wrong)) ≡ 0
        → (if due then put_sum ip l at g else g) ≡ put_sum ip l at g
    by true right e none = refl
    by false true e none = sym (sum_same ip l at g small (is_right_so g ip l at e))
    by false false e none = absurd (omega (arith, none))

all_filled : (all : Bool) (ip : Header) (hs : List Header) (f : List ℕ) → InBytes f → wrong_in (fates_of all ip hs f) ≡ 0 → fill_sums all ip hs f ≡ with_sums ip hs f
all_filled all ip [] f small none = refl
all_filled all ip (h ∷ hs) f small none =
    let inner = all_filled all h hs f small (omega (arith, none)) in
    let own : wrong_at (fate_of all (with_sums h hs f) ip h.layer h.at) ≡ 0 =
    subst (λ g. wrong_at (fate_of all g ip h.layer h.at) ≡ 0) inner (omega (arith, none)) in
    ap (fill_sum all ip h.layer h.at) inner ∙ one_filled all ip h.layer h.at (with_sums h hs f) (sums_small h hs f small) own

-- ---- a packet

filled_is : (all : Bool) (p : Packet) (l : Layout) (b : Bool) → shape_of p.frame ≡ Some l → is_whole l p ≡ b
    → filled_of all p ≡ (if b then with_bytes p (fill_sums all no_header l.headers p.frame) else p)
filled_is all p l b e is =
    ap (λ (o : Option Layout). filled_as all o p) e ∙ ap (λ x. if x then with_bytes p (fill_sums all no_header l.headers p.frame) else p) is

fates_are : (all : Bool) (p : Packet) (l : Layout) (b : Bool) → shape_of p.frame ≡ Some l → is_whole l p ≡ b
    → packet_fates all p ≡ (if b then fates_of all no_header l.headers p.frame else [])
fates_are all p l b e is =
    ap (λ (o : Option Layout). packet_fates_as all o p) e ∙ ap (λ x. if x then fates_of all no_header l.headers p.frame else []) is

pub filled_is_right : FilledIsRight
filled_is_right all p l small e whole none =
    let f = p.frame in
    let right = lengths_right_so l.headers f (and_parts _ _ whole).1 in
    let no_wrong : wrong_in (fates_of all no_header l.headers f) ≡ 0 = subst (λ xs. wrong_in xs ≡ 0) (fates_are all p l true e whole) none in
    let same : (filled_of all p).frame ≡ with_lengths_and_sums l.headers f =
    ap (λ (q : Packet). q.frame) (filled_is all p l true e whole) ∙ all_filled all no_header l.headers f small no_wrong
    ∙ ap (with_sums no_header l.headers) (sym (lengths_same l.headers f small right)) in
    let k = laid f l e in
    subst (IsRight l (length f)) (sym same) (record {
      lengths = lengths_right l.headers l.payload_at f k.0 k.1;
      sums = sums_right l.headers l.payload_at f k.0 k.1;
      long = with_lengths_and_sums-long l.headers f;
    })

-- ---- all sums are wanted

all_due : (ip : Header) (hs : List Header) (f : List ℕ) → wrong_in (fates_of true ip hs f) ≡ 0
all_due ip [] f = refl
all_due ip (h ∷ hs) f = omega (arith, by (is_sum_right (fill_sums true h hs f) ip h.layer h.at), all_due h hs f)
  where
    by : (right : Bool) → wrong_at (if right then Right else Filled) ≡ 0
    by true = refl
    by false = refl

pub all_are_filled : AllAreFilled
all_are_filled p = by_shape (shape_of p.frame)
  where
    by_whole : (b : Bool) (l : Layout) → wrong_in (if b then fates_of true no_header l.headers p.frame else []) ≡ 0
    by_whole true l = all_due no_header l.headers p.frame
    by_whole false l = refl

    by_shape : (o : Option Layout) → wrong_in (packet_fates_as true o p) ≡ 0
    by_shape None = refl
    by_shape (Some l) = by_whole (is_whole l p) l

-- ---- what stays

uncut : (o : Wiring) (p : Packet) → filled_of o.fills_all p ≡ p → is_cut o.mss p ≡ false → wire_of o p ≡ p ∷ []
uncut o p e whole = ap (cut_of o.mss) e ∙ ap (λ b. if b then segments_by (cut_head o.mss p.frame) p else p ∷ []) whole

fill_same : (all : Bool) (ip : Header) (hs : List Header) (f : List ℕ) → InBytes f → are_sums_right f ip hs → fill_sums all ip hs f ≡ f
fill_same all ip [] f small q = refl
fill_same all ip (h ∷ hs) f small q =
    ap (fill_sum all ip h.layer h.at) (fill_same all h hs f small q.1) ∙ by (is_due all f ip h.layer h.at)
  where
    by : (due : Bool) → (if due then put_sum ip h.layer h.at f else f) ≡ f
    by true = sum_same ip h.layer h.at f small q.0
    by false = refl

pub right_stays : RightStays
right_stays o p l small e right whole = uncut o p (filled_is o.fills_all p l (is_whole l p) e refl ∙ by (is_whole l p)) whole
  where
    by : (b : Bool) → (if b then with_bytes p (fill_sums o.fills_all no_header l.headers p.frame) else p) ≡ p
    by true = ap (with_bytes p) (fill_same o.fills_all no_header l.headers p.frame small right)
    by false = refl

pub others_pass : OthersPass
others_pass o p never whole = uncut o p (by (shape_of p.frame) refl) whole
  where
    by : (x : Option Layout) → shape_of p.frame ≡ x → filled_as o.fills_all x p ≡ p
    by None e = refl
    by (Some l) e = ap (λ b. if b then with_bytes p (fill_sums o.fills_all no_header l.headers p.frame) else p) (never l e)

-- ---- a filled packet can be captured

fill_small : (all : Bool) (ip : Header) (hs : List Header) (f : List ℕ) → InBytes f → InBytes (fill_sums all ip hs f)
fill_small all ip [] f s = s
fill_small all ip (h ∷ hs) f s = by (is_due all (fill_sums all h hs f) ip h.layer h.at) (fill_small all h hs f s)
  where
    by : (b : Bool) → InBytes (fill_sums all h hs f) → InBytes (if b then put_sum ip h.layer h.at (fill_sums all h hs f) else fill_sums all h hs f)
    by true x = sum_small ip h.layer h.at (fill_sums all h hs f) x
    by false x = x

fill_long : (all : Bool) (ip : Header) (hs : List Header) (f : List ℕ) → length (fill_sums all ip hs f) ≡ length f
fill_long all ip [] f = refl
fill_long all ip (h ∷ hs) f = by (is_due all (fill_sums all h hs f) ip h.layer h.at) ∙ fill_long all h hs f
  where
    by : (b : Bool) → length (if b then put_sum ip h.layer h.at (fill_sums all h hs f) else fill_sums all h hs f) ≡ length (fill_sums all h hs f)
    by true = with_sums-long ip (h ∷ []) (fill_sums all h hs f)
    by false = refl

pub filled_is_captured : FilledIsCaptured
filled_is_captured all p c = by (shape_of p.frame)
  where
    whole : (l : Layout) (b : Bool) → IsCaptured (if b then with_bytes p (fill_sums all no_header l.headers p.frame) else p)
    whole l true = record {
      number = c.number;
      sec = c.sec;
      frac = c.frac;
      original = c.original;
      short = subst (λ n. n ≤ most_frame) (sym (fill_long all no_header l.headers p.frame)) c.short;
      in_bytes = fill_small all no_header l.headers p.frame c.in_bytes;
    }
    whole l false = c

    by : (o : Option Layout) → IsCaptured (filled_as all o p)
    by None = c
    by (Some l) = whole l (is_whole l p)
