-- A packet behind an Ethernet header, of which the first bytes are a copy.
use Rattle.std.proofs.Common.{◌≡◌, ℕ, ◌+◌, ◌-◌, ◌<◌, ◌≤◌, inl, inr, Bool, true, false, List, [], ◌∷◌, ◌++◌, length, map, take, drop}
use Rattle.std.proofs.Common.{zero, suc, get_or, refl, sym, ap, ◌∙◌, subst, arith, append_assoc, min}
use Rattle.std.specs.Prelude.{◌==◌, if◌then◌else◌}
use Rattle.std.specs.List.{AllByRecursion}
use Rattle.std.proofs.Math.Nat.{min-le_left, min-le_right, min-eq_left, min-eq_right, le-min}
use Rattle.std.proofs.Math.Seq.{take-suc}
use Rattle.std.proofs.lemmas.Bool.{cases_lt}
use Rattle.std.proofs.lemmas.List.{drop-append-le, drop-take, get_or-drop, length-append, length-drop, length-map, length-take-le, map-append}
use Rattle.std.proofs.lemmas.List.{take-append-drop, take_at}
use Rattle.std.proofs.lemmas.Slice.{take-put_mid}
use borrow.Rule.Slice.PartMut.{put_mid}
use Rattle.inet_sum.specs.Stands.{StandsFor}
use Rattle.maximal_runs.proofs.Pass.{all_append}
use Rattle.pcap_io.specs.Capture.{Packet}
use Rattle.pcap_io.specs.Limits.{most_frame}
use Rattle.offload_model.specs.Captured.{AreCaptured, IsCaptured}
use Rattle.frame_runs.specs.Frames.{AreBytes}
use Rattle.frame_runs.specs.declared.lent.Lent.{Lent}
use Rattle.frame_bursts.specs.declared.raw_frame.RawFrame.{RawFrame}
use Rattle.frame_bursts.specs.declared.link.Link.{Link}
use Rattle.frame_bursts.specs.declared.link.Link.TheVariants.{Ethernet, RawIp}
use Rattle.frame_bursts.specs.Links.{ether_type, ethernet_for, frame_on, framed, in_frame, raw_packet, version_of, IsHeld}

type_size : (a b : Bool) → length {A = ℕ} (if a then 8 ∷ 0 ∷ [] else (if b then 134 ∷ 221 ∷ [] else 0 ∷ 0 ∷ [])) ≡ 2
type_size true b = refl
type_size false true = refl
type_size false false = refl

pub ethernet_size : (p : List ℕ) → length (ethernet_for p) ≡ 14
ethernet_size p = omega (arith, type_size (version_of p == 4) (version_of p == 6))

-- ---- what is copied of it

-- the header is written to the front, and the packet's first bytes behind it
pub head_is : (p eth rest bytes : List ℕ) (n k : ℕ) → eth ≡ ethernet_for p → length eth ≡ 14 → bytes ≡ take n p → n ≤ length p
    → take (n + 14) (put_mid 14 k (eth ++ rest) bytes) ≡ ethernet_for p ++ take n p
head_is p eth rest bytes n k header size copy inside =
    let long : length bytes ≡ n = ap length copy ∙ length-take-le n p inside in
    take-put_mid 14 k (eth ++ rest) bytes (n + 14) (omega (arith, long)) (omega (arith, size, length-append eth rest))
    ∙ ap (λ (z : List ℕ). z ++ bytes) (take_at eth rest 14 size ∙ header)
    ∙ ap (λ (z : List ℕ). ethernet_for p ++ z) copy

copied_few : (long n most : ℕ) → n ≡ min long 200 → most ≡ min (long + 14) 200 → most ≤ n + 14
copied_few long n most e m = elim (cases_lt long 200) [
  | inl l ↦ omega (arith, e, m, min-eq_left {n = long} {m = 200} (omega (arith, l)), min-le_left (long + 14) 200)
  | inr r ↦ omega (arith, e, m, min-eq_right {n = 200} {m = long} (omega (arith, r)), min-le_right (long + 14) 200)
]

module _ (f : RawFrame) (p : List ℕ) (n : ℕ) (is : f.packet.bytes ≡ p) (len : f.head_len ≡ n + 14)
    (few : n ≡ min (length p) 200) (head : take (n + 14) f.head ≡ ethernet_for p ++ take n p)
  where
    first : take f.head_len f.head ≡ ethernet_for p ++ take n p
    first = ap (λ (z : ℕ). take z f.head) len ∙ head

    inside : n ≤ length p
    inside = omega (arith, few, min-le_left (length p) 200)

    long : length (take f.head_len f.head) ≡ n + 14
    long =
        ap length first
        ∙ (let e : length (ethernet_for p ++ take n p) ≡ n + 14
        = omega (arith, length-append (ethernet_for p) (take n p), ethernet_size p, length-take-le n p inside) in e)

    whole : length (raw_packet f).frame ≡ length p + 14
    whole =
        ap (λ (z : List ℕ). length (ethernet_for z ++ z)) is
        ∙ (let e : length (ethernet_for p ++ p) ≡ length p + 14
        = omega (arith, length-append (ethernet_for p) p, ethernet_size p) in e)

    pub held_by : StandsFor f.behind (drop n p) → length p + 14 ≤ most_frame → AreBytes (ethernet_for p ++ p) → IsHeld f
    held_by sum short bytes = record {
      front = record {
        rest = drop n p;
        joined = ap (λ (z : List ℕ). ethernet_for z ++ z) is
            ∙ ap (λ (z : List ℕ). ethernet_for p ++ z) (sym (take-append-drop n p))
            ∙ sym (append_assoc (ethernet_for p) (take n p) (drop n p))
            ∙ ap (λ (z : List ℕ). z ++ drop n p) (sym first);
        enough = omega (arith, long, copied_few (length p) n _ few (ap (λ (z : ℕ). min z 200) whole));
      };
      behind = sum;
      inside = omega (arith, len, few, min-le_right (length p) 200);
      filled = long ∙ sym len;
      short = omega (arith, len, sum.1, length-drop n p, inside, short);
      in_bytes = subst (λ (z : List ℕ). AreBytes (ethernet_for z ++ z)) (sym is) bytes;
    }

-- ---- what is read of it

module _ (f : RawFrame) (held : IsHeld f) where
  pub frame_size : length (raw_packet f).frame ≡ f.head_len + f.behind.len
  frame_size =
      omega (arith, ap length held.front.joined, length-append (take f.head_len f.head) held.front.rest, held.filled, held.behind.1)

  pub at_in_head : (at : ℕ) → at ≤ 200 → at ≤ length (raw_packet f).frame → at ≤ f.head_len
  at_in_head at low inside =
      omega (arith, le-min {k = at} {a = length (raw_packet f).frame} {b = 200} inside low, held.front.enough, held.filled)

  pub behind_at : (at : ℕ) → at ≤ f.head_len
      → take (f.head_len - at) (drop at f.head) ++ held.front.rest ≡ drop at (raw_packet f).frame
  behind_at at h =
      ap (λ (z : List ℕ). z ++ held.front.rest) (sym (drop-take at (f.head_len - at) f.head)
      ∙ ap (λ (z : ℕ). drop at (take z f.head)) (let e : at + (f.head_len - at) ≡ f.head_len = omega (arith, h) in e))
      ∙ sym (drop-append-le at (take f.head_len f.head) held.front.rest (omega (arith, h, held.filled)))
      ∙ ap (drop at) (sym held.front.joined)

pub bytes_behind : (at : ℕ) (f : List ℕ) → AreBytes f → AreBytes (drop at f)
bytes_behind at f all k = subst (λ (z : ℕ). z < 256) (sym (get_or-drop at f k 0)) (all (at + k))

-- ---- many of them

pub one_more : (fs : List RawFrame) (gs : List RawFrame) (x : RawFrame) (ls : List Lent) (l : Lent) (i : ℕ)
    → gs ≡ fs ++ (x ∷ []) → i < length ls → l ≡ get_or ls i l → raw_packet x ≡ framed RawIp l
    → map raw_packet fs ≡ take i (map (framed RawIp) ls) → map raw_packet gs ≡ take (i + 1) (map (framed RawIp) ls)
one_more fs gs x ls l i new below is same so =
    let ps : List Packet = map (framed RawIp) ls in
    ap (map raw_packet) new ∙ map-append raw_packet fs (x ∷ [])
    ∙ ap (λ (z : List Packet). z ++ (raw_packet x ∷ [])) so
    ∙ ap (λ (z : Packet). take i ps ++ (z ∷ [])) (same ∙ sym (get_or_mapped ls l i below is))
    ∙ sym (take-suc ps i (framed RawIp l) (omega (arith, below, length-map ls (framed RawIp))))
    ∙ ap (λ (z : ℕ). take z ps) (let e : suc i ≡ i + 1 = omega arith in e)
  where
    get_or_mapped : (ls : List Lent) (l : Lent) (i : ℕ) → i < length ls → l ≡ get_or ls i l
        → get_or (map (framed RawIp) ls) i (framed RawIp l) ≡ framed RawIp l
    get_or_mapped [] l i h e = absurd (omega (arith, h))
    get_or_mapped (y ∷ ls) l zero h e = ap (framed RawIp) (sym e)
    get_or_mapped (y ∷ ls) l (suc i) h e = get_or_mapped ls l i (omega (arith, h)) e

pub captured_at : (link : Link) (ls : List Lent) (i : ℕ) (l : Lent) → AreCaptured (map (framed link) ls) → i < length ls
    → l ≡ get_or ls i l → IsCaptured (framed link l)
captured_at link ls i l all inside is = at ls i all.each inside is
  where
    at : (ls : List Lent) (i : ℕ) → AllByRecursion IsCaptured (map (framed link) ls) → i < length ls → l ≡ get_or ls i l
        → IsCaptured (framed link l)
    at [] i a h e = absurd (omega (arith, h))
    at (y ∷ ls) zero a h e = subst (λ (z : Lent). IsCaptured (framed link z)) (sym e) a.0
    at (y ∷ ls) (suc i) a h e = at ls i a.1 (omega (arith, h)) e

pub all_more : (fs gs : List RawFrame) (x : RawFrame) → gs ≡ fs ++ (x ∷ []) → AllByRecursion IsHeld fs → IsHeld x
    → AllByRecursion IsHeld gs
all_more fs gs x new all one = subst (AllByRecursion IsHeld) (sym new) (all_append IsHeld fs (x ∷ []) all (one, tt))

-- ---- what a frame has, of what the packet has

pub size_on : (link : Link) (p : List ℕ) → length (frame_on link p) ≡ in_frame link (length p)
size_on Ethernet p = refl
size_on RawIp p = omega (arith, length-append (ethernet_for p) p, ethernet_size p)

one_byte : (x : ℕ) (f : List ℕ) → x < 256 → AreBytes f → AreBytes (x ∷ f)
one_byte x f low all zero = low
one_byte x f low all (suc k) = all k

type_bytes : (a b : Bool) (f : List ℕ) → AreBytes f
    → AreBytes ((if a then 8 ∷ 0 ∷ [] else (if b then 134 ∷ 221 ∷ [] else 0 ∷ 0 ∷ [])) ++ f)
type_bytes true b f all = one_byte 8 (0 ∷ f) (omega arith) (one_byte 0 f (omega arith) all)
type_bytes false true f all = one_byte 134 (221 ∷ f) (omega arith) (one_byte 221 f (omega arith) all)
type_bytes false false f all = one_byte 0 (0 ∷ f) (omega arith) (one_byte 0 f (omega arith) all)

abbrev zeros : ℕ → List ℕ → List ℕ
zeros zero f = f
zeros (suc n) f = 0 ∷ zeros n f

zeros_bytes : (n : ℕ) (f : List ℕ) → AreBytes f → AreBytes (zeros n f)
zeros_bytes zero f all = all
zeros_bytes (suc n) f all = one_byte 0 (zeros n f) (omega arith) (zeros_bytes n f all)

pub bytes_on : (link : Link) (p : List ℕ) → AreBytes p → AreBytes (frame_on link p)
bytes_on Ethernet p all = all
bytes_on RawIp p all =
    zeros_bytes 12 (ether_type (version_of p) ++ p) (type_bytes (version_of p == 4) (version_of p == 6) p all)
