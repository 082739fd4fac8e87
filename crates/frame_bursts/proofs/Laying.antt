-- Headers that are laid one behind the other, and bytes at the front of a frame.
use Rattle.std.proofs.Common.{zero, suc, ◌≡◌, ℕ, ◌+◌, ◌/◌, ◌%◌, ◌<◌, ◌≤◌, List, []}
use Rattle.std.proofs.Common.{◌∷◌, ◌++◌, length, get_or}
use Rattle.std.proofs.Common.{take, drop, append_assoc, refl, sym, ap, ◌∙◌, arith}
use Rattle.std.proofs.lemmas.List.{take-append-le, drop-append-le, length-drop}
use Rattle.net_bytes.specs.Bytes.{part, bytes16}
use Rattle.frame_layout.specs.Candidate.{pseudo_header}
use Rattle.frame_layout.specs.Front.{AreAddressesWithin}
use Rattle.frame_layout.specs.Headers.{AreLaid, size}
use Rattle.frame_layout.specs.declared.layout.Header.{Header}
use Rattle.frame_layout.specs.declared.layout.Layer.{Layer}
use Rattle.frame_layout.specs.declared.layout.Layer.TheVariants.{Ethernet, Tag, Ip4, Ip6, Udp, Vxlan, Gre, KeyedGre}
use Rattle.frame_layout.specs.declared.layout.Layer.TheVariants.{Tcp}

low : (hs : List Header) (start n : ℕ) → AreLaid start hs n → start ≤ n
low [] start n laid = laid
low (h ∷ hs) start n laid = omega (arith, laid.0, low hs (h.at + size h.layer) n laid.1)

addresses : (n at : ℕ) (layer : Layer) → at + size layer ≤ n → AreAddressesWithin n layer at
addresses n at Ethernet h = tt
addresses n at Tag h = tt
addresses n at Ip4 h = h
addresses n at Ip6 h = h
addresses n at Udp h = tt
addresses n at Vxlan h = tt
addresses n at Gre h = tt
addresses n at KeyedGre h = tt
addresses n at Tcp h = tt

-- the addresses of any of them lie within
pub addresses_at : (hs : List Header) (start n i : ℕ) (h : Header) → AreLaid start hs n
    → h ≡ get_or hs i (record { layer = Ethernet; at = 0 }) → AreAddressesWithin n h.layer h.at
addresses_at [] start n i h laid is = rw is tt
addresses_at (x ∷ hs) start n zero h laid is =
    rw is (addresses n x.at x.layer (low hs (x.at + size x.layer) n laid.1))
addresses_at (x ∷ hs) start n (suc i) h laid is = addresses_at hs (x.at + size x.layer) n i h laid.1 is

pub part_front : (head behind : List ℕ) (at n : ℕ) → at + n ≤ length head → part (head ++ behind) at n ≡ part head at n
part_front head behind at n inside =
    ap (take n) (drop-append-le at head behind (omega (arith, inside)))
    ∙ take-append-le n (drop at head) behind (omega (arith, inside, length-drop at head))

-- ---- pseudo headers, put together number by number

joined : (xs bs cs ds es : List ℕ) → (((xs ++ bs) ++ cs) ++ ds) ++ es ≡ xs ++ (bs ++ (cs ++ (ds ++ es)))
joined xs bs cs ds es =
    append_assoc ((xs ++ bs) ++ cs) ds es ∙ append_assoc (xs ++ bs) cs (ds ++ es)
    ∙ append_assoc xs bs (cs ++ (ds ++ es))

high : (p : ℕ) → p < 256 → p / 256 ≡ 0
high p h = omega (arith, h)

same : (p : ℕ) → p < 256 → p % 256 ≡ p
same p h = omega (arith, h)

pub header4 : (xs : List ℕ) (n q p len : ℕ) → n ≡ 8 → q ≡ p → p < 256
    → (take n xs ++ bytes16 q) ++ bytes16 len ≡ take 8 xs ++ (0 ∷ p ∷ bytes16 len)
header4 xs n q p len m e h =
    ap (λ (z : ℕ). (take z xs ++ bytes16 q) ++ bytes16 len) m
    ∙ append_assoc (take 8 xs) (bytes16 q) (bytes16 len)
    ∙ ap (λ (z : ℕ). take 8 xs ++ (z / 256 ∷ z % 256 ∷ bytes16 len)) e
    ∙ ap (λ (z : ℕ). take 8 xs ++ (z ∷ p % 256 ∷ bytes16 len)) (high p h)
    ∙ ap (λ (z : ℕ). take 8 xs ++ (0 ∷ z ∷ bytes16 len)) (same p h)

pub header6 : (xs : List ℕ) (n q p a b : ℕ) → n ≡ 32 → q ≡ p → p < 256
    → (((take n xs ++ bytes16 a) ++ bytes16 b) ++ bytes16 0) ++ bytes16 q
    ≡ take 32 xs ++ (bytes16 a ++ (bytes16 b ++ (0 ∷ 0 ∷ 0 ∷ p ∷ [])))
header6 xs n q p a b m e h =
    ap (λ (z : ℕ). (((take z xs ++ bytes16 a) ++ bytes16 b) ++ bytes16 0) ++ bytes16 q) m
    ∙ joined (take 32 xs) (bytes16 a) (bytes16 b) (bytes16 0) (bytes16 q)
    ∙ ap (λ (z : ℕ). take 32 xs ++ (bytes16 a ++ (bytes16 b ++ (0 ∷ 0 ∷ z / 256 ∷ z % 256 ∷ [])))) e
    ∙ ap (λ (z : ℕ). take 32 xs ++ (bytes16 a ++ (bytes16 b ++ (0 ∷ 0 ∷ z ∷ p % 256 ∷ [])))) (high p h)
    ∙ ap (λ (z : ℕ). take 32 xs ++ (bytes16 a ++ (bytes16 b ++ (0 ∷ 0 ∷ 0 ∷ z ∷ [])))) (same p h)

-- the pseudo header is read of the front of a frame
pub pseudo_front : (head behind : List ℕ) (layer : Layer) (at p len : ℕ) → AreAddressesWithin (length head) layer at
    → pseudo_header head layer at p len ≡ pseudo_header (head ++ behind) layer at p len
pseudo_front head behind Ip4 at p len h =
    ap (λ (z : List ℕ). z ++ (0 ∷ p ∷ bytes16 len)) (sym (part_front head behind (at + 12) 8 (omega (arith, h))))
pseudo_front head behind Ip6 at p len h =
    ap (λ (z : List ℕ). z ++ (bytes16 (len / 65536) ++ (bytes16 (len % 65536) ++ (0 ∷ 0 ∷ 0 ∷ p ∷ []))))
    (sym (part_front head behind (at + 8) 32 (omega (arith, h))))
pseudo_front head behind Ethernet at p len h = refl
pseudo_front head behind Tag at p len h = refl
pseudo_front head behind Udp at p len h = refl
pseudo_front head behind Vxlan at p len h = refl
pseudo_front head behind Gre at p len h = refl
pseudo_front head behind KeyedGre at p len h = refl
pseudo_front head behind Tcp at p len h = refl
