-- Headers that are written and read back.
use Rattle.std.proofs.Common.{arith, ◌≡◌, refl, sym, ap, ◌∙◌, ℕ, zero, suc, ◌+◌, ◌*◌, ◌/◌, ◌%◌, ◌^◌, ◌<◌, ◌≤◌, List, [], ◌∷◌, ◌++◌, length, take, drop, Bool, true, false, None, length-drop}
use Rattle.std.proofs.Common.{take-append-drop, append_assoc}
use Rattle.std.proofs.lemmas.List.{drop-drop, take_all}
use Rattle.byteorder.specs.Numbers.{big_number-reads_back, little_number-reads_back}
use Rattle.net_bytes.specs.declared.order.Order.{Order}
use Rattle.net_bytes.specs.declared.order.Order.TheVariants.{Big, Little}
use Rattle.net_bytes.specs.Order.{number, bytes_of}
use Rattle.pcap_io.specs.declared.heads.Link.{Link}
use Rattle.pcap_io.specs.declared.heads.Link.TheVariants as links
use Rattle.pcap_io.specs.declared.heads.FileHead.{FileHead}
use Rattle.pcap_io.specs.declared.off_head.OffHead.{OffHead}
use Rattle.pcap_io.specs.declared.off_head.OffHead2.{OffHead2}
use Rattle.pcap_io.specs.Headers.{first_that_holds, file_refusals, file_head, captured_limit, link_number}
use Rattle.pcap_io.specs.Written.{file_bytes}
use Rattle.pcap_io.specs.Split.{AreBytes}
use Rattle.pcap_io.specs.Laws.{OffHeadReadsBack, OffHeadWritesBack, OffHead2ReadsBack, OffHead2WritesBack, RecHeadReadsBack, RecHeadWritesBack, FileHeadReadsBack}

-- the highest and the lowest byte of a number of two bytes, and a number of four bytes as its halves
two_back : (n : ℕ) → n < 2 ^ 16 → 256 * (n / 256 % 256) + n % 256 ≡ n
two_back n fits = omega arith

four_back : (n : ℕ) → n < 2 ^ 32 → 65536 * (256 * (n / 256 ^ 3 % 256) + n / 256 ^ 2 % 256) + (256 * (n / 256 % 256) + n % 256) ≡ n
four_back n fits = omega arith

same_off_head : (version kind n n' m m' modes lane number number' : ℕ) → n ≡ n' → m ≡ m' → number ≡ number'
    → let a : OffHead = record { version = version; kind = kind; n = n; m = m; modes = modes; lane = lane; number = number } in
    let b : OffHead = record { version = version; kind = kind; n = n'; m = m'; modes = modes; lane = lane; number = number' } in
    a ≡ b
same_off_head version kind n n' m m' modes lane number number' p q r = rw (p, q, r) refl

pub off_head_law : OffHeadReadsBack
off_head_law head fits =
    same_off_head head.version head.kind _ _ _ _ head.modes head.lane _ _ (two_back head.n fits.n) (two_back head.m fits.m) (four_back head.number fits.number)

same_twelve : (version kind modes lane a b c d e f g h a' b' c' d' e' f' g' h' : ℕ) → a ≡ a' → b ≡ b' → c ≡ c' → d ≡ d' → e ≡ e' → f ≡ f' → g ≡ g' → h ≡ h'
    → version ∷ kind ∷ a ∷ b ∷ c ∷ d ∷ modes ∷ lane ∷ e ∷ f ∷ g ∷ h ∷ [] ≡ version ∷ kind ∷ a' ∷ b' ∷ c' ∷ d' ∷ modes ∷ lane ∷ e' ∷ f' ∷ g' ∷ h' ∷ []
same_twelve version kind modes lane a b c d e f g h a' b' c' d' e' f' g' h' p q r s t u v w = rw (p, q, r, s, t, u, v, w) refl

-- the bytes of a number that was made of bytes
two_high : (a b : ℕ) → a < 256 → b < 256 → (256 * a + b) / 256 % 256 ≡ a
two_high a b p q = omega arith

two_low : (a b : ℕ) → a < 256 → b < 256 → (256 * a + b) % 256 ≡ b
two_low a b p q = omega arith

four_0 : (a b c d : ℕ) → a < 256 → b < 256 → c < 256 → d < 256 → (65536 * (256 * a + b) + (256 * c + d)) / 256 ^ 3 % 256 ≡ a
four_0 a b c d p q r s = omega arith

four_1 : (a b c d : ℕ) → a < 256 → b < 256 → c < 256 → d < 256 → (65536 * (256 * a + b) + (256 * c + d)) / 256 ^ 2 % 256 ≡ b
four_1 a b c d p q r s = omega arith

four_2 : (a b c d : ℕ) → a < 256 → b < 256 → c < 256 → d < 256 → (65536 * (256 * a + b) + (256 * c + d)) / 256 % 256 ≡ c
four_2 a b c d p q r s = omega arith

four_3 : (a b c d : ℕ) → a < 256 → b < 256 → c < 256 → d < 256 → (65536 * (256 * a + b) + (256 * c + d)) % 256 ≡ d
four_3 a b c d p q r s = omega arith

pub off_bytes_law : OffHeadWritesBack
off_bytes_law [] size are = absurd (omega (arith, size))
off_bytes_law (a ∷ []) size are = absurd (omega (arith, size))
off_bytes_law (a ∷ b ∷ []) size are = absurd (omega (arith, size))
off_bytes_law (a ∷ b ∷ c ∷ []) size are = absurd (omega (arith, size))
off_bytes_law (a ∷ b ∷ c ∷ d ∷ []) size are = absurd (omega (arith, size))
off_bytes_law (a ∷ b ∷ c ∷ d ∷ e ∷ []) size are = absurd (omega (arith, size))
off_bytes_law (a ∷ b ∷ c ∷ d ∷ e ∷ f ∷ []) size are = absurd (omega (arith, size))
off_bytes_law (a ∷ b ∷ c ∷ d ∷ e ∷ f ∷ g ∷ []) size are = absurd (omega (arith, size))
off_bytes_law (a ∷ b ∷ c ∷ d ∷ e ∷ f ∷ g ∷ h ∷ []) size are = absurd (omega (arith, size))
off_bytes_law (a ∷ b ∷ c ∷ d ∷ e ∷ f ∷ g ∷ h ∷ i ∷ []) size are = absurd (omega (arith, size))
off_bytes_law (a ∷ b ∷ c ∷ d ∷ e ∷ f ∷ g ∷ h ∷ i ∷ j ∷ []) size are = absurd (omega (arith, size))
off_bytes_law (a ∷ b ∷ c ∷ d ∷ e ∷ f ∷ g ∷ h ∷ i ∷ j ∷ k ∷ []) size are = absurd (omega (arith, size))
off_bytes_law (a ∷ b ∷ c ∷ d ∷ e ∷ f ∷ g ∷ h ∷ i ∷ j ∷ k ∷ l ∷ []) size are =
    let from_c = are.1.1 in
    let from_i = from_c.1.1.1.1.1.1 in
    let ci = from_c.0 in
    let di = from_c.1.0 in
    let ei = from_c.1.1.0 in
    let fi = from_c.1.1.1.0 in
    let ii = from_i.0 in
    let ji = from_i.1.0 in
    let ki = from_i.1.1.0 in
    let li = from_i.1.1.1.0 in
    same_twelve a b g h _ _ _ _ _ _ _ _ c d e f i j k l (two_high c d ci di) (two_low c d ci di) (two_high e f ei fi) (two_low e f ei fi)
    (four_0 i j k l ii ji ki li) (four_1 i j k l ii ji ki li) (four_2 i j k l ii ji ki li) (four_3 i j k l ii ji ki li)
off_bytes_law (a ∷ b ∷ c ∷ d ∷ e ∷ f ∷ g ∷ h ∷ i ∷ j ∷ k ∷ l ∷ m ∷ more) size are = absurd (omega (arith, size))

same_off_head2 : (version kind modes lane n n' m m' number number' : ℕ) → n ≡ n' → m ≡ m' → number ≡ number'
    → let a : OffHead2 = record { version = version; kind = kind; modes = modes; lane = lane; n = n; m = m; number = number } in
    let b : OffHead2 = record { version = version; kind = kind; modes = modes; lane = lane; n = n'; m = m'; number = number' } in
    a ≡ b
same_off_head2 version kind modes lane n n' m m' number number' p q r = rw (p, q, r) refl

pub off_head2_law : OffHead2ReadsBack
off_head2_law head fits =
    same_off_head2 head.version head.kind head.modes head.lane _ _ _ _ _ _ (four_back head.n fits.n) (four_back head.m fits.m) (four_back head.number fits.number)

same_sixteen : (version kind modes lane a b c d e f g h i j k l a' b' c' d' e' f' g' h' i' j' k' l' : ℕ)
    → a ≡ a' → b ≡ b' → c ≡ c' → d ≡ d' → e ≡ e' → f ≡ f' → g ≡ g' → h ≡ h' → i ≡ i' → j ≡ j' → k ≡ k' → l ≡ l'
    → version ∷ kind ∷ modes ∷ lane ∷ a ∷ b ∷ c ∷ d ∷ e ∷ f ∷ g ∷ h ∷ i ∷ j ∷ k ∷ l ∷ []
    ≡ version ∷ kind ∷ modes ∷ lane ∷ a' ∷ b' ∷ c' ∷ d' ∷ e' ∷ f' ∷ g' ∷ h' ∷ i' ∷ j' ∷ k' ∷ l' ∷ []
same_sixteen version kind modes lane a b c d e f g h i j k l a' b' c' d' e' f' g' h' i' j' k' l' p q r s t u v w x y z o = rw (p, q, r, s, t, u, v, w, x, y, z, o) refl

pub off_bytes2_law : OffHead2WritesBack
off_bytes2_law [] size are = absurd (omega (arith, size))
off_bytes2_law (a ∷ []) size are = absurd (omega (arith, size))
off_bytes2_law (a ∷ b ∷ []) size are = absurd (omega (arith, size))
off_bytes2_law (a ∷ b ∷ c ∷ []) size are = absurd (omega (arith, size))
off_bytes2_law (a ∷ b ∷ c ∷ d ∷ []) size are = absurd (omega (arith, size))
off_bytes2_law (a ∷ b ∷ c ∷ d ∷ e ∷ []) size are = absurd (omega (arith, size))
off_bytes2_law (a ∷ b ∷ c ∷ d ∷ e ∷ f ∷ []) size are = absurd (omega (arith, size))
off_bytes2_law (a ∷ b ∷ c ∷ d ∷ e ∷ f ∷ g ∷ []) size are = absurd (omega (arith, size))
off_bytes2_law (a ∷ b ∷ c ∷ d ∷ e ∷ f ∷ g ∷ h ∷ []) size are = absurd (omega (arith, size))
off_bytes2_law (a ∷ b ∷ c ∷ d ∷ e ∷ f ∷ g ∷ h ∷ i ∷ []) size are = absurd (omega (arith, size))
off_bytes2_law (a ∷ b ∷ c ∷ d ∷ e ∷ f ∷ g ∷ h ∷ i ∷ j ∷ []) size are = absurd (omega (arith, size))
off_bytes2_law (a ∷ b ∷ c ∷ d ∷ e ∷ f ∷ g ∷ h ∷ i ∷ j ∷ k ∷ []) size are = absurd (omega (arith, size))
off_bytes2_law (a ∷ b ∷ c ∷ d ∷ e ∷ f ∷ g ∷ h ∷ i ∷ j ∷ k ∷ l ∷ []) size are = absurd (omega (arith, size))
off_bytes2_law (a ∷ b ∷ c ∷ d ∷ e ∷ f ∷ g ∷ h ∷ i ∷ j ∷ k ∷ l ∷ m ∷ []) size are = absurd (omega (arith, size))
off_bytes2_law (a ∷ b ∷ c ∷ d ∷ e ∷ f ∷ g ∷ h ∷ i ∷ j ∷ k ∷ l ∷ m ∷ n ∷ []) size are = absurd (omega (arith, size))
off_bytes2_law (a ∷ b ∷ c ∷ d ∷ e ∷ f ∷ g ∷ h ∷ i ∷ j ∷ k ∷ l ∷ m ∷ n ∷ o ∷ []) size are = absurd (omega (arith, size))
off_bytes2_law (a ∷ b ∷ c ∷ d ∷ e ∷ f ∷ g ∷ h ∷ i ∷ j ∷ k ∷ l ∷ m ∷ n ∷ o ∷ p ∷ []) size are =
    let q = are.1.1.1.1 in
    let r = q.1.1.1.1 in
    let s = r.1.1.1.1 in
    let ei = q.0 in
    let fi = q.1.0 in
    let gi = q.1.1.0 in
    let hi = q.1.1.1.0 in
    let ii = r.0 in
    let ji = r.1.0 in
    let ki = r.1.1.0 in
    let li = r.1.1.1.0 in
    let mi = s.0 in
    let ni = s.1.0 in
    let oi = s.1.1.0 in
    let pi = s.1.1.1.0 in
    same_sixteen a b c d _ _ _ _ _ _ _ _ _ _ _ _ e f g h i j k l m n o p
    (four_0 e f g h ei fi gi hi) (four_1 e f g h ei fi gi hi) (four_2 e f g h ei fi gi hi) (four_3 e f g h ei fi gi hi)
    (four_0 i j k l ii ji ki li) (four_1 i j k l ii ji ki li) (four_2 i j k l ii ji ki li) (four_3 i j k l ii ji ki li)
    (four_0 m n o p mi ni oi pi) (four_1 m n o p mi ni oi pi) (four_2 m n o p mi ni oi pi) (four_3 m n o p mi ni oi pi)
off_bytes2_law (a ∷ b ∷ c ∷ d ∷ e ∷ f ∷ g ∷ h ∷ i ∷ j ∷ k ∷ l ∷ m ∷ n ∷ o ∷ p ∷ q ∷ more) size are = absurd (omega (arith, size))

pub rec_head_law : RecHeadReadsBack
rec_head_law Big sec frac captured original p q r s = record {
  sec = big_number-reads_back 4 sec (bytes_of Big 4 frac ++ bytes_of Big 4 captured ++ bytes_of Big 4 original) p;
  frac = big_number-reads_back 4 frac (bytes_of Big 4 captured ++ bytes_of Big 4 original) q;
  captured = big_number-reads_back 4 captured (bytes_of Big 4 original) r;
  original = big_number-reads_back 4 original [] s;
}
rec_head_law Little sec frac captured original p q r s = record {
  sec = little_number-reads_back 4 sec (bytes_of Little 4 frac ++ bytes_of Little 4 captured ++ bytes_of Little 4 original) p;
  frac = little_number-reads_back 4 frac (bytes_of Little 4 captured ++ bytes_of Little 4 original) q;
  captured = little_number-reads_back 4 captured (bytes_of Little 4 original) r;
  original = little_number-reads_back 4 original [] s;
}

same_four : (a b c d a' b' c' d' : ℕ) → a ≡ a' → b ≡ b' → c ≡ c' → d ≡ d' → a ∷ b ∷ c ∷ d ∷ [] ≡ a' ∷ b' ∷ c' ∷ d' ∷ []
same_four a b c d a' b' c' d' p q r s = rw (p, q, r, s) refl

high_0 : (a b c d : ℕ) → a < 256 → b < 256 → c < 256 → d < 256 → (a * 256 ^ 3 + (b * 256 ^ 2 + (c * 256 ^ 1 + (d * 256 ^ 0 + 0)))) / 256 ^ 3 % 256 ≡ a
high_0 a b c d p q r s = omega arith

high_1 : (a b c d : ℕ) → a < 256 → b < 256 → c < 256 → d < 256 → (a * 256 ^ 3 + (b * 256 ^ 2 + (c * 256 ^ 1 + (d * 256 ^ 0 + 0)))) / 256 ^ 2 % 256 ≡ b
high_1 a b c d p q r s = omega arith

high_2 : (a b c d : ℕ) → a < 256 → b < 256 → c < 256 → d < 256 → (a * 256 ^ 3 + (b * 256 ^ 2 + (c * 256 ^ 1 + (d * 256 ^ 0 + 0)))) / 256 % 256 ≡ c
high_2 a b c d p q r s = omega arith

high_3 : (a b c d : ℕ) → a < 256 → b < 256 → c < 256 → d < 256 → (a * 256 ^ 3 + (b * 256 ^ 2 + (c * 256 ^ 1 + (d * 256 ^ 0 + 0)))) % 256 ≡ d
high_3 a b c d p q r s = omega arith

low_0 : (a b c d : ℕ) → a < 256 → b < 256 → c < 256 → d < 256 → (a + 256 * (b + 256 * (c + 256 * (d + 256 * 0)))) % 256 ≡ a
low_0 a b c d p q r s = omega arith

low_1 : (a b c d : ℕ) → a < 256 → b < 256 → c < 256 → d < 256 → (a + 256 * (b + 256 * (c + 256 * (d + 256 * 0)))) / 256 % 256 ≡ b
low_1 a b c d p q r s = omega arith

low_2 : (a b c d : ℕ) → a < 256 → b < 256 → c < 256 → d < 256 → (a + 256 * (b + 256 * (c + 256 * (d + 256 * 0)))) / 256 ^ 2 % 256 ≡ c
low_2 a b c d p q r s = omega arith

low_3 : (a b c d : ℕ) → a < 256 → b < 256 → c < 256 → d < 256 → (a + 256 * (b + 256 * (c + 256 * (d + 256 * 0)))) / 256 ^ 3 % 256 ≡ d
low_3 a b c d p q r s = omega arith

-- the first four bytes, as the number that they are
quarter : (order : Order) (bytes : List ℕ) → 4 ≤ length bytes → AreBytes bytes → bytes_of order 4 (number order 4 bytes) ≡ take 4 bytes
quarter order [] long are = absurd (omega (arith, long))
quarter order (a ∷ []) long are = absurd (omega (arith, long))
quarter order (a ∷ b ∷ []) long are = absurd (omega (arith, long))
quarter order (a ∷ b ∷ c ∷ []) long are = absurd (omega (arith, long))
quarter Big (a ∷ b ∷ c ∷ d ∷ bytes) long are =
    let p = are.0 in
    let q = are.1.0 in
    let r = are.1.1.0 in
    let s = are.1.1.1.0 in
    same_four _ _ _ _ a b c d (high_0 a b c d p q r s) (high_1 a b c d p q r s) (high_2 a b c d p q r s) (high_3 a b c d p q r s)
quarter Little (a ∷ b ∷ c ∷ d ∷ bytes) long are =
    let p = are.0 in
    let q = are.1.0 in
    let r = are.1.1.0 in
    let s = are.1.1.1.0 in
    same_four _ _ _ _ a b c d (low_0 a b c d p q r s) (low_1 a b c d p q r s) (low_2 a b c d p q r s) (low_3 a b c d p q r s)

pub bytes_drop : (k : ℕ) (bytes : List ℕ) → AreBytes bytes → AreBytes (drop k bytes)
bytes_drop zero bytes are = are
bytes_drop (suc k) [] are = are
bytes_drop (suc k) (b ∷ bytes) are = bytes_drop k bytes are.1

-- sixteen bytes by four and four
parts : (xs : List ℕ) → length xs ≡ 16 → take 4 xs ++ take 4 (drop 4 xs) ++ take 4 (drop 8 xs) ++ take 4 (drop 12 xs) ≡ xs
parts xs size =
    let a = take 4 xs in
    let b = take 4 (drop 4 xs) in
    let c = take 4 (drop 8 xs) in
    let last : take 4 (drop 12 xs) ≡ drop 12 xs = take_all 4 (drop 12 xs) (omega (arith, length-drop 12 xs, size)) in
    let third : c ++ drop 12 xs ≡ drop 8 xs = ap (λ l. c ++ l) (sym (drop-drop 4 8 xs)) ∙ take-append-drop 4 (drop 8 xs) in
    let second : b ++ drop 8 xs ≡ drop 4 xs = ap (λ l. b ++ l) (sym (drop-drop 4 4 xs)) ∙ take-append-drop 4 (drop 4 xs) in
    ap (λ l. a ++ b ++ c ++ l) last ∙ append_assoc (a ++ b) c (drop 12 xs) ∙ ap (λ l. a ++ b ++ l) third
    ∙ append_assoc a b (drop 8 xs) ∙ ap (λ l. a ++ l) second ∙ take-append-drop 4 xs

pub rec_bytes_law : RecHeadWritesBack
rec_bytes_law order head size are =
    let q0 = quarter order head (omega (arith, size)) are in
    let q1 = quarter order (drop 4 head) (omega (arith, length-drop 4 head, size)) (bytes_drop 4 head are) in
    let q2 = quarter order (drop 8 head) (omega (arith, length-drop 8 head, size)) (bytes_drop 8 head are) in
    let q3 = quarter order (drop 12 head) (omega (arith, length-drop 12 head, size)) (bytes_drop 12 head are) in
    joined _ _ _ _ _ _ _ _ q0 q1 q2 q3 ∙ parts head size
  where
    joined : (a b c d a' b' c' d' : List ℕ) → a ≡ a' → b ≡ b' → c ≡ c' → d ≡ d' → a ++ b ++ c ++ d ≡ a' ++ b' ++ c' ++ d'
    joined a b c d a' b' c' d' p q r s = rw (p, q, r, s) refl

-- a file header of each spelling
same_file : (order : Order) (nanos : Bool) (a b c d : ℕ) → a ≡ b → c ≡ d
    → let x : FileHead = record { order = order; nanos = nanos; zone = a; sigfigs = c } in
    let y : FileHead = record { order = order; nanos = nanos; zone = b; sigfigs = d } in
    x ≡ y
same_file order nanos a b c d p q = rw (p, q) refl

file_lawful : (order : Order) (nanos : Bool) (zone sigfigs : ℕ) (link : Link)
    → first_that_holds (file_refusals link (file_bytes (record { order = order; nanos = nanos; zone = zone; sigfigs = sigfigs }) link)) ≡ None
file_lawful Big false zone sigfigs links.Ethernet = refl
file_lawful Big false zone sigfigs links.Offload = refl
file_lawful Big true zone sigfigs links.Ethernet = refl
file_lawful Big true zone sigfigs links.Offload = refl
file_lawful Little false zone sigfigs links.Ethernet = refl
file_lawful Little false zone sigfigs links.Offload = refl
file_lawful Little true zone sigfigs links.Ethernet = refl
file_lawful Little true zone sigfigs links.Offload = refl

file_back : (order : Order) (nanos : Bool) (zone sigfigs : ℕ) (link : Link) → zone < 2 ^ 32 → sigfigs < 2 ^ 32
    → let head : FileHead = record { order = order; nanos = nanos; zone = zone; sigfigs = sigfigs } in
    file_head (file_bytes head link) ≡ head
file_back Big false zone sigfigs link z s =
    same_file Big false _ zone _ sigfigs (big_number-reads_back 4 zone (bytes_of Big 4 sigfigs ++ bytes_of Big 4 (captured_limit link) ++ bytes_of Big 4 (link_number link)) z)
    (big_number-reads_back 4 sigfigs (bytes_of Big 4 (captured_limit link) ++ bytes_of Big 4 (link_number link)) s)
file_back Big true zone sigfigs link z s =
    same_file Big true _ zone _ sigfigs (big_number-reads_back 4 zone (bytes_of Big 4 sigfigs ++ bytes_of Big 4 (captured_limit link) ++ bytes_of Big 4 (link_number link)) z)
    (big_number-reads_back 4 sigfigs (bytes_of Big 4 (captured_limit link) ++ bytes_of Big 4 (link_number link)) s)
file_back Little false zone sigfigs link z s =
    same_file Little false _ zone _ sigfigs (little_number-reads_back 4 zone (bytes_of Little 4 sigfigs ++ bytes_of Little 4 (captured_limit link) ++ bytes_of Little 4 (link_number link)) z)
    (little_number-reads_back 4 sigfigs (bytes_of Little 4 (captured_limit link) ++ bytes_of Little 4 (link_number link)) s)
file_back Little true zone sigfigs link z s =
    same_file Little true _ zone _ sigfigs (little_number-reads_back 4 zone (bytes_of Little 4 sigfigs ++ bytes_of Little 4 (captured_limit link) ++ bytes_of Little 4 (link_number link)) z)
    (little_number-reads_back 4 sigfigs (bytes_of Little 4 (captured_limit link) ++ bytes_of Little 4 (link_number link)) s)

pub file_head_law : FileHeadReadsBack
file_head_law head link z s = (file_lawful head.order head.nanos head.zone head.sigfigs link, file_back head.order head.nanos head.zone head.sigfigs link z s)
