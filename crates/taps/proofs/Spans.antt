-- Windows as places in one run of bytes that grows at its end.
use Rattle.std.proofs.Common.{◌≡◌, ℕ, zero, suc, ◌+◌, ◌-◌, ◌*◌, ◌<◌, ◌≤◌, min, List, [], ◌∷◌, ◌++◌, length, map, take, drop, get_or, refl, ap, sym, ◌∙◌, arith, length-append, length-drop, length-take}
use Rattle.std.proofs.Common.{inl, inr}
use Rattle.std.specs.List.{slice_range, slice_index_or}
use Rattle.std.proofs.Math.Seq.{take-suc, take-length, drop-append_seam}
use Rattle.std.proofs.lemmas.Grind.{flat_map-append}
use Rattle.std.proofs.lemmas.Bool.Decides.{leb_tells}
use Rattle.std.proofs.lemmas.List.{map-append, append-nil, drop-append-le, drop-take, drop_all, take-append-le, take-take, take_all}
use Rattle.pcap_io.specs.Capture.{Packet}
use Rattle.offload_model.specs.Written.{window_of}
use Rattle.taps.specs.declared.texts.Span.{Span}
use Rattle.taps.specs.Texts.{text_of, texts_of, text_at, IsWithin}

-- each place lies in the bytes
abbrev pub AreWithin : List ℕ → List Span → Type 0
AreWithin bytes spans = (k : ℕ) (d : Span) → k < length spans → IsWithin bytes (slice_index_or spans k d)

-- bytes that come behind change nothing
pub range_stays : (xs ys : List ℕ) (from to : ℕ) → from ≤ to → to ≤ length xs → slice_range (xs ++ ys) from to ≡ slice_range xs from to
range_stays xs ys from to h k =
    ap (take (to - from)) (drop-append-le from xs ys (omega arith))
    ∙ take-append-le (to - from) (drop from xs) ys (omega (arith, length-drop from xs))

pub last_range : (xs ys zs : List ℕ) → zs ≡ xs ++ ys → slice_range zs (length xs) (length zs) ≡ ys
last_range xs ys zs e =
    let n : length zs - length xs ≡ length ys = omega (arith, ap length e, length-append xs ys) in
    ap (λ z. take (length zs - length xs) (drop (length xs) z)) e
    ∙ ap (take (length zs - length xs)) (drop-append_seam xs ys)
    ∙ ap (λ z. take z ys) n
    ∙ take-length ys

pub within_more : (xs ys zs : List ℕ) (ss : List Span) (s : Span) → zs ≡ xs ++ ys → AreWithin xs ss → IsWithin zs s → AreWithin zs (ss ++ s ∷ [])
within_more xs ys zs [] s e h w zero d l = w
within_more xs ys zs [] s e h w (suc k) d l = absurd (omega (arith, l))
within_more xs ys zs (a ∷ ss) s e h w zero d l =
    let i = h zero d (omega arith) in
    (i.0, omega (arith, i.1, ap length e, length-append xs ys))
within_more xs ys zs (a ∷ ss) s e h w (suc k) d l =
    within_more xs ys zs ss s e (λ j f m. h (suc j) f (omega (arith, m))) w k d (omega (arith, l))

texts_stay : (xs ys zs : List ℕ) (ss : List Span) → zs ≡ xs ++ ys → AreWithin xs ss → map (text_at zs) ss ≡ map (text_at xs) ss
texts_stay xs ys zs [] e h = refl
texts_stay xs ys zs (s ∷ ss) e h =
    let i = h zero s (omega arith) in
    let r : slice_range zs s.from s.to ≡ slice_range xs s.from s.to = ap (λ z. slice_range z s.from s.to) e ∙ range_stays xs ys s.from s.to (omega (arith, i.0)) i.1 in
    ap (λ z. record { number = s.number; sec = s.sec; frac = s.frac; original = s.original; frame = z } ∷ map (text_at zs) ss) r
    ∙ ap (λ z. text_at xs s ∷ z) (texts_stay xs ys zs ss e (λ j f m. h (suc j) f (omega (arith, m))))

-- one window more, whose bytes came behind the others
pub texts_more : (xs ys zs : List ℕ) (ss : List Span) (s : Span) → zs ≡ xs ++ ys → AreWithin xs ss
    → s.from ≡ length xs → s.to ≡ length zs
    → map (text_at zs) (ss ++ s ∷ []) ≡ map (text_at xs) ss ++ record { number = s.number; sec = s.sec; frac = s.frac; original = s.original; frame = ys } ∷ []
texts_more xs ys zs ss s e h f t =
    let r : slice_range zs s.from s.to ≡ ys = ap (λ z. slice_range zs z s.to) f ∙ ap (λ z. slice_range zs (length xs) z) t ∙ last_range xs ys zs e in
    map-append (text_at zs) ss (s ∷ [])
    ∙ ap (λ z. z ++ map (text_at zs) (s ∷ [])) (texts_stay xs ys zs ss e h)
    ∙ ap (λ z. map (text_at xs) ss ++ record { number = s.number; sec = s.sec; frac = s.frac; original = s.original; frame = z } ∷ []) r

-- ---- the packets so far

pub one_more : {A : Type 0} (v : A → Packet) (snap t : ℕ) (xs : List A) (i : ℕ) (x : A) → i < length xs → x ≡ get_or xs i x
    → texts_of snap t (map v (take (i + 1) xs)) ≡ texts_of snap t (map v (take i xs)) ++ text_of snap t (v x)
one_more v snap t xs i x l e =
    let n : i + 1 ≡ suc i = omega arith in
    ap (λ z. texts_of snap t (map v (take z xs))) n
    ∙ ap (λ z. texts_of snap t (map v z)) (take-suc xs i x l)
    ∙ ap (λ z. texts_of snap t (map v (take i xs ++ z ∷ []))) (sym e)
    ∙ ap (texts_of snap t) (map-append v (take i xs) (x ∷ []))
    ∙ flat_map-append (text_of snap t) (map v (take i xs)) (v x ∷ [])
    ∙ ap (λ z. texts_of snap t (map v (take i xs)) ++ z) (append-nil (text_of snap t (v x)))

two_takes : (k p q : ℕ) (ys : List ℕ) → k ≡ min p q → take k ys ≡ take p (take q ys)
two_takes k p q ys e =
    elim (leb_tells p q) [
      | inl a ↦ let same : k ≡ p = omega (arith, a.1) in ap (λ z. take z ys) same ∙ sym (take-take p q ys a.1)
      | inr a ↦
          let same : k ≡ q = omega (arith, a.1) in
          ap (λ z. take z ys) same ∙ sym (take_all p (take q ys) (omega (arith, length-take q ys, a.1)))
    ]

shown_inside : (bytes : List ℕ) (a n snap : ℕ) → a ≤ n → take (min (a + snap) n - a) (drop a bytes) ≡ take snap (drop a (take n bytes))
shown_inside bytes a n snap h =
    let whole : n ≡ a + (n - a) = omega arith in
    let rest : drop a (take n bytes) ≡ take (n - a) (drop a bytes) = ap (λ z. drop a (take z bytes)) whole ∙ drop-take a (n - a) bytes in
    two_takes (min (a + snap) n - a) snap (n - a) (drop a bytes) (omega arith) ∙ ap (take snap) (sym rest)

shown_outside : (bytes : List ℕ) (a n snap : ℕ) → n ≤ a → [] ≡ take snap (drop a (take n bytes))
shown_outside bytes a n snap h =
    let none : drop a (take n bytes) ≡ [] = drop_all a (take n bytes) (omega (arith, length-take n bytes)) in
    sym (take_all snap [] (omega arith)) ∙ ap (take snap) (sym none)

shown_at : (bytes shown : List ℕ) (n snap t : ℕ) → shown ≡ take n bytes
    → slice_range bytes (min (t * snap) n) (min (min (t * snap) n + snap) n) ≡ window_of snap t shown
shown_at bytes shown n snap t e =
    elim (leb_tells (t * snap) n) [
      | inl a ↦
          let from : min (t * snap) n ≡ t * snap = omega (arith, a.1) in
          ap (λ z. slice_range bytes z (min (z + snap) n)) from ∙ shown_inside bytes (t * snap) n snap a.1 ∙ ap (λ z. take snap (drop (t * snap) z)) (sym e)
      | inr a ↦
          let from : min (t * snap) n ≡ n = omega (arith, a.1) in
          let empty : min (n + snap) n - n ≡ 0 = omega arith in
          ap (λ z. slice_range bytes z (min (z + snap) n)) from ∙ ap (λ z. take z (drop n bytes)) empty ∙ shown_outside bytes (t * snap) n snap (omega (arith, a.1))
          ∙ ap (λ z. take snap (drop (t * snap) z)) (sym e)
    ]

-- the window of what is shown, of which all bytes are the first of the packet
pub shown_window : (bytes shown : List ℕ) (n snap t from to : ℕ) → shown ≡ take n bytes → from ≡ min (t * snap) n → to ≡ min (from + snap) n
    → slice_range bytes from to ≡ window_of snap t shown
shown_window bytes shown n snap t from to e f g =
    ap (λ z. slice_range bytes from z) (g ∙ ap (λ z. min (z + snap) n) f) ∙ ap (λ z. slice_range bytes z (min (min (t * snap) n + snap) n)) f ∙ shown_at bytes shown n snap t e
