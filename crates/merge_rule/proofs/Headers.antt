-- Tests of headers and the facts that they stand for.
use Rattle.std.proofs.Common.{◌≡◌, ℕ, zero, suc, ◌+◌, ◌-◌, ◌*◌, ◌<◌, ◌≤◌, inl, inr, Bool, true, false, List, [], ◌∷◌, ◌++◌, length, get_or, take, drop, refl, sym, ap, ◌∙◌, subst, arith}
use Rattle.std.specs.Prelude.{◌&&◌, nat_le}
use Rattle.std.specs.Bool.{Decides}
use Rattle.std.proofs.lemmas.Bool.{and_parts, leb-true}
use Rattle.std.proofs.lemmas.List.{drop_more, length-drop, length-take-le, get_or-take, get_or-drop, ext_get_or}
use Rattle.net_bytes.specs.Bytes.{byte}
use Rattle.pcap_io.specs.Limits.{most_frame}
use Rattle.frame_layout.specs.Shape.{Layout}
use Rattle.frame_layout.specs.Headers.{all_headers, AtHeaders, varying, IsOutsideOf, IsOutside, AreLaid, size, ip_weight, ip_count}
use Rattle.frame_layout.specs.declared.layout.Header.{Header}
use Rattle.frame_layout.specs.declared.layout.Layer.{Layer}
use Rattle.frame_layout.specs.declared.layout.Layer.TheVariants.{Ip4, Ip6}
use Rattle.frame_layout.proofs.Lemmas.{each_layer, headers_map, inside_all as inside_end}
use Rattle.offload_model.specs.Merged.{modes_at, modes_of}
use Rattle.merge_rule.specs.Next.{AreSame, fields_at, varying_in, AreAlikeFrom, AreApart, AreInside, is_next_at, IsNextBy}
use Rattle.merge_rule.specs.Plain.{AreHeadersNext}

-- ---- frames alike between the fields that may differ

apart_end : (start end : ℕ) (xs : List (ℕ × ℕ)) → AreApart start xs end → start ≤ end
apart_end start end [] a = a
apart_end start end (x ∷ xs) a = omega (arith, a.0, apart_end (x.0 + x.1) end xs a.1)

-- field i lies before the end
pub field_fits : (to at end : ℕ) (fields rest : List (ℕ × ℕ)) (i : ℕ) (d : ℕ × ℕ) → i < length fields → AreApart to (fields_at at (drop i fields) ++ rest) end
    → (to ≤ at + (get_or fields i d).0) × (at + (get_or fields i d).0 + (get_or fields i d).1 ≤ end)
field_fits to at end fields rest i d h a =
    let b = subst (λ z. AreApart to (fields_at at z ++ rest) end) (drop_more fields i d h) a in
    (b.0, apart_end (at + (get_or fields i d).0 + (get_or fields i d).1) end (fields_at at (drop (i + 1) fields) ++ rest) b.1)

apart_less : (from start end : ℕ) (xs : List (ℕ × ℕ)) → from ≤ start → AreApart start xs end → AreApart from xs end
apart_less from start end [] h a = omega (arith, a)
apart_less from start end (x ∷ xs) h a = (omega (arith, a.0), a.1)

-- the fields of a header stand in order in its first n bytes
abbrev are_sorted : ℕ → List (ℕ × ℕ) → ℕ → Bool
are_sorted j [] n = nat_le j n
are_sorted j (f ∷ fs) n = nat_le j f.0 && are_sorted (f.0 + f.1) fs n

apart_header : (start at j n end : ℕ) (fields rest : List (ℕ × ℕ)) → are_sorted j fields n ≡ true → start ≤ at + j → AreApart (at + n) rest end
    → AreApart start (fields_at at fields ++ rest) end
apart_header start at j n end [] rest e h a = apart_less start (at + n) end rest (omega (arith, leb-true j n e)) a
apart_header start at j n end (f ∷ fs) rest e h a =
    let p = and_parts (nat_le j f.0) (are_sorted (f.0 + f.1) fs n) e in
    (omega (arith, leb-true j f.0 p.0), apart_header (at + f.0 + f.1) at (f.0 + f.1) n end fs rest p.1 (omega arith) a)

pub apart_all : (start end : ℕ) (hs : List Header) → AreLaid start hs end → AreApart start (varying_in hs) end
apart_all start end [] l = l
apart_all start end (h ∷ hs) l =
    apart_header start h.at 0 (size h.layer) end (varying h.layer) (varying_in hs)
    (each_layer (λ l. are_sorted 0 (varying l) (size l)) refl h.layer) (omega (arith, l.0)) (apart_all (h.at + size h.layer) end hs l.1)

-- a place is outside the fields of all headers where it is outside those of each
outside_from : (at k : ℕ) (fields rest : List (ℕ × ℕ)) → IsOutsideOf fields k at → IsOutsideOf rest k 0 → IsOutsideOf (fields_at at fields ++ rest) k 0
outside_from at k [] rest o r = r
outside_from at k (f ∷ fs) rest o r = (elim o.0 [ inl a ↦ inl (omega arith) | inr a ↦ inr (omega arith) ], outside_from at k fs rest o.1 r)

outside_to : (at k : ℕ) (fields rest : List (ℕ × ℕ)) → IsOutsideOf (fields_at at fields ++ rest) k 0 → IsOutsideOf fields k at × IsOutsideOf rest k 0
outside_to at k [] rest o = (tt, o)
outside_to at k (f ∷ fs) rest o =
    let p = outside_to at k fs rest o.1 in
    ((elim o.0 [ inl a ↦ inl (omega arith) | inr a ↦ inr (omega arith) ], p.0), p.1)

outside_headers : (k : ℕ) (hs : List Header) → AtHeaders (IsOutside k) hs → IsOutsideOf (varying_in hs) k 0
outside_headers k [] o = tt
outside_headers k (h ∷ hs) o = outside_from h.at k (varying h.layer) (varying_in hs) o.0 (outside_headers k hs o.1)

at_outside : (k : ℕ) (hs : List Header) → IsOutsideOf (varying_in hs) k 0 → AtHeaders (IsOutside k) hs
at_outside k [] o = tt
at_outside k (h ∷ hs) o = let p = outside_to h.at k (varying h.layer) (varying_in hs) o in (p.0, at_outside k hs p.1)

module _ (f g : List ℕ) (end : ℕ) where
  before_fields : (k from : ℕ) (xs : List (ℕ × ℕ)) → k < from → AreApart from xs end → IsOutsideOf xs k 0
  before_fields k from [] b a = tt
  before_fields k from (x ∷ xs) b a = (inl (omega (arith, a.0)), before_fields k (x.0 + x.1) xs (omega (arith, a.0)) a.1)

  between : (from : ℕ) (xs : List (ℕ × ℕ)) → AreAlikeFrom f g end from xs → (k : ℕ) → from ≤ k → k < end → IsOutsideOf xs k 0 → byte f k ≡ byte g k
  between from [] a k h b o = a k h b
  between from (x ∷ xs) a k h b o = elim o.0 [ inl l ↦ a.0 k h (omega arith) | inr l ↦ between (x.0 + x.1) xs a.1 k (omega arith) b o.1 ]

  within : (from : ℕ) (xs : List (ℕ × ℕ)) → AreApart from xs end → ((k : ℕ) → from ≤ k → k < end → IsOutsideOf xs k 0 → byte f k ≡ byte g k) → AreAlikeFrom f g end from xs
  within from [] a s = λ k h b. s k h b tt
  within from (x ∷ xs) a s = (
    λ k h b. s k h (omega (arith, apart_end (x.0 + x.1) end xs a.1)) (inl (omega arith), before_fields k (x.0 + x.1) xs (omega arith) a.1),
    within (x.0 + x.1) xs a.1 (λ k h b o. s k (omega (arith, a.0)) b (inr (omega arith), o)),
  )

  pub alike_to : (hs : List Header) → AreAlikeFrom f g end 0 (varying_in hs) → (k : ℕ) → k < end → AtHeaders (IsOutside k) hs → byte f k ≡ byte g k
  alike_to hs a k b o = between 0 (varying_in hs) a k (omega arith) b (outside_headers k hs o)

  pub alike_from : (hs : List Header) → AreLaid 0 hs end → ((k : ℕ) → k < end → AtHeaders (IsOutside k) hs → byte f k ≡ byte g k) → AreAlikeFrom f g end 0 (varying_in hs)
  alike_from hs l s = within 0 (varying_in hs) (apart_all 0 end hs l) (λ k h b o. s k b (at_outside k hs o))

-- what is asked of a packet, where the test of its headers is at hand
pub next_by : (layout : Layout) (f : List ℕ) (n count total modes : ℕ) (g : List ℕ) (m : ℕ) (b : Bool) (further whole : ℕ)
    → AreLaid 0 layout.headers layout.payload_at → m ≤ n → layout.payload_at ≤ m → total + (m - layout.payload_at) ≤ most_frame
    → further ≡ total - layout.payload_at → whole ≡ total + (m - layout.payload_at)
    → Decides b (AreHeadersNext f g layout.payload_at further whole count modes layout.headers) → Decides b (IsNextBy layout f n count total modes g m)
next_by layout f n count total modes g m b further whole laid shorter there room ef ew d = (
  (λ t.
      let x : AreHeadersNext f g layout.payload_at further whole count modes layout.headers = d.0 t in
      record {
        shorter = shorter;
        there = there;
        alike = λ k l o. alike_to f g layout.payload_at layout.headers x.0 k l o;
        numbers = subst (λ z. all_headers (is_next_at f g z (total + (m - layout.payload_at))) layout.headers ≡ true) ef
            (subst (λ z. all_headers (is_next_at f g further z) layout.headers ≡ true) ew x.1);
        room = room;
        ids = x.2;
      }),
  (λ x. d.1 (
    alike_from f g layout.payload_at layout.headers laid (λ k l o. x.alike k l o),
    subst (λ z. all_headers (is_next_at f g z whole) layout.headers ≡ true) (sym ef)
        (subst (λ z. all_headers (is_next_at f g (total - layout.payload_at) z) layout.headers ≡ true) (sym ew) x.numbers),
    x.ids,
  )),
)

-- ---- parts of frames

pub same_parts : (f g : List ℕ) (from to n : ℕ) → from + n ≡ to → to ≤ length f → to ≤ length g → AreSame f g from to → take n (drop from f) ≡ take n (drop from g)
same_parts f g from to n e hf hg a =
    let lf : length (take n (drop from f)) ≡ n = length-take-le n (drop from f) (omega (arith, length-drop from f)) in
    let lg : length (take n (drop from g)) ≡ n = length-take-le n (drop from g) (omega (arith, length-drop from g)) in
    ext_get_or 0 (take n (drop from f)) (take n (drop from g)) (lf ∙ sym lg)
    (λ k h. let b : k < n = omega arith in
    get_or-take n (drop from f) k 0 b ∙ get_or-drop from f k 0 ∙ a (from + k) (omega arith) (omega arith) ∙ sym (get_or-drop from g k 0) ∙ sym (get_or-take n (drop from g) k 0 b))

pub parts_same : (f g : List ℕ) (from to n : ℕ) → from + n ≡ to → take n (drop from f) ≡ take n (drop from g) → AreSame f g from to
parts_same f g from to n e p = λ k a b.
    let i : ℕ = k - from in
    let back : from + i ≡ k = omega arith in
    let l : i < n = omega arith in
    subst (λ z. byte f z ≡ byte g z) back
    (sym (get_or-drop from f i 0) ∙ sym (get_or-take n (drop from f) i 0 l) ∙ ap (λ z. get_or z i 0) p ∙ get_or-take n (drop from g) i 0 l ∙ get_or-drop from g i 0)

-- ---- headers and lengths

pub inside_all : (start : ℕ) (hs : List Header) (end n : ℕ) → AreLaid start hs end → end ≤ n → AreInside n hs
inside_all start hs end n l e = headers_map (λ layer at h. omega arith) hs (inside_end start end hs l)

-- ---- modes

abbrev two : ℕ → ℕ
two zero = 1
two (suc n) = 2 * two n

two_less : (a b : ℕ) → a ≤ b → two a ≤ two b
two_less zero zero h = omega arith
two_less zero (suc b) h = omega (arith, two_less zero b (omega arith))
two_less (suc a) zero h = absurd (omega arith)
two_less (suc a) (suc b) h = omega (arith, two_less a b (omega arith))

modes_below : (stays : ℕ → Bool) (hs : List Header) (n : ℕ) → ip_count hs ≤ n → modes_of stays hs + 1 ≤ two n
modes_below stays [] n h = omega (arith, two_less 0 n (omega arith))
modes_below stays (x ∷ hs) n h = one x.layer (stays x.at) n h (λ m k. modes_below stays hs m k)
  where
    one : (layer : Layer) (b : Bool) (n : ℕ) → ip_weight layer + ip_count hs ≤ n → ((m : ℕ) → ip_count hs ≤ m → modes_of stays hs + 1 ≤ two m)
        → modes_at layer b (modes_of stays hs) + 1 ≤ two n
    one Ip4 b zero h f = absurd (omega arith)
    one Ip4 true (suc n) h f = omega (arith, f n (omega arith))
    one Ip4 false (suc n) h f = omega (arith, f n (omega arith))
    one Ip6 b zero h f = absurd (omega arith)
    one Ip6 b (suc n) h f = omega (arith, f n (omega arith))
    one _ b n h f = f n (omega arith)

ip_count_drop : (hs : List Header) (i : ℕ) → ip_count (drop i hs) ≤ ip_count hs
ip_count_drop [] zero = omega arith
ip_count_drop [] (suc i) = omega arith
ip_count_drop (h ∷ hs) zero = omega arith
ip_count_drop (h ∷ hs) (suc i) = omega (arith, ip_count_drop hs i)

pub modes_small : (stays : ℕ → Bool) (hs : List Header) (i : ℕ) → ip_count hs ≤ 2 → modes_of stays (drop i hs) < 4
modes_small stays hs i h = omega (arith, modes_below stays (drop i hs) 2 (omega (arith, ip_count_drop hs i)))

pub modes_step : (stays : ℕ → Bool) (hs : List Header) (i j : ℕ) (d : Header) (m r : ℕ) → j ≡ i + 1 → i < length hs → m ≡ modes_of stays (drop j hs)
    → r ≡ modes_at (get_or hs i d).layer (stays (get_or hs i d).at) m → r ≡ modes_of stays (drop i hs)
modes_step stays hs i j d m r b h em er =
    er ∙ ap (modes_at (get_or hs i d).layer (stays (get_or hs i d).at)) (em ∙ ap (λ z. modes_of stays (drop z hs)) b) ∙ sym (ap (modes_of stays) (drop_more hs i d h))
