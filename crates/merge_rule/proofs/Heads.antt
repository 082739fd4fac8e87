-- The merging rule reads the headers alone, so first bytes tell it.
use Rattle.std.proofs.Common.{◌≡◌, ℕ, ◌+◌, ◌-◌, ◌*◌, ◌/◌, ◌%◌, ◌^◌, ◌<◌, ◌≤◌, Bool, true, Some, inl, inr, List, [], ◌∷◌, length, refl, sym, ap, ◌∙◌, subst, arith}
use Rattle.std.specs.Prelude.{◌==◌, ◌&&◌, ◌||◌, not, if◌then◌else◌}
use Rattle.std.specs.Bool.{Decides}
use Rattle.net_bytes.specs.Bytes.{byte, be16, be32}
use Rattle.ip_headers.specs.Ip4.{identification, dont_fragment}
use Rattle.frame_layout.specs.Shape.{Layout}
use Rattle.frame_layout.specs.Headers.{all_headers, size}
use Rattle.frame_layout.specs.declared.layout.Header.{Header}
use Rattle.frame_layout.specs.declared.layout.Layer.{Layer}
use Rattle.frame_layout.specs.declared.layout.Layer.TheVariants.{Ip4, Ip6, Udp, Tcp}
use Rattle.offload_model.specs.Tests.{is_length_in_range, is_ack_alone}
use Rattle.offload_model.specs.Merged.{modes_at, modes_of, modes_behind}
use Rattle.merge_rule.specs.Next.{is_next_at, is_next_id_at, are_ids_next, AreInside, HasHead, IsNext, IsNextBy}
use Rattle.merge_rule.specs.Runs.{IsPlaced, AreNextModes, IsNextProgress, IsFirstProgress}
use Rattle.merge_rule.specs.declared.rule.Progress.{Progress}
use Rattle.merge_rule.proofs.Headers.{inside_all}

-- the headers lie within the first n bytes, where the payload doesn't begin before
pub headers_in : (layout : Layout) (n : ℕ) (hs : List Header) → IsPlaced layout → layout.payload_at ≤ n → hs ≡ layout.headers → AreInside n hs
headers_in layout n hs placed within is =
    subst (AreInside n) (sym is) (inside_all 0 layout.headers layout.payload_at n placed.laid within)

ap2 : {A B : Type 0} (F : A → A → B) {a b c d : A} → a ≡ b → c ≡ d → F a c ≡ F b d
ap2 F {a} {b} {c} {d} e f = ap (λ z. F z c) e ∙ ap (λ z. F b z) f

-- two lists begin alike, up to place m
abbrev BeginAlike : ℕ → List ℕ → List ℕ → Type 0
BeginAlike m f h = (i : ℕ) → i < m → byte f i ≡ byte h i

module _ (m : ℕ) (f h : List ℕ) (alike : BeginAlike m f h) where
  same16 : (at : ℕ) → at + 2 ≤ m → be16 f at ≡ be16 h at
  same16 at b = omega (arith, alike at (omega (arith, b)), alike (at + 1) (omega (arith, b)))

  same32 : (at : ℕ) → at + 4 ≤ m → be32 f at ≡ be32 h at
  same32 at b = omega (arith, same16 at (omega (arith, b)), same16 (at + 2) (omega (arith, b)))

  ack_same : (l : Layer) (at : ℕ) → at + size l ≤ m → is_ack_alone f l at ≡ is_ack_alone h l at
  ack_same Tcp at i = ap (λ z. z == 0x10) (alike (at + 13) (omega (arith, i)))
  ack_same _ at i = refl

  acks_same : (hs : List Header) → AreInside m hs → all_headers (is_ack_alone f) hs ≡ all_headers (is_ack_alone h) hs
  acks_same [] a = refl
  acks_same (x ∷ xs) a = ap2 (λ y z. y && z) (ack_same x.layer x.at a.0) (acks_same xs a.1)

abbrev both_or_none : ℕ → ℕ → Bool
both_or_none a b = (a == 0 && b == 0) || (not (a == 0) && not (b == 0))

abbrev next_id : ℕ → ℕ → ℕ → ℕ → Bool → Bool
next_id n modes own id df =
    if n == 1
    then id == (own + n) % 2 ^ 16 || (df && id == own)
    else (if modes % 2 == 1 then id == own else id == (own + n) % 2 ^ 16)

-- f and g begin as h and k do
module _ (m : ℕ) (f g h k : List ℕ) (fb : BeginAlike m f h) (gb : BeginAlike m g k) where
  next_same : (n t : ℕ) (l : Layer) (at : ℕ) → at + size l ≤ m → is_next_at f g n t l at ≡ is_next_at h k n t l at
  next_same n t Udp at b =
      ap2 (λ x y. both_or_none x y && (true && is_length_in_range t Udp at))
      (same16 m g k gb (at + 6) (omega (arith, b))) (same16 m f h fb (at + 6) (omega (arith, b)))
  next_same n t Tcp at b =
      ap2 (λ x y. true && ((y == (x + n) % 2 ^ 32) && true))
      (same32 m f h fb (at + 4) (omega (arith, b))) (same32 m g k gb (at + 4) (omega (arith, b)))
  next_same n t _ at b = refl

  all_next_same : (n t : ℕ) (hs : List Header) → AreInside m hs → all_headers (is_next_at f g n t) hs ≡ all_headers (is_next_at h k n t) hs
  all_next_same n t [] a = refl
  all_next_same n t (x ∷ xs) a = ap2 (λ y z. y && z) (next_same n t x.layer x.at a.0) (all_next_same n t xs a.1)

  id_same : (n modes : ℕ) (l : Layer) (at : ℕ) → at + size l ≤ m → is_next_id_at n modes f g l at ≡ is_next_id_at n modes h k l at
  id_same n modes Ip4 at b =
      ap2 (λ x y. next_id n modes x y (dont_fragment f at))
      (same16 m f h fb (at + 4) (omega (arith, b))) (same16 m g k gb (at + 4) (omega (arith, b)))
      ∙ ap (λ z. next_id n modes (identification h at) (identification k at) (z / 0x40 % 2 == 1)) (fb (at + 6) (omega (arith, b)))
  id_same n modes _ at b = refl

  ids_same : (n modes : ℕ) (hs : List Header) → AreInside m hs → are_ids_next n modes f g hs ≡ are_ids_next n modes h k hs
  ids_same n modes [] a = refl
  ids_same n modes (x ∷ xs) a = ap2 (λ y z. y && z) (id_same n modes x.layer x.at a.0) (ids_same n (modes_behind x.layer modes) xs a.1)

  mode_same : (l : Layer) (at : ℕ) → at + size l ≤ m → (a b : ℕ) → a ≡ b
      → modes_at l (identification g at == identification f at) a ≡ modes_at l (identification k at == identification h at) b
  mode_same Ip4 at i a b e =
      ap2 (λ x y. modes_at Ip4 (x == y) a)
      (same16 m g k gb (at + 4) (omega (arith, i))) (same16 m f h fb (at + 4) (omega (arith, i)))
      ∙ ap (λ z. modes_at Ip4 (identification k at == identification h at) z) e
  mode_same Ip6 at i a b e = ap (λ z. 2 * z) e
  mode_same _ at i a b e = e

  modes_same : (hs : List Header) → AreInside m hs
      → modes_of (λ at. identification g at == identification f at) hs ≡ modes_of (λ at. identification k at == identification h at) hs
  modes_same [] a = refl
  modes_same (x ∷ xs) a = mode_same x.layer x.at a.0 _ _ (modes_same xs a.1)

  next_modes_same : (more old new : ℕ) (hs : List Header) → AreInside m hs → AreNextModes h more k hs old new → AreNextModes f more g hs old new
  next_modes_same more old new hs i (inl a) = inl (a.0, a.1 ∙ sym (modes_same hs i))
  next_modes_same more old new hs i (inr b) = inr b

-- ---- what holds of first bytes and lengths holds of the frames

module _ (layout : Layout) (placed : IsPlaced layout) where
  inside : AreInside layout.payload_at layout.headers
  inside = headers_in layout layout.payload_at layout.headers placed (omega arith) refl

  front : (head : List ℕ) (n : ℕ) (f : List ℕ) → layout.payload_at ≤ length head → HasHead head n f → BeginAlike layout.payload_at f head
  front head n f within is = λ i l. is.begins i (omega (arith, l, within))

  pub first_by_head : (h : List ℕ) (n : ℕ) (is_open : Bool) (f : List ℕ) → layout.payload_at ≤ length h → HasHead h n f
      → is_open ≡ all_headers (is_ack_alone h) layout.headers → IsFirstProgress (Some layout) f (record { is_open = is_open; total = n; modes = 0 })
  first_by_head h n is_open f hl hf e = (e ∙ sym (acks_same layout.payload_at f h (front h n f hl hf) layout.headers inside), sym hf.long, refl)

  -- a frame of n bytes that begins with h, and one of o bytes that begins with k
  module _ (h : List ℕ) (n : ℕ) (k : List ℕ) (o : ℕ) (f g : List ℕ) (hf : HasHead h n f) (kg : HasHead k o g) (hl : layout.payload_at ≤ length h) where
    pub next_by_head : (count total modes : ℕ) (b : Bool) → (layout.payload_at ≤ o → layout.payload_at ≤ length k)
        → Decides b (IsNextBy layout h n count total modes k o) → Decides b (IsNext layout f count total modes g)
    next_by_head count total modes b kl d =
        let at : ℕ = layout.payload_at in
        let fb : BeginAlike at f h = front h n f hl hf in (
          (λ t.
              let x : IsNextBy layout h n count total modes k o = d.0 t in
              let gb : BeginAlike at g k = front k o g (kl x.there) kg in
              record {
                shorter = omega (arith, hf.long, kg.long, x.shorter);
                there = omega (arith, kg.long, x.there);
                alike = λ i l u. fb i l ∙ x.alike i l u ∙ sym (gb i l);
                numbers = ap (λ z. all_headers (is_next_at f g (total - at) (total + (z - at))) layout.headers) kg.long
                    ∙ all_next_same at f g h k fb gb (total - at) (total + (o - at)) layout.headers inside ∙ x.numbers;
                room = omega (arith, kg.long, x.room);
                ids = ids_same at f g h k fb gb count modes layout.headers inside ∙ x.ids;
              }),
          (λ x.
              let there : at ≤ o = omega (arith, kg.long, x.there) in
              let gb : BeginAlike at g k = front k o g (kl there) kg in
              d.1 (record {
                shorter = omega (arith, hf.long, kg.long, x.shorter);
                there = there;
                alike = λ i l u. sym (fb i l) ∙ x.alike i l u ∙ gb i l;
                numbers = sym (all_next_same at f g h k fb gb (total - at) (total + (o - at)) layout.headers inside)
                    ∙ ap (λ z. all_headers (is_next_at f g (total - at) (total + (z - at))) layout.headers) (sym kg.long) ∙ x.numbers;
                room = omega (arith, kg.long, x.room);
                ids = sym (ids_same at f g h k fb gb count modes layout.headers inside) ∙ x.ids;
              })),
        )

    pub progress_by_head : (more : ℕ) (old : Progress) (is_open : Bool) (total modes : ℕ) → layout.payload_at ≤ length k
        → is_open ≡ (o == n && all_headers (is_ack_alone k) layout.headers) → total ≡ old.total + (o - layout.payload_at)
        → AreNextModes h more k layout.headers old.modes modes
        → IsNextProgress (Some layout) f more g old (record { is_open = is_open; total = total; modes = modes })
    progress_by_head more old is_open total modes kl eo et em =
        let at : ℕ = layout.payload_at in
        let fb : BeginAlike at f h = front h n f hl hf in
        let gb : BeginAlike at g k = front k o g kl kg in (
          eo ∙ sym (
              ap (λ z. z == length f && all_headers (is_ack_alone g) layout.headers) kg.long
              ∙ ap (λ z. o == z && all_headers (is_ack_alone g) layout.headers) hf.long
              ∙ ap (λ z. o == n && z) (acks_same at g k gb layout.headers inside)
              ),
          et ∙ ap (λ z. old.total + (z - at)) (sym kg.long),
          next_modes_same at f g h k fb gb more old.modes modes layout.headers inside em,
        )
