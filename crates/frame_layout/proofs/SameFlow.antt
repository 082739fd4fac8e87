-- Two frames are of one flow where the places of their keys hold the same.
use Rattle.std.proofs.Common.{◌≡◌, ℕ, ◌+◌, ◌-◌, ◌<◌, ◌≤◌, inl, inr, Bool, true, Option, Some, None, List, [], ◌∷◌, ◌++◌, length, get_or, take, drop, refl, sym, ap, ◌∙◌, subst, arith}
use Rattle.std.specs.Prelude.{nat_eq, slice_range}
use Rattle.std.specs.Bool.{Decides}
use Rattle.std.specs.Cmp.Lexicographic.{pointwise}
use Rattle.std.proofs.lemmas.Bool.{cases_lt}
use Rattle.std.proofs.lemmas.Bool.Decides.{Decides-eqb}
use Rattle.std.proofs.Common.{length-append}
use Rattle.std.proofs.lemmas.List.{get_or-take, get_or-drop, drop-drop}
use Rattle.std.proofs.lemmas.Slice.Eq.{slice_eq-Decides}
use Rattle.net_bytes.specs.Bytes.{byte, part}
use Rattle.std.specs.List.{flat_map}
use Rattle.frame_layout.specs.Headers.{AreLaid}
use Rattle.frame_layout.specs.Key.{flow_part, key_of, key_eq, IsHeadOf}
use Rattle.frame_layout.specs.Plain.{plain_headers, plain_key}
use Rattle.frame_layout.specs.Shape.{Layout, shape_of}
use Rattle.frame_layout.specs.declared.layout.Header.{Header}
use Rattle.frame_layout.proofs.Bounds.{IsPlaced, placed}
use Rattle.frame_layout.proofs.Fronts.{same_shapes, same_keys}
use Rattle.frame_layout.proofs.Keys.{key_some}
use Rattle.frame_layout.proofs.KeyParts.{cut_take, cut_drop, part_long}
use Rattle.frame_layout.proofs.Zeroed.{same_part_long}

-- the test of keys decides
pub decides_key : (a b : Option (List ℕ)) → Decides (key_eq a b) (a ≡ b)
decides_key None None = (λ e. refl, λ e. refl)
decides_key None (Some b) = (λ e. absurd cc, λ e. absurd cc)
decides_key (Some a) None = (λ e. absurd cc, λ e. absurd cc)
decides_key (Some a) (Some b) =
    let d : Decides (pointwise nat_eq a b) (a ≡ b) = slice_eq-Decides Decides-eqb a b (pointwise nat_eq a b) refl in
    (λ e. ap Some (d.0 e), λ e. d.1 cc)

pub decides_some : (b : Bool) (x y : List ℕ) → Decides b (x ≡ y) → Decides b (Some x ≡ Some y)
decides_some b x y d = (λ e. ap Some (d.0 e), λ e. d.1 cc)

-- parts that are the same have the same bytes
same_bytes : (f g : List ℕ) (at n : ℕ) → part f at n ≡ part g at n → (k : ℕ) → at ≤ k → k < at + n → byte f k ≡ byte g k
same_bytes f g at n e = λ k a b.
    let i : ℕ = k - at in
    let back : at + i ≡ k = omega arith in
    let l : i < n = omega arith in
    subst (λ z. byte f z ≡ byte g z) back
    (sym (get_or-drop at f i 0) ∙ sym (get_or-take n (drop at f) i 0 l) ∙ ap (λ z. get_or z i 0) e ∙ get_or-take n (drop at g) i 0 l ∙ get_or-drop at g i 0)

-- the same bytes from one place to another
abbrev SameBytes : List ℕ → List ℕ → ℕ → ℕ → Type 0
SameBytes f g from to = (k : ℕ) → from ≤ k → k < to → byte f k ≡ byte g k

-- twelve bytes are the same where the first eight and the last four are
pub twelve_same : (f g : List ℕ) (at : ℕ) (b : Bool) → at + 12 ≤ length f → at + 12 ≤ length g → SameBytes f g at (at + 8)
    → Decides b (SameBytes f g (at + 8) (at + 8 + 4)) → Decides b (slice_range f at (at + 12) ≡ slice_range g at (at + 12))
twelve_same f g at b hf hg s d = (
  λ t. same_part_long f g at (at + 12 - at) (omega arith) (omega arith) (λ k l h. elim (cases_lt k (at + 8)) [
    | inl i ↦ s k l i
    | inr i ↦ d.0 t k i (omega arith)
  ]),
  λ e. d.1 (λ k l h. same_bytes f g at (at + 12 - at) e k (omega arith) (omega arith)),
)

pub eight_same : (f g : List ℕ) (at : ℕ) → slice_range f at (at + 12) ≡ slice_range g at (at + 12) → SameBytes f g at (at + 8)
eight_same f g at e = λ k l h. same_bytes f g at (at + 12 - at) e k l (omega arith)

-- ---- the bytes of a key, and where they lie

abbrev ports_of : List ℕ → List ℕ
ports_of f = part f 34 4 ++ []

abbrev behind : List ℕ → List ℕ
behind f = (4 ∷ part f 26 8) ++ ((6 ∷ part f 34 4) ++ [])

module _ (f : List ℕ) (long : 54 ≤ length f) where
  hosts_in : take 12 (plain_key f) ≡ part f 0 12
  hosts_in = cut_take (part f 0 12) (behind f) 12 (part_long f 0 12 (omega arith))

  behind_in : drop 12 (plain_key f) ≡ behind f
  behind_in = cut_drop (part f 0 12) (behind f) 12 (part_long f 0 12 (omega arith))

  addresses_in : take 8 (drop 1 (drop 12 (plain_key f))) ≡ part f 26 8
  addresses_in = ap (λ z. take 8 (drop 1 z)) behind_in ∙ cut_take (part f 26 8) (6 ∷ ports_of f) 8 (part_long f 26 8 (omega arith))

  marked_in : drop 8 (drop 1 (drop 12 (plain_key f))) ≡ 6 ∷ ports_of f
  marked_in = ap (λ z. drop 8 (drop 1 z)) behind_in ∙ cut_drop (part f 26 8) (6 ∷ ports_of f) 8 (part_long f 26 8 (omega arith))

  ports_in : take 4 (drop 1 (drop 8 (drop 1 (drop 12 (plain_key f))))) ≡ part f 34 4
  ports_in = ap (λ z. take 4 (drop 1 z)) marked_in ∙ cut_take (part f 34 4) [] 4 (part_long f 34 4 (omega arith))

  pub plain_long : length (plain_key f) ≡ 26
  plain_long =
      let m : length (6 ∷ ports_of f) ≡ 5 = omega (arith, length-append (part f 34 4) [], part_long f 34 4 (omega arith)) in
      omega (
        arith,
        length-append (part f 0 12) (behind f),
        length-append (4 ∷ part f 26 8) (6 ∷ ports_of f),
        part_long f 0 12 (omega arith),
        part_long f 26 8 (omega arith),
        m,
      )

module _ (f g : List ℕ) (hf : 54 ≤ length f) (hg : 54 ≤ length g) where
  key_from : slice_range f 26 38 ≡ slice_range g 26 38 → slice_range f 0 12 ≡ slice_range g 0 12 → plain_key f ≡ plain_key g
  key_from e m =
      let same = same_bytes f g 26 12 e in
      let addresses : part f 26 8 ≡ part g 26 8 = same_part_long f g 26 8 (omega arith) (omega arith) (λ k a b. same k (omega arith) (omega arith)) in
      let ports : part f 34 4 ≡ part g 34 4 = same_part_long f g 34 4 (omega arith) (omega arith) (λ k a b. same k (omega arith) (omega arith)) in
      ap (λ z. z ++ ((4 ∷ part f 26 8) ++ ((6 ∷ part f 34 4) ++ []))) m
      ∙ ap (λ z. part g 0 12 ++ ((4 ∷ z) ++ ((6 ∷ part f 34 4) ++ []))) addresses
      ∙ ap (λ z. part g 0 12 ++ ((4 ∷ part g 26 8) ++ ((6 ∷ z) ++ []))) ports

  hosts_same : plain_key f ≡ plain_key g → part f 0 12 ≡ part g 0 12
  hosts_same e = sym (hosts_in f hf) ∙ ap (take 12) e ∙ hosts_in g hg

  addresses_same : plain_key f ≡ plain_key g → part f 26 8 ≡ part g 26 8
  addresses_same e = sym (addresses_in f hf) ∙ ap (λ z. take 8 (drop 1 (drop 12 z))) e ∙ addresses_in g hg

  ports_same : plain_key f ≡ plain_key g → part f 34 4 ≡ part g 34 4
  ports_same e = sym (ports_in f hf) ∙ ap (λ z. take 4 (drop 1 (drop 8 (drop 1 (drop 12 z))))) e ∙ ports_in g hg

  range_same : plain_key f ≡ plain_key g → slice_range f 26 38 ≡ slice_range g 26 38
  range_same e = same_part_long f g 26 12 (omega arith) (omega arith) (λ k a b. elim (cases_lt k 34) [
    | inl l ↦ same_bytes f g 26 8 (addresses_same e) k (omega arith) (omega (arith, l))
    | inr r ↦ same_bytes f g 34 4 (ports_same e) k (omega (arith, r)) (omega arith)
  ])

  pub decides_plain : (a b : Bool) → Decides a (slice_range f 26 38 ≡ slice_range g 26 38) → Decides b (slice_range f 0 12 ≡ slice_range g 0 12)
      → (a ≡ true → Decides b (plain_key f ≡ plain_key g))
  decides_plain a b p q t = (λ e. key_from (p.0 t) (q.0 e), λ e. q.1 (hosts_same e))

  pub differs_plain : (a : Bool) → Decides a (slice_range f 26 38 ≡ slice_range g 26 38) → plain_key f ≡ plain_key g → a ≡ true
  differs_plain a p e = p.1 (range_same e)

-- the places of a key's bytes in the frame
module _ (f : List ℕ) (long : 54 ≤ length f) where
  in_part : (key p : List ℕ) (at n k : ℕ) → k < n → take n (drop at key) ≡ p → byte key (at + k) ≡ byte p k
  in_part key p at n k h e = sym (get_or-drop at key k 0) ∙ sym (get_or-take n (drop at key) k 0 h) ∙ ap (λ z. get_or z k 0) e

  of_part : (at n k : ℕ) → k < n → byte (part f at n) k ≡ byte f (at + k)
  of_part at n k h = get_or-take n (drop at f) k 0 h ∙ get_or-drop at f k 0

  pub host_byte : (k : ℕ) → k < 12 → byte (plain_key f) k ≡ byte f k
  host_byte k h =
      let z : 0 + k ≡ k = omega arith in
      subst (λ z. byte (plain_key f) z ≡ byte f z) z (in_part (plain_key f) (part f 0 12) 0 12 k h (hosts_in f long) ∙ of_part 0 12 k h)

  pub address_byte : (k : ℕ) → k < 8 → byte (plain_key f) (13 + k) ≡ byte f (26 + k)
  address_byte k h =
      in_part (plain_key f) (part f 26 8) 13 8 k h (ap (take 8) (sym (drop-drop 1 12 (plain_key f))) ∙ addresses_in f long) ∙ of_part 26 8 k h

  pub port_byte : (k : ℕ) → k < 4 → byte (plain_key f) (22 + k) ≡ byte f (34 + k)
  port_byte k h =
      in_part (plain_key f) (part f 34 4) 22 4 k h
      (ap (take 4) (sym (drop-drop 1 21 (plain_key f)) ∙ ap (drop 1) (sym (drop-drop 8 13 (plain_key f)) ∙ ap (drop 8) (sym (drop-drop 1 12 (plain_key f))))) ∙ ports_in f long)
      ∙ of_part 34 4 k h

-- ---- where a frame's layout is known

module _ (h f : List ℕ) (small : (k : ℕ) → byte h k < 256) (o : IsHeadOf h f) (layout : Layout) (is : shape_of f ≡ Some layout) where
  own_shape : shape_of h ≡ Some layout
  own_shape = same_shapes h f small o.more o.enough o.begins ∙ is

  module _ (plain : layout.headers ≡ plain_headers) where
    pub own_long : 54 ≤ length h
    own_long =
        let p : IsPlaced h layout = placed h small layout (sym own_shape) in
        let l : AreLaid 0 plain_headers layout.payload_at = subst (λ z. AreLaid 0 z layout.payload_at) plain p.laid in
        omega (arith, l.1.1.1, p.within)

    pub own_key : Some (plain_key h) ≡ key_of h
    own_key = ap (λ (z : List Header). Some (flat_map (λ x. flow_part h x.layer x.at) z)) (sym plain) ∙ key_some h layout (sym own_shape)

    pub its_key : Some (plain_key h) ≡ key_of f
    its_key = own_key ∙ same_keys h f small o
