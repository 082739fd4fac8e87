-- Along the headers, from the innermost outward.
use Rattle.std.proofs.Common.{◌≡◌, ℕ, zero, suc, ◌+◌, ◌<◌, List, [], ◌∷◌, length, drop, get_or, Bool, sym, ap, ◌∙◌, arith}
use Rattle.std.specs.Prelude.{◌≤◌}
use Rattle.std.proofs.lemmas.List.{drop_more}
use Rattle.frame_layout.specs.Headers.{AtHeaders}
use Rattle.frame_layout.specs.declared.layout.Header.{Header}
use Rattle.frame_layout.specs.declared.layout.Layer.{Layer}
use Rattle.frame_layout.specs.declared.layout.Layer.TheVariants.{Ethernet, Ip4, Ip6}
use Rattle.frame_layout.specs.Front.{AreAddressesWithin}
use Rattle.header_fill.specs.Filled.{IsInside, header_before}
use Rattle.wire_model.specs.declared.fate.Fate.{Fate}
use Rattle.wire_model.specs.declared.fate.Fate.TheVariants.{Right, Filled, Wrong}
use Rattle.wire_model.specs.Filling.{fate_of, fates_of, fill_sum, fill_sums, filled_at, wrong_at}

-- what holds at each header holds at one
pub at_one : (P : Layer → ℕ → Type 0) (hs : List Header) (i : ℕ) (d : Header) → i < length hs → AtHeaders P hs → P (get_or hs i d).layer (get_or hs i d).at
at_one P [] i d h a = absurd (omega arith)
at_one P (x ∷ xs) zero d h a = a.0
at_one P (x ∷ xs) (suc i) d h a = at_one P xs i d (omega arith) a.1

addresses_inside : (n : ℕ) (layer : Layer) (at : ℕ) → IsInside n layer at → AreAddressesWithin n layer at
addresses_inside n Ip4 at h = h
addresses_inside n Ip6 at h = h
addresses_inside n _ at h = tt

pub before_inside : (hs : List Header) (n i : ℕ) → i < length hs → AtHeaders (IsInside n) hs
    → AreAddressesWithin n (header_before hs i).layer (header_before hs i).at
before_inside hs n zero h a = tt
before_inside hs n (suc i) h a =
    addresses_inside n (header_before hs (suc i)).layer (header_before hs (suc i)).at (at_one (IsInside n) hs i (record { layer = Ethernet; at = 0 }) (omega arith) a)

-- ---- one header more

abbrev pub own : List Header → ℕ → Header
own hs j = get_or hs j (record { layer = Ethernet; at = 0 })

module _ (all : Bool) (hs : List Header) (i j : ℕ) (f g : List ℕ) (less : j < length hs) (next : i ≡ j + 1) (is : g ≡ fill_sums all (header_before hs i) (drop i hs) f) where
  before_is : header_before hs i ≡ own hs j
  before_is = let e : i ≡ suc j = omega (arith, next) in ap (header_before hs) e

  rest_is : drop j hs ≡ own hs j ∷ drop i hs
  rest_is = drop_more hs j (record { layer = Ethernet; at = 0 }) less ∙ ap (λ n. own hs j ∷ drop n hs) (sym next)

  inner_is : g ≡ fill_sums all (own hs j) (drop i hs) f
  inner_is = is ∙ ap (λ h. fill_sums all h (drop i hs) f) before_is

  pub filled_more : fill_sums all (header_before hs j) (drop j hs) f ≡ fill_sum all (header_before hs j) (own hs j).layer (own hs j).at g
  filled_more = ap (λ xs. fill_sums all (header_before hs j) xs f) rest_is ∙ ap (fill_sum all (header_before hs j) (own hs j).layer (own hs j).at) (sym inner_is)

  pub fated_more : fates_of all (header_before hs j) (drop j hs) f
      ≡ fate_of all g (header_before hs j) (own hs j).layer (own hs j).at ∷ fates_of all (header_before hs i) (drop i hs) f
  fated_more =
      ap (λ xs. fates_of all (header_before hs j) xs f) rest_is
      ∙ ap (λ z. fate_of all z (header_before hs j) (own hs j).layer (own hs j).at ∷ fates_of all (own hs j) (drop i hs) f) (sym inner_is)
      ∙ ap (λ h. fate_of all g (header_before hs j) (own hs j).layer (own hs j).at ∷ fates_of all h (drop i hs) f) (sym before_is)

-- a sum is filled, or stays wrong, or neither
pub one_at_most : (x : Fate) → filled_at x + wrong_at x ≤ 1
one_at_most Right = omega arith
one_at_most Filled = omega arith
one_at_most Wrong = omega arith
