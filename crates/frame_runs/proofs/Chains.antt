-- Chains of indices, as they grow.
use Rattle.std.proofs.Common.{◌≡◌, ◌≢◌, ℕ, zero, suc, ◌+◌, ◌<◌, ◌≤◌, inl, inr, List, [], ◌∷◌, ◌++◌, length, get_or, map, set, refl, sym, ap, ◌∙◌, subst, arith}
use Rattle.std.specs.Prelude.{◌-◌}
use Rattle.std.specs.List.{AllByRecursion, flat_map}
use Rattle.std.proofs.lemmas.Bool.{cases_eq, cases_lt}
use Rattle.std.proofs.lemmas.List.{get_or-set_same, get_or-set_other}
use Rattle.frame_runs.specs.Chains.{chain_of, last_in, index_sum, index_sums, sum_below, mark}

pub mark_same : (k : ℕ) → mark k k ≡ 1
mark_same k = grind arith

pub mark_other : (k j : ℕ) → j ≢ k → mark k j ≡ 0
mark_other k j h = grind arith

-- an index is below n once at most
pub once : (k n : ℕ) → (n ≤ k → sum_below (mark k) n ≡ 0) × (sum_below (mark k) n ≤ 1)
once k zero = (λ h. refl, omega arith)
once k (suc n) = elim (cases_eq n k) [
  | inl same ↦ (
    λ h. absurd (omega (arith, h, same)),
    omega (arith, (once k n).0 (omega (arith, same)), subst (λ z. mark k z ≡ 1) (sym same) (mark_same k)),
  )
  | inr other ↦ (
    λ h. omega (arith, (once k n).0 (omega (arith, h)), mark_other k n other),
    omega (arith, (once k n).1, mark_other k n other),
  )
]

-- the last one is among them
pub last_counts : (x : ℕ) (ys : List ℕ) (k : ℕ) → last_in x ys ≡ k → 1 ≤ mark k x + index_sum (mark k) ys
last_counts x [] k e = omega (arith, subst (λ z. mark k z ≡ 1) (sym e) (mark_same k))
last_counts x (y ∷ ys) k e = omega (arith, last_counts y ys k e)

-- a chain that k isn't in
pub chain_apart : (next : List ℕ) (k v n a : ℕ) → index_sum (mark k) (chain_of next n a) ≡ 0 → chain_of (set next k v) n a ≡ chain_of next n a
chain_apart next k v zero a h = refl
chain_apart next k v (suc n) a h = elim (cases_eq a k) [
  | inl same ↦ absurd (omega (arith, h, subst (λ z. mark k z ≡ 1) (sym same) (mark_same k)))
  | inr other ↦
      ap (λ z. a ∷ chain_of (set next k v) n z) (get_or-set_other next k a v 0 other)
      ∙ ap (λ z. a ∷ z) (chain_apart next k v n (get_or next a 0) (omega (arith, h)))
]

-- what is behind a, where k is the last of it
pub chain_grown : (next : List ℕ) (k v n a : ℕ) → k < length next → last_in a (chain_of next n (get_or next a 0)) ≡ k
    → mark k a + index_sum (mark k) (chain_of next n (get_or next a 0)) ≤ 1
    → chain_of (set next k v) (suc n) (get_or (set next k v) a 0) ≡ chain_of next n (get_or next a 0) ++ (v ∷ [])
chain_grown next k v zero a h e o =
    ap (λ z. z ∷ []) (ap (λ z. get_or (set next k v) z 0) e ∙ get_or-set_same next k v 0 h)
chain_grown next k v (suc n) a h e o =
    let b : ℕ = get_or next a 0 in
    let more : 1 ≤ mark k b + index_sum (mark k) (chain_of next n (get_or next b 0)) = last_counts b (chain_of next n (get_or next b 0)) k e in
    elim (cases_eq a k) [
      | inl same ↦ absurd (omega (arith, o, more, subst (λ z. mark k z ≡ 1) (sym same) (mark_same k)))
      | inr other ↦
          ap (λ z. z ∷ chain_of (set next k v) (suc n) (get_or (set next k v) z 0)) (get_or-set_other next k a v 0 other)
          ∙ ap (λ z. b ∷ z) (chain_grown next k v n b h e (omega (arith, o)))
    ]

-- the last of a chain that has grown
pub last_grown : (x : ℕ) (ys : List ℕ) (v : ℕ) → last_in x (ys ++ (v ∷ [])) ≡ v
last_grown x [] v = refl
last_grown x (y ∷ ys) v = last_grown y ys v

pub total_push : (f : ℕ → ℕ) (ks : List ℕ) (v : ℕ) → index_sum f (ks ++ (v ∷ [])) ≡ index_sum f ks + f v
total_push f [] v = omega arith
total_push f (k ∷ ks) v = omega (arith, total_push f ks v)

pub totals_push : (f : ℕ → ℕ) (kss : List (List ℕ)) (v : ℕ) → index_sums f (kss ++ ((v ∷ []) ∷ [])) ≡ index_sums f kss + f v
totals_push f [] v = omega arith
totals_push f (ks ∷ kss) v = omega (arith, totals_push f kss v)

pub totals_set : (f : ℕ → ℕ) (kss : List (List ℕ)) (i v : ℕ) → i < length kss
    → index_sums f (set kss i (get_or kss i [] ++ (v ∷ []))) ≡ index_sums f kss + f v
totals_set f [] i v h = absurd (omega (arith, h))
totals_set f (ks ∷ kss) zero v h = omega (arith, total_push f ks v)
totals_set f (ks ∷ kss) (suc i) v h = omega (arith, totals_set f kss i v (omega (arith, h)))

-- one list has no more than all; two have no more than all
pub one_of : (f : ℕ → ℕ) (kss : List (List ℕ)) (i : ℕ) → index_sum f (get_or kss i []) ≤ index_sums f kss
one_of f [] i = omega arith
one_of f (ks ∷ kss) zero = omega arith
one_of f (ks ∷ kss) (suc i) = omega (arith, one_of f kss i)

pub two_of : (f : ℕ → ℕ) (kss : List (List ℕ)) (i j : ℕ) → i ≢ j → index_sum f (get_or kss i []) + index_sum f (get_or kss j []) ≤ index_sums f kss
two_of f [] i j h = omega arith
two_of f (ks ∷ kss) zero zero h = absurd (h refl)
two_of f (ks ∷ kss) zero (suc j) h = omega (arith, one_of f kss j)
two_of f (ks ∷ kss) (suc i) zero h = omega (arith, one_of f kss i)
two_of f (ks ∷ kss) (suc i) (suc j) h = omega (arith, two_of f kss i j (λ e. h (ap suc e)))

-- one step of a chain
pub chain_step : (next : List ℕ) (left k : ℕ) → 0 < left → chain_of next left k ≡ k ∷ chain_of next (left - 1) (get_or next k 0)
chain_step next zero k h = absurd (omega (arith, h))
chain_step next (suc n) k h = ap (λ z. k ∷ chain_of next z (get_or next k 0)) (let e : n ≡ suc n - 1 = omega arith in e)

-- ---- sums over indices

pub sum_append : (f : ℕ → ℕ) (ks js : List ℕ) → index_sum f (ks ++ js) ≡ index_sum f ks + index_sum f js
sum_append f [] js = omega arith
sum_append f (k ∷ ks) js = omega (arith, sum_append f ks js)

pub sum_flat : {X : Type 0} (f : ℕ → ℕ) (g : X → List ℕ) (xs : List X) → index_sum f (flat_map g xs) ≡ index_sums f (map g xs)
sum_flat f g [] = refl
sum_flat f g (x ∷ xs) = omega (arith, sum_append f (g x) (flat_map g xs), sum_flat f g xs)

-- an index below n is one of them
pub present : (k n : ℕ) → k < n → 1 ≤ sum_below (mark k) n
present k zero h = absurd (omega (arith, h))
present k (suc n) h = elim (cases_eq n k) [
  | inl same ↦ omega (arith, subst (λ z. mark k z ≡ 1) (sym same) (mark_same k))
  | inr other ↦ omega (arith, present k n (omega (arith, h, λ (s : k ≡ n). other (sym s))))
]

pub absent : (k n : ℕ) → sum_below (mark k) n ≡ 0 → n ≤ k
absent k n z = elim (cases_lt k n) [
  | inl lt ↦ absurd (omega (arith, z, present k n lt))
  | inr ge ↦ ge
]

pub sum_shift : (g : ℕ → ℕ) (n : ℕ) → sum_below g (suc n) ≡ g 0 + sum_below (λ k. g (suc k)) n
sum_shift g zero = omega arith
sum_shift g (suc n) = omega (arith, sum_shift g n)

pub sum_ones : (n : ℕ) → sum_below (λ k. 1) n ≡ n
sum_ones zero = refl
sum_ones (suc n) = omega (arith, sum_ones n)

pub chain_done : (next : List ℕ) (left k : ℕ) → left ≤ 0 → chain_of next left k ≡ []
chain_done next zero k h = refl
chain_done next (suc n) k h = absurd (omega (arith, h))

pub all_step : (P : ℕ → Type 0) (next : List ℕ) (left k : ℕ) → 0 < left → AllByRecursion P (chain_of next left k) → P k × AllByRecursion P (chain_of next (left - 1) (get_or next k 0))
all_step P next left k h a = let s : AllByRecursion P (k ∷ chain_of next (left - 1) (get_or next k 0)) = subst (AllByRecursion P) (chain_step next left k h) a in (s.0, s.1)
