-- The sum by pairs: what both totals hold, and that no carry is lost.
use Rattle.std.proofs.Common.{◌≡◌, ℕ, ◌+◌, ◌-◌, ◌*◌, ◌/◌, ◌%◌, ◌^◌, ◌≤◌, ◌<◌, List, [], ◌∷◌, length, take, get_or, Fits, w8, take-add, refl, sym, ap, ◌∙◌, arith}
use Rattle.std.proofs.lemmas.List.{length-take}
use Rattle.std.proofs.lemmas.Simd.{chunk-fits, below_from_Fits, length-chunk}
use Rattle.std.specs.Simd.Lanes.{Each1, chunk, digits_l, number_l, zip2, fold_l}
use native.Mathlib.Nat.{pow-suc}
use Rattle.inet_sum.specs.Sum.{word_sum, folded, fold_of}
use Rattle.inet_sum.proofs.Folds.{same_fold, even_total}

-- with its words turned, a list has the remainder of the little-endian number in it
number_turned : (xs : List ℕ) → (p : ℕ) × (word_sum xs + 65535 * p ≡ 256 * number_l 256 xs)
number_turned [] = (0, omega arith)
number_turned (x ∷ []) = (0, omega arith)
number_turned (x ∷ y ∷ xs) = let rest = number_turned xs in (y + word_sum xs + 65536 * rest.0, omega (arith, rest.1))

number-zero : (xs : List ℕ) → word_sum xs ≡ 0 → number_l 256 xs ≡ 0
number-zero [] h = refl
number-zero (x ∷ []) h = omega arith
number-zero (x ∷ y ∷ xs) h = omega (arith, number-zero xs (omega arith))

pub number_fold : (xs : List ℕ) → folded (256 * number_l 256 xs) ≡ fold_of xs
number_fold xs =
    let t = number_turned xs in
    same_fold (256 * number_l 256 xs) (word_sum xs) 0 t.0 (omega (arith, t.1)) (λ h. omega (arith, t.1)) (λ h. omega (arith, number-zero xs h))

number-below : (xs : List ℕ) → Each1 (λ x. x < 256) xs → number_l 256 xs < 256 ^ length xs
number-below [] each = omega arith
number-below (x ∷ xs) each = omega (arith, each.0, number-below xs each.1, pow-suc 256 (length xs))

-- sixteen bytes fit two numbers
pub number_small : (xs : List ℕ) (at : ℕ) → at + 16 ≤ length xs → ((k : ℕ) → Fits w8 (get_or xs k 0)) → number_l 256 (chunk at 16 xs) < 2 ^ 128
number_small xs at inside bytes =
    let below = number-below (chunk at 16 xs) (below_from_Fits w8 (chunk at 16 xs) (chunk-fits w8 at 16 xs bytes)) in
    let long : length (chunk at 16 xs) ≡ 16 = length-chunk at 16 xs inside in
    rw long at below

-- what two totals, which wrap, and two of high halves hold after i steps: four numbers that together have the
-- fold of what was added
pub record Held (i : ℕ) (totals highs added : List ℕ) : Type 0 where
  pub low : ℕ
  pub high : ℕ
  pub next_low : ℕ
  pub next_high : ℕ
  pub totals_are : totals ≡ (low + 2 ^ 32 * high) % 2 ^ 64 ∷ (next_low + 2 ^ 32 * next_high) % 2 ^ 64 ∷ []
  pub highs_are : highs ≡ high ∷ next_high ∷ []
  pub low_fits : low ≤ 2 ^ 32 * i
  pub high_fits : high ≤ 2 ^ 32 * i
  pub next_low_fits : next_low ≤ 2 ^ 32 * i
  pub next_high_fits : next_high ≤ 2 ^ 32 * i
  pub fold : folded (256 * (low + high + next_low + next_high)) ≡ fold_of added

-- sixteen bytes more
pub more : (xs : List ℕ) (i : ℕ) (totals highs pair : List ℕ) → 16 * i + 16 ≤ length xs → length xs < 2 ^ 32 → number_l 256 (chunk (16 * i) 16 xs) < 2 ^ 128
    → pair ≡ digits_l (2 ^ 64) 2 (number_l 256 (chunk (16 * i) 16 xs)) → Held i totals highs (take (16 * i) xs)
    → Held (i + 1) (zip2 (λ a b. (a + b) % 2 ^ 64) totals pair) (zip2 (λ a b. (a + b) % 2 ^ 64) highs (zip2 (λ a b. a / 2 ^ b) pair (32 ∷ 32 ∷ [])))
    (take (16 * (i + 1)) xs)
more xs i totals highs pair inside few below is held =
    let n = number_l 256 (chunk (16 * i) 16 xs) in
    let v = n % 2 ^ 64 in
    let w = n / 2 ^ 64 % 2 ^ 64 in
    let sum = held.low + held.high + held.next_low + held.next_high in
    let at : 16 * i + 16 ≡ 16 * (i + 1) = omega arith in
    let first : ((held.low + 2 ^ 32 * held.high) % 2 ^ 64 + v) % 2 ^ 64 ≡ (held.low + v % 2 ^ 32 + 2 ^ 32 * (held.high + v / 2 ^ 32)) % 2 ^ 64 = omega arith in
    let next : ((held.next_low + 2 ^ 32 * held.next_high) % 2 ^ 64 + w) % 2 ^ 64 ≡ (held.next_low + w % 2 ^ 32 + 2 ^ 32 * (held.next_high + w / 2 ^ 32)) % 2 ^ 64 = omega arith in
    let first_high : (held.high + v / 2 ^ 32) % 2 ^ 64 ≡ held.high + v / 2 ^ 32 = omega (arith, held.high_fits) in
    let next_high : (held.next_high + w / 2 ^ 32) % 2 ^ 64 ≡ held.next_high + w / 2 ^ 32 = omega (arith, held.next_high_fits) in
    record {
      low = held.low + v % 2 ^ 32;
      high = held.high + v / 2 ^ 32;
      next_low = held.next_low + w % 2 ^ 32;
      next_high = held.next_high + w / 2 ^ 32;
      totals_are = rw (held.totals_are, is) (λ j. first j ∷ next j ∷ []);
      highs_are = rw (held.highs_are, is) (λ j. first_high j ∷ next_high j ∷ []);
      low_fits = omega (arith, held.low_fits);
      high_fits = omega (arith, held.high_fits);
      next_low_fits = omega (arith, held.next_low_fits);
      next_high_fits = omega (arith, held.next_high_fits);
      fold = same_fold (256 * (held.low + v % 2 ^ 32 + (held.high + v / 2 ^ 32) + (held.next_low + w % 2 ^ 32) + (held.next_high + w / 2 ^ 32))) (256 * sum + 256 * n)
          (256 * (65537 * (v / 2 ^ 32) + 281479271743489 * (w % 2 ^ 32) + 1208944266640182156001281 * (w / 2 ^ 32))) 0 (omega arith) (λ h. omega arith) (λ h. omega arith)
          ∙ even_total (take (16 * i) xs) (chunk (16 * i) 16 xs) (256 * sum) (256 * n) (omega (arith, length-take (16 * i) xs)) held.fold (number_fold (chunk (16 * i) 16 xs))
          ∙ ap fold_of (sym (take-add (16 * i) 16 xs) ∙ ap (λ z. take z xs) at);
    }

-- less the high halves the totals are what the low halves add to, and all of it fits one number
pub closed : (i : ℕ) (totals highs added : List ℕ) → i < 2 ^ 28 → Held i totals highs added
    → folded (256 * fold_l (λ a b. (a + b) % 2 ^ 64) 0 (zip2 (λ a b. (a + b) % 2 ^ 64) (zip2 (λ a b. (a + (2 ^ 64 - b)) % 2 ^ 64) totals (zip2 (λ a b. a * 2 ^ b % 2 ^ 64) highs (32 ∷ 32 ∷ [])))
    highs)) ≡ fold_of added
closed i totals highs added few held =
    let first : ((held.low + 2 ^ 32 * held.high) % 2 ^ 64 + (2 ^ 64 - held.high * 2 ^ 32 % 2 ^ 64)) % 2 ^ 64 ≡ held.low = omega (arith, held.low_fits) in
    let next : ((held.next_low + 2 ^ 32 * held.next_high) % 2 ^ 64 + (2 ^ 64 - held.next_high * 2 ^ 32 % 2 ^ 64)) % 2 ^ 64 ≡ held.next_low = omega (arith, held.next_low_fits) in
    let all : ((0 + (held.low + held.high) % 2 ^ 64) % 2 ^ 64 + (held.next_low + held.next_high) % 2 ^ 64) % 2 ^ 64 ≡ held.low + held.high + held.next_low + held.next_high
    = omega (arith, held.low_fits, held.high_fits, held.next_low_fits, held.next_high_fits) in
    rw (held.totals_are, held.highs_are, first, next, all) held.fold
