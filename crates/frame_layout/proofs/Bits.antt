-- The bits of numbers, bytes and lanes.
use Rattle.std.proofs.Common.{◌≡◌, ℕ, zero, suc, ◌+◌, ◌-◌, ◌*◌, ◌/◌, ◌%◌, ◌^◌, ◌<◌, ◌≤◌, inl, inr, List, [], ◌∷◌, length, get_or, refl, sym, ap, ◌∙◌, subst, arith}
use Rattle.std.specs.Prelude.{min, bit_and}
use Rattle.std.specs.Int.{bit_at}
use Rattle.std.proofs.Math.Nat.{pow-suc}
use Rattle.std.proofs.lemmas.Bool.{cases_lt}
use Rattle.std.proofs.lemmas.Nat.{shr-shr}
use Rattle.std.proofs.lemmas.Nat.Bits.{bit_at-lt, bit_at_lowest, bit_at_cat_low, bit_at_cat_high, bit_at_and, bit_at_ones}
use Rattle.frame_layout.specs.Toeplitz.{bit, number}
use Rattle.frame_layout.specs.Steps.{be}

pub number_lt : (f : ℕ → ℕ) (n : ℕ) → ((k : ℕ) → f k < 2) → number f n < 2 ^ n
number_lt f zero h = omega arith
number_lt f (suc n) h = omega (arith, number_lt f n h, h n, pow-suc 2 n)

low_bit : (n : ℕ) → n < 2 → bit_at n 0 ≡ n
low_bit n h = bit_at_lowest n ∙ (omega arith)

pub bit_number : (f : ℕ → ℕ) (n j : ℕ) → ((k : ℕ) → f k < 2) → j < n → bit_at (number f n) (n - 1 - j) ≡ f j
bit_number f zero j h l = absurd (omega arith)
bit_number f (suc n) j h l =
    elim (cases_lt j n) [
      | inl a ↦
          let e : suc n - 1 - j ≡ n - j = omega arith in
          let d : n - j - 1 ≡ n - 1 - j = omega arith in
          ap (λ (i : ℕ). bit_at (number f n * 2 + f n) i) e
          ∙ bit_at_cat_high (number f n) 1 (f n) (n - j) (h n) (omega arith)
          ∙ ap (λ (i : ℕ). bit_at (number f n) i) d ∙ bit_number f n j h a
      | inr b ↦
          let e : suc n - 1 - j ≡ 0 = omega arith in
          let d : n ≡ j = omega arith in
          ap (λ (i : ℕ). bit_at (number f n * 2 + f n) i) e ∙ bit_at_cat_low (number f n) 1 (f n) 0 (omega arith) ∙ low_bit (f n) (h n) ∙ ap f d
    ]

pub bit_be : (bs : List ℕ) (at n p : ℕ) → ((k : ℕ) → get_or bs k 0 < 256) → p < 8 * n → bit_at (be bs at n) (8 * n - 1 - p) ≡ bit bs (8 * at + p)
bit_be bs at zero p h l = absurd (omega arith)
bit_be bs at (suc n) p h l =
    elim (cases_lt p (8 * n)) [
      | inl a ↦
          let d : 8 * suc n - 1 - p - 8 ≡ 8 * n - 1 - p = omega arith in
          bit_at_cat_high (be bs at n) 8 (get_or bs (at + n) 0) (8 * suc n - 1 - p) (h (at + n)) (omega arith)
          ∙ ap (λ (i : ℕ). bit_at (be bs at n) i) d ∙ bit_be bs at n p h a
      | inr b ↦
          let e : 8 * suc n - 1 - p ≡ 7 - (8 * at + p) % 8 = omega arith in
          let d : at + n ≡ (8 * at + p) / 8 = omega arith in
          bit_at_cat_low (be bs at n) 8 (get_or bs (at + n) 0) (8 * suc n - 1 - p) (omega arith)
          ∙ ap (λ (i : ℕ). bit_at (get_or bs (at + n) 0) i) e ∙ ap (λ (i : ℕ). bit_at (get_or bs i 0) (7 - (8 * at + p) % 8)) d
    ]

-- 32 bits of a number from a place on
pub bit_lane : (w s i : ℕ) → i < 32 → bit_at (bit_and (w / 2 ^ s) 4294967295) i ≡ bit_at w (s + i)
bit_lane w s i h =
    bit_at_and (w / 2 ^ s) 4294967295 i ∙ ap (λ (z : ℕ). min (bit_at (w / 2 ^ s) i) z) (bit_at_ones 32 i h)
    ∙ (omega (arith, bit_at-lt (w / 2 ^ s) i)) ∙ ap (λ (z : ℕ). z % 2) (shr-shr w s i)
