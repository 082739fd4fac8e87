-- What the halves of a byte add together.
use Rattle.std.proofs.Common.{◌≡◌, ℕ, zero, suc, ◌+◌, ◌-◌, ◌*◌, ◌/◌, ◌%◌, ◌^◌, ◌<◌, ◌≤◌, inl, inr, List, length, get_or, set, refl, sym, ap, ◌∙◌, subst, arith}
use Rattle.std.specs.Prelude.{bit_xor}
use Rattle.std.specs.Int.{bit_at}
use Rattle.std.proofs.lemmas.Bool.{cases_lt}
use Rattle.std.proofs.lemmas.Nat.Bits.{bit_at_xor, bit_at-zero, bit_at_above, bit_at_cat_low, bit_at_cat_high}
use Rattle.frame_layout.specs.Steps.{be, crossed}
use Rattle.frame_layout.specs.Halves.{IsLane, AreLanes, AreHalves}

cat_bits : (h l i : ℕ) → l < 16 → bit_at (h * 16 + l) i ≡ bit_at (h * 16) i + bit_at l i
cat_bits h l i m =
    let e : h * 16 ≡ h * 16 + 0 = omega arith in
    elim (cases_lt i 4) [
      | inl a ↦
          let z : bit_at (h * 16) i ≡ 0 = ap (λ (n : ℕ). bit_at n i) e ∙ bit_at_cat_low h 4 0 i a ∙ bit_at-zero i in
          omega (arith, bit_at_cat_low h 4 l i a, z)
      | inr b ↦
          let z : bit_at (h * 16) i ≡ bit_at h (i - 4) = ap (λ (n : ℕ). bit_at n i) e ∙ bit_at_cat_high h 4 0 i (omega arith) b in
          let n : bit_at l i ≡ 0 = bit_at_above l 4 i m b in
          omega (arith, bit_at_cat_high h 4 l i m b, z, n)
    ]

split_bits : (b i : ℕ) → bit_at b i ≡ bit_at (b / 16 * 16) i + bit_at (b % 16 * 1) i
split_bits b i =
    let e : b ≡ b / 16 * 16 + b % 16 = omega arith in
    let d : b % 16 ≡ b % 16 * 1 = omega arith in
    ap (λ (n : ℕ). bit_at n i) e ∙ cat_bits (b / 16) (b % 16) i (omega arith) ∙ ap (λ (n : ℕ). bit_at (b / 16 * 16) i + bit_at n i) d

two : (a b x y p q k : ℕ) → a ≡ b + x → p ≡ q + y → a + p * k ≡ b + q * k + (x + y * k)
two a b x y p q k e d = ap (λ (z : ℕ). z + p * k) e ∙ ap (λ (z : ℕ). b + x + z * k) d ∙ omega arith

pub crossed_halves : (w b j n : ℕ) → crossed w b j n ≡ crossed w (b / 16 * 16) j n + crossed w (b % 16 * 1) j n
crossed_halves w b j zero = refl
crossed_halves w b j (suc n) =
    two (crossed w b j n) (crossed w (b / 16 * 16) j n) (crossed w (b % 16 * 1) j n) (bit_at (b % 16 * 1) (7 - n)) (bit_at b (7 - n)) (bit_at (b / 16 * 16) (7 - n)) (bit_at w (39 - (n + j)))
    (crossed_halves w b j n) (split_bits b (7 - n))

-- the two look-ups are what the byte adds
pub halves_add : (key high low : List ℕ) (at byte sum : ℕ) → AreHalves key high low → at < 36 → byte < 256
    → sum ≡ bit_xor (get_or high (16 * at + byte / 16) 0) (get_or low (16 * at + byte % 16) 0) → IsLane key at byte sum
halves_add key high low at byte sum h l m e = λ j k.
    ap (λ (z : ℕ). bit_at z (31 - j)) e
    ∙ bit_at_xor (get_or high (16 * at + byte / 16) 0) (get_or low (16 * at + byte % 16) 0) (31 - j)
    ∙ omega (
      arith,
      h.high at (byte / 16) l (omega arith) j k,
      h.low at (byte % 16) l (omega arith) j k,
      crossed_halves (be key at 5) byte j 8,
    )

-- a table that is filled, place by place
pub lanes_filled : (key : List ℕ) (scale : ℕ) (lanes : List ℕ) → ((k : ℕ) → k < 576 → IsLane key (k / 16) (k % 16 * scale) (get_or lanes k 0)) → AreLanes key scale lanes
lanes_filled key scale lanes h = λ at v l m.
    let e : (16 * at + v) / 16 ≡ at = omega arith in
    let d : (16 * at + v) % 16 ≡ v = omega arith in
    subst (λ (z : ℕ). IsLane key at (z * scale) (get_or lanes (16 * at + v) 0)) d
    (subst (λ (z : ℕ). IsLane key z ((16 * at + v) % 16 * scale) (get_or lanes (16 * at + v) 0)) e (h (16 * at + v) (omega arith)))
