-- The hash of an exclusive or.
use Rattle.std.proofs.Common.{◌≡◌, ℕ, zero, suc, ◌+◌, ◌-◌, ◌*◌, ◌/◌, ◌%◌, ◌^◌, ◌<◌, ◌≤◌, List, [], ◌∷◌, length, get_or, refl, sym, ap, ◌∙◌, arith}
use Rattle.std.specs.Prelude.{bit_xor}
use Rattle.std.specs.Int.{bit_at}
use Rattle.std.proofs.lemmas.Nat.{xor_lt}
use Rattle.std.proofs.lemmas.Nat.Bits.{bit_at-lt, bit_at_xor}
use Rattle.frame_layout.specs.Toeplitz.{bit, met, hash_bit, toeplitz_of}
use Rattle.frame_layout.specs.HashLaws.{xor_of}
use Rattle.frame_layout.proofs.Parities.{bits_of, is_hash}

get_xor : (a b : List ℕ) (k : ℕ) → length a ≡ length b → get_or (xor_of a b) k 0 ≡ bit_xor (get_or a k 0) (get_or b k 0)
get_xor [] [] k e = refl
get_xor [] (y ∷ ys) k e = absurd (omega arith)
get_xor (x ∷ xs) [] k e = absurd (omega arith)
get_xor (x ∷ xs) (y ∷ ys) zero e = refl
get_xor (x ∷ xs) (y ∷ ys) (suc k) e = get_xor xs ys k (omega arith)

length_xor : (a b : List ℕ) → length a ≡ length b → length (xor_of a b) ≡ length a
length_xor [] ys e = refl
length_xor (x ∷ xs) [] e = absurd (omega arith)
length_xor (x ∷ xs) (y ∷ ys) e = omega (arith, length_xor xs ys (omega arith))

bit_xored : (a b : List ℕ) (n : ℕ) → length a ≡ length b → bit (xor_of a b) n ≡ (bit a n + bit b n) % 2
bit_xored a b n e =
    ap (λ (z : ℕ). bit_at z (7 - n % 8)) (get_xor a b (n / 8) e) ∙ bit_at_xor (get_or a (n / 8) 0) (get_or b (n / 8) 0) (7 - n % 8)

mix : (k m p q x y z : ℕ) → k < 2 → m % 2 ≡ (p + q) % 2 → z ≡ (x + y) % 2 → (m + z * k) % 2 ≡ (p + x * k + (q + y * k)) % 2
mix zero m p q x y z h e d = omega arith
mix (suc zero) m p q x y z h e d = omega arith
mix (suc (suc k)) m p q x y z h e d = absurd (omega arith)

met_linear : (key a b : List ℕ) (j n : ℕ) → length a ≡ length b → met key (xor_of a b) j n % 2 ≡ (met key a j n + met key b j n) % 2
met_linear key a b j zero e = refl
met_linear key a b j (suc n) e =
    mix (bit key (n + j)) (met key (xor_of a b) j n) (met key a j n) (met key b j n) (bit a n) (bit b n) (bit (xor_of a b) n)
    (bit_at-lt (get_or key ((n + j) / 8) 0) (7 - (n + j) % 8)) (met_linear key a b j n e) (bit_xored a b n e)

pub is_linear : (key a b : List ℕ) → length a ≡ length b → toeplitz_of key (xor_of a b) ≡ bit_xor (toeplitz_of key a) (toeplitz_of key b)
is_linear key a b e =
    sym (is_hash key (xor_of a b) (bit_xor (toeplitz_of key a) (toeplitz_of key b))
    (xor_lt 32 (toeplitz_of key a) (toeplitz_of key b) (bits_of key a).0 (bits_of key b).0)
    (λ j l.
    bit_at_xor (toeplitz_of key a) (toeplitz_of key b) (31 - j)
    ∙ omega (
      arith,
      (bits_of key a).1 j l,
      (bits_of key b).1 j l,
      ap (λ (z : ℕ). met key b j (8 * z)) (sym e),
      ap (λ (z : ℕ). met key (xor_of a b) j (8 * z)) (length_xor a b e),
      met_linear key a b j (8 * length a) e,
    )))
