-- What one byte of the input adds.
use Rattle.std.proofs.Common.{◌≡◌, ℕ, zero, suc, ◌+◌, ◌-◌, ◌*◌, ◌/◌, ◌%◌, ◌^◌, ◌<◌, ◌≤◌, List, length, get_or, refl, sym, ap, ◌∙◌, subst, arith, add_assoc}
use Rattle.std.specs.Prelude.{bit_xor}
use Rattle.std.specs.Int.{bit_at}
use Rattle.std.proofs.lemmas.Nat.Bits.{bit_at-lt, bit_at_xor, same_from_bits_below}
use Rattle.frame_layout.specs.Toeplitz.{bit, met, hash_bit, number, toeplitz_of}
use Rattle.frame_layout.specs.Steps.{be, crossed}
use Rattle.frame_layout.proofs.Bits.{number_lt, bit_number, bit_be}

input_bit : (input : List ℕ) (at k : ℕ) → k < 8 → bit input (8 * at + k) ≡ bit_at (get_or input at 0) (7 - k)
input_bit input at k h =
    let e : (8 * at + k) / 8 ≡ at = omega arith in
    let d : (8 * at + k) % 8 ≡ k = omega arith in
    ap (λ (i : ℕ). bit_at (get_or input i 0) (7 - (8 * at + k) % 8)) e ∙ ap (λ (i : ℕ). bit_at (get_or input at 0) (7 - i)) d

key_bit : (key : List ℕ) (at p : ℕ) → ((i : ℕ) → get_or key i 0 < 256) → p < 40 → bit key (8 * at + p) ≡ bit_at (be key at 5) (39 - p)
key_bit key at p h l = sym (bit_be key at 5 p h l)

met_byte : (key input : List ℕ) (at j k : ℕ) → ((i : ℕ) → get_or key i 0 < 256) → j < 32 → k ≤ 8
    → met key input j (8 * at + k) ≡ met key input j (8 * at) + crossed (be key at 5) (get_or input at 0) j k
met_byte key input at j zero h l m =
    let e : 8 * at + zero ≡ 8 * at = omega arith in
    ap (λ (z : ℕ). met key input j z) e ∙ omega arith
met_byte key input at j (suc k) h l m =
    let e : 8 * at + suc k ≡ suc (8 * at + k) = omega arith in
    let d : 8 * at + k + j ≡ 8 * at + (k + j) = omega arith in
    ap (λ (z : ℕ). met key input j z) e
    ∙ ap (λ (z : ℕ). z + bit input (8 * at + k) * bit key (8 * at + k + j)) (met_byte key input at j k h l (omega arith))
    ∙ ap (λ (z : ℕ). met key input j (8 * at) + crossed (be key at 5) (get_or input at 0) j k + z * bit key (8 * at + k + j)) (input_bit input at k (omega arith))
    ∙ ap (λ (z : ℕ). met key input j (8 * at) + crossed (be key at 5) (get_or input at 0) j k + bit_at (get_or input at 0) (7 - k) * z)
    (ap (λ (z : ℕ). bit key z) d ∙ key_bit key at (k + j) h (omega arith))
    ∙ add_assoc (met key input j (8 * at)) (crossed (be key at 5) (get_or input at 0) j k) (bit_at (get_or input at 0) (7 - k) * bit_at (be key at 5) (39 - (k + j)))

-- one byte more
pub byte_more : (key input : List ℕ) (at j hash sum : ℕ) → ((i : ℕ) → get_or key i 0 < 256) → j < 32
    → bit_at hash (31 - j) ≡ met key input j (8 * at) % 2
    → bit_at sum (31 - j) ≡ crossed (be key at 5) (get_or input at 0) j 8 % 2
    → bit_at (bit_xor hash sum) (31 - j) ≡ met key input j (8 * (at + 1)) % 2
byte_more key input at j hash sum h l a b =
    let e : 8 * (at + 1) ≡ 8 * at + 8 = omega arith in
    bit_at_xor hash sum (31 - j)
    ∙ omega (arith, a, b, ap (λ (z : ℕ). met key input j z) e, met_byte key input at j 8 h l (omega arith))

hash_bit-lt : (key input : List ℕ) (j : ℕ) → hash_bit key input j < 2
hash_bit-lt key input j = omega arith

pub bits_of : (key input : List ℕ) → (toeplitz_of key input < 2 ^ 32) × ((j : ℕ) → j < 32 → bit_at (toeplitz_of key input) (31 - j) ≡ hash_bit key input j)
unfolding toeplitz_of
bits_of key input = (
  number_lt (hash_bit key input) 32 (hash_bit-lt key input),
  λ j l. bit_number (hash_bit key input) 32 j (hash_bit-lt key input) l,
)

-- a number of 32 bits with these bits is the hash
pub is_hash : (key input : List ℕ) (hash : ℕ) → hash < 2 ^ 32 → ((j : ℕ) → j < 32 → bit_at hash (31 - j) ≡ hash_bit key input j) → hash ≡ toeplitz_of key input
is_hash key input hash small h =
    same_from_bits_below 32 hash (toeplitz_of key input) small (bits_of key input).0 (λ i l.
    let e : i ≡ 31 - (31 - i) = omega arith in
    ap (λ (z : ℕ). bit_at hash z) e ∙ h (31 - i) (omega arith) ∙ sym ((bits_of key input).1 (31 - i) (omega arith)) ∙ ap (λ (z : ℕ). bit_at (toeplitz_of key input) z) (sym e))
