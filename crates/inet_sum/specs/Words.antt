-- Numbers of 32 and of 64 bits, of which a sum adds one at a time.
use Rattle.std.specs.Prelude.{◌≡◌, ℕ, ◌+◌, ◌*◌, ◌^◌, ◌<◌, ◌⊎◌, List, slice_index}

-- the big-endian number in the first four bytes
abbrev pub number_of : List ℕ → ℕ
number_of quad = 65536 * (256 * slice_index quad 0 + slice_index quad 1)
    + (256 * slice_index quad 2 + slice_index quad 3)

-- the little-endian number in the first eight bytes
abbrev pub word_of : List ℕ → ℕ
word_of word = slice_index word 0 + 2 ^ 8 * slice_index word 1 + 2 ^ 16 * slice_index word 2
    + 2 ^ 24 * slice_index word 3 + 2 ^ 32 * slice_index word 4 + 2 ^ 40 * slice_index word 5
    + 2 ^ 48 * slice_index word 6 + 2 ^ 56 * slice_index word 7

-- the sum of two numbers in 64 bits, whose carry is added at the low end
abbrev pub IsAround : ℕ → ℕ → ℕ → Type 0
IsAround sum word next = (next ≡ sum + word) ⊎ ((2 ^ 64 < sum + word + 1) × (next + 2 ^ 64 ≡ sum + word + 1))
