-- The bytes of the blocks, each block a list of 2048 bytes.
use Rattle.std.specs.Prelude.{ℕ, List, [], replicate, slice_index, slice_index_or, slice_set}

abbrev pub block_size : ℕ
block_size = 2048

abbrev pub Memory : Type 0
Memory = List (List ℕ)

-- so many blocks of zeros
abbrev pub zeroed : ℕ → Memory
zeroed blocks = replicate blocks (replicate block_size 0)

abbrev pub byte_at : Memory → ℕ → ℕ → ℕ
byte_at memory block place = slice_index (slice_index_or memory block []) place

abbrev pub with_byte : Memory → ℕ → ℕ → ℕ → Memory
with_byte memory block place byte =
    slice_set memory block (slice_set (slice_index_or memory block []) place byte)
