-- Bytes that are lent for writing, and what the lender has once the loan ends.
use Rattle.std.specs.Prelude.{ℕ, List}
use Rattle.std.specs.Borrow.{Lends, MutBor, Fml, u8, Array}
use Rattle.raw_block.specs.Overwriting.{overwritten}
use Rattle.raw_block.specs.Views.{SoleState}
use Rattle.raw_block.specs.declared.block.Block.{Block}
use Rattle.raw_block.specs.declared.block.Bytes.{Bytes}
use Rattle.raw_block.specs.contracts.block.Bytes.{the_row as bytes_row}
use Rattle.raw_block.specs.contracts.block.Block.{the_row as block_row}
use Rattle.raw_block.specs.contracts.sole.Sole.{the_row as sole_row}

abbrev pub with_range : Bytes → ℕ → List ℕ → Bytes
with_range s from ws = record { bytes = overwritten s.bytes from ws }

abbrev pub lends_range : MutBor Bytes → ℕ → MutBor (List ℕ) → Fml
lends_range s from r = Lends bytes_row (Array u8 0) s r (with_range s.now from)

abbrev pub with_content : Block Bytes → ℕ → List ℕ → Block Bytes
with_content s from ws = record s { content = with_range s.content from ws }

abbrev pub lends_content : MutBor (Block Bytes) → ℕ → MutBor (List ℕ) → Fml
lends_content s from r = Lends (block_row bytes_row) (Array u8 0) s r (with_content s.now from)

abbrev pub with_bytes : SoleState → ℕ → List ℕ → SoleState
with_bytes s from ws = record s { bytes = overwritten s.bytes from ws }

-- the bytes from a place on are lent
abbrev pub lends_bytes : MutBor SoleState → ℕ → MutBor (List ℕ) → Fml
lends_bytes s from r = Lends sole_row (Array u8 0) s r (with_bytes s.now from)
