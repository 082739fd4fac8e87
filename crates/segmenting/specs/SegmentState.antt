-- What a contract sees of what segments records: which blocks are home, how many these are, how many were made and were
-- taken. Each record is a round of its own.
use Rattle.std.specs.Prelude.{ℕ, List}
use Rattle.raw_block.specs.Views.{SoleState}

pub record SegmentState : Type 0 where
  pub home : ℕ
  pub stock : List SoleState
  pub blocks : ℕ
  pub taken : ℕ
