-- What a contract sees of what writes records: how many blocks are home, and how many were made. Each record is a round
-- of its own.
use Rattle.std.specs.Prelude.{ℕ}

pub record RunState : Type 0 where
  pub home : ℕ
  pub blocks : ℕ
