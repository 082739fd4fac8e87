-- A reader or a writer of the system, as the callers of its adapter see it.
use Rattle.std.specs.Prelude.{ℕ, Bool}

-- what is adapted, and how often it failed
pub record Counting (R : Type 0) : Type 0 where
  pub inner : R
  pub faults : ℕ

-- and of a writer, whether all that was written is flushed
pub record CountingSink (W : Type 0) : Type 0 where
  pub inner : W
  pub faults : ℕ
  pub is_flushed : Bool
