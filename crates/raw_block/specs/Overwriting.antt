-- A list of bytes that is written over.
use Rattle.std.specs.Prelude.{ℕ, ◌+◌, List, ◌++◌, length, take, drop}

-- xs with ws written over it from the place `from` on, and no longer than it was
abbrev pub overwritten : List ℕ → ℕ → List ℕ → List ℕ
overwritten xs from ws = take (length xs) (take from xs ++ (ws ++ drop (from + length ws) xs))
