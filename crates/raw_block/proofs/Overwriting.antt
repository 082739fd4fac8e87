-- A list of bytes that is written over, in place: its length, and its three parts.
use Rattle.std.proofs.Common.{◌≡◌, ℕ, ◌+◌, ◌≤◌, List, ◌++◌, length, take, drop, arith}
use Rattle.std.proofs.lemmas.List.{length-append, length-take, length-drop, take_all}
use Rattle.raw_block.specs.Overwriting.{overwritten}

-- where the new bytes fit, what stands before and behind them stays
pub overwritten-inside : (xs : List ℕ) (from : ℕ) (ws : List ℕ) → from + length ws ≤ length xs → overwritten xs from ws
    ≡ take from xs ++ (ws ++ drop (from + length ws) xs)
overwritten-inside xs from ws fits = take_all (length xs) (take from xs ++ (ws ++ drop (from + length ws) xs))
    (omega (
      arith,
      length-append (take from xs) (ws ++ drop (from + length ws) xs),
      length-append ws (drop (from + length ws) xs),
      length-take from xs,
      length-drop (from + length ws) xs,
    ))

-- the length stays
pub length-overwritten : (xs : List ℕ) (from : ℕ) (ws : List ℕ) → from ≤ length xs → length (overwritten xs from ws) ≡ length xs
length-overwritten xs from ws within = omega (
  arith,
  length-take (length xs)
      (take from xs ++ (ws ++ drop (from + length ws) xs)),
  length-append (take from xs)
      (ws ++ drop (from + length ws) xs),
  length-append ws (drop (from + length ws) xs),
  length-take from xs,
  length-drop (from + length ws) xs,
)
