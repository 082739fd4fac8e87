-- The blocks of a round whose heads were shared: each is there once, and with all of its weight. And its packets, by
-- their numbers.
use Rattle.std.specs.Prelude.{ℕ, ◌≡◌, ◌+◌, ◌*◌, ◌<◌, ◌≤◌, List, [], ◌∷◌, Bool}
use Rattle.block_weight.specs.WeightRule.{full_weight}
use Rattle.raw_block.specs.Views.{Life}
use Rattle.frags.specs.Account.{Account}
use Rattle.frags.specs.RoundAccount.{all_blocks, of_lives}
use Rattle.gro.specs.declared.slot.Slot.{Slot as Held}
use Rattle.rounds.specs.Marks.{all, OneLife}

-- what is held of a mark, and what is home of it
abbrev pub weight_at : Account → ℕ → ℕ
weight_at a m = a.held all m + full_weight * a.homes all_blocks m

-- the blocks with k marks from `first` on, each with all of its weight, and no other
pub record IsFresh (first k : ℕ) (a : Account) : Type 0 where
  pub one : (m : ℕ) → OneLife a m
  pub exact : (m : ℕ) → first ≤ m → m < first + k → weight_at a m ≡ full_weight
  pub low : (m : ℕ) → 0 < weight_at a m → first ≤ m
  pub range : (m : ℕ) → 0 < weight_at a m → m < first + k
  pub less : (f : Life → Bool) (m : ℕ) → a.held (of_lives f) m ≤ a.held all m

-- packets with numbers in turn
abbrev pub NumberedFrom : ℕ → List Held → Type 0
NumberedFrom k [] = Unit {0}
NumberedFrom k (p ∷ ps) = (p.number ≡ k) × NumberedFrom (k + 1) ps
