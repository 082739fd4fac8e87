-- The rule that each step on a shared block's word keeps. A share has a weight, and what it sees is its own
-- weight and the word, never another share.
use Rattle.std.specs.Prelude.{◌≡◌, ℕ, ◌+◌, ◌-◌, ◌^◌, ◌<◌, ◌≤◌}

-- what a block weighs as its sharing begins
abbrev pub full_weight : ℕ
full_weight = 2 ^ 62

-- The word is what is still held, and is not 0 while somebody holds; with what was given back it makes the
-- full weight.
abbrev pub IsBalanced : ℕ → ℕ → Type 0
IsBalanced word given_back = (0 < word) × (word + given_back ≡ full_weight)

-- the weight of a live share
abbrev pub IsWeight : ℕ → Type 0
IsWeight weight = (0 < weight) × (weight ≤ full_weight)

-- The rule begins with the whole weight held, and stays where a share that is not the last gives its weight
-- back.
pub record WeightRule : Type 0 where
  pub begins : IsBalanced full_weight 0
  pub keeps : (word given_back weight : ℕ) → IsBalanced word given_back → 0 < weight → weight < word
      → IsBalanced (word - weight) (given_back + weight)
  pub bounds : (word given_back : ℕ) → IsBalanced word given_back → IsWeight word × (given_back < full_weight)
