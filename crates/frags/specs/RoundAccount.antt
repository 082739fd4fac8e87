-- What follows of the account over a whole round: by marks, and of one block.
use Rattle.std.specs.Prelude.{ℕ, ◌≡◌, ◌+◌, ◌*◌, ◌<◌, ◌≤◌, Bool, true, ◌==◌}
use Rattle.block_weight.specs.WeightRule.{full_weight}
use Rattle.raw_block.specs.Views.{Life}
use Rattle.frags.specs.Account.{Account, Tests, Keeps, both, every}

abbrev pub all_blocks : ℕ → Bool
all_blocks b = true

-- some lives, of whichever block
abbrev pub of_lives : (Life → Bool) → Tests
of_lives f = record { blocks = all_blocks; lives = f }

-- the account by marks, whichever the blocks that bear them
abbrev pub KeepsSums : Account → Account → Type 0
KeepsSums a b = (f : Life → Bool) (m : ℕ) → (b.held (of_lives f) m ≤ a.held (of_lives f) m)
    × (a.held (of_lives f) m + full_weight * a.homes all_blocks m ≤ b.held (of_lives f) m + full_weight
    * b.homes all_blocks m)

-- No weight is made up. At each of the first n marks where no Sole is at home, none was, and all that was held still
-- is.
abbrev pub Settles : ℕ → Account → Account → Type 0
Settles n a b = (m : ℕ) → ((f : Life → Bool) → b.held (of_lives f) m ≤ a.held (of_lives f) m)
    × (m < n → b.homes all_blocks m ≡ 0 → (a.homes all_blocks m ≡ 0)
    × (a.held (every all_blocks) m ≤ b.held (every all_blocks) m))

-- what is kept block by block is kept mark by mark
abbrev pub KeepsIsSettling : Type 0
KeepsIsSettling = (a b : Account) → Keeps a b → KeepsSums a b × ((n : ℕ) → Settles n a b)

-- steps settle one after another, and beside what they leave alone
abbrev pub SettlingAddsUp : Type 0
SettlingAddsUp = (n : ℕ) → ((a : Account) → Settles n a a) × ((a b c : Account) → Settles n a b → Settles n b c
    → Settles n a c) × ((a b c : Account) → Settles n a b → Settles n (both a c) (both b c))

abbrev pub one_block : ℕ → ℕ → Bool
one_block k b = b == k

-- a block whose full weight went in, and of which less is held, has its own Sole at home
abbrev pub BlockIsHome : Type 0
BlockIsHome = (a b : Account) (k m : ℕ) → Keeps a b → a.held (every (one_block k)) m ≡ full_weight
    → a.homes (one_block k) m ≡ 0 → b.held (every (one_block k)) m < full_weight → 1 ≤ b.homes (one_block k) m
