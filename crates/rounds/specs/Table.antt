-- A place for each mark of a round: what came back of its block.
use Rattle.std.specs.Prelude.{ℕ, ◌≡◌, ◌+◌, ◌<◌, ◌≤◌, List, [], ◌∷◌, length, slice_index_or}
use Rattle.block_weight.specs.WeightRule.{full_weight}
use Rattle.raw_block.specs.Views.{ReceiptState}
use Rattle.block_pool.specs.PoolState.{PoolState, home, weighed}
use Rattle.frags.specs.Account.{Account, KeepsBlocks, Tests, counted, both}
use Rattle.frags.specs.RoundAccount.{Settles}
use Rattle.rounds.specs.Marks.{IsMarked, IsNamed}
use Rattle.rounds.specs.declared.mark_table.MarkState.{MarkState}
use Rattle.rounds.specs.declared.mark_table.MarkState.TheVariants.{Open, Home, Owed}

abbrev pub place_held : Tests → ℕ → MarkState → ℕ
place_held t m Open = 0
place_held t m Home = 0
place_held t m (Owed r) = counted t m r.life r.mark r.weight

abbrev pub place_home : MarkState → ℕ
place_home Open = 0
place_home Home = 1
place_home (Owed r) = 0

-- what stands at a mark; nothing came back beyond the table
abbrev pub place_at : List MarkState → ℕ → MarkState
place_at places m = slice_index_or places m Open

-- by marks: a Sole that is home is told by its mark alone
abbrev pub of_places : List MarkState → Account
of_places places = record {
  held = λ t m. place_held t m (place_at places m);
  homes = λ bs m. place_home
      (place_at places m);
}

-- what is owed at a place is of its mark, and no whole
abbrev pub IsOwed : ℕ → MarkState → Type 0
IsOwed m Open = Unit {0}
IsOwed m Home = Unit {0}
IsOwed m (Owed r) = (r.mark ≡ m) × (0 < r.weight) × (r.weight < full_weight)

abbrev pub AreOwed : List MarkState → Type 0
AreOwed places = (m : ℕ) → IsOwed m (place_at places m)

abbrev pub place_missing : MarkState → ℕ
place_missing Open = 1
place_missing Home = 0
place_missing (Owed r) = 1

-- how many blocks of the table haven't come home
abbrev pub missing : List MarkState → ℕ
missing [] = 0
missing (p ∷ ps) = place_missing p + missing ps

-- what a place weighs whose block hasn't come home
abbrev pub place_weight : ℕ → MarkState → ℕ
place_weight w Open = w
place_weight w Home = 0
place_weight w (Owed r) = w

-- what the blocks of a table weigh together that haven't come home, by their marks, the first of them k
abbrev pub missing_weight : (ℕ → ℕ) → ℕ → List MarkState → ℕ
missing_weight w k [] = 0
missing_weight w k (p ∷ ps) = place_weight (w k) p + missing_weight w (k + 1) ps

-- what the blocks of the pool weigh together, each by its name, once those of the table have come as well
abbrev pub weighed_at_end : (ℕ → ℕ) → (ℕ → ℕ) → PoolState → List MarkState → ℕ
weighed_at_end names h pool places = weighed h pool.blocks + missing_weight (λ m. h (names m)) 0 places

abbrev pub AllOpen : List MarkState → Type 0
AllOpen places = (m : ℕ) → place_at places m ≡ Open

abbrev pub AreHome : List MarkState → Type 0
AreHome places = (m : ℕ) → m < length places → place_at places m ≡ Home

-- a receipt is of the life of what is owed at a place
abbrev pub IsOfLife : MarkState → ReceiptState → Type 0
IsOfLife (Owed q) r = r.life ≡ q.life
IsOfLife _ r = Unit {0}

-- a receipt came back: closed where its block is home, and else owed with the others
abbrev pub Receives : MarkState → ReceiptState → MarkState → Type 0
Receives Open r p = (p ≡ Owed r) × (0 < r.weight) × (r.weight < full_weight)
Receives Home r p = p ≡ Home
Receives (Owed q) r p = (p ≡ Owed (record q { weight = q.weight + r.weight })) × (0 < r.weight)
    × (q.weight + r.weight < full_weight)

-- there is room in the pool for what hasn't come home, and `x`, which is to come, has marks of the table
pub record MayCome (x : Account) (pool : PoolState) (places : List MarkState) : Type 0 where
  pub room : home pool + missing places ≤ pool.made
  pub marked : IsMarked (length places) (both (of_places places) x)
  pub owed : AreOwed places

-- Of `x` all but `rest` came: what of it isn't home is owed, and a block is home for each place that is Home. Where
-- each mark has the block of one name, it is that block.
pub record Comes (x rest : Account) (pool : PoolState) (places : List MarkState) (pool' : PoolState)
    (places' : List MarkState) : Type 0 where
  pub settles : Settles (length places) (both (of_places places) x) (both (of_places places') rest)
  pub blocks : KeepsBlocks x rest
  pub named : (names h : ℕ → ℕ) → IsNamed names x → weighed_at_end names h pool' places'
      ≡ weighed_at_end names h pool places
  pub count : home pool' + missing places' ≡ home pool + missing places
  pub size : length places' ≡ length places
  pub owed : AreOwed places'
  pub made : pool'.made ≡ pool.made
  pub taken : pool'.taken ≡ pool.taken
