-- What goes through the ring, and what its blocks weigh together, each by its name: by weights of 1 how many they are.
use Rattle.std.specs.Prelude.{ℕ, ◌≡◌, ◌+◌, ◌-◌, ◌^◌, ◌≤◌, min, Option, List, [], ◌∷◌, ◌++◌, length}
use Rattle.block_pool.specs.Giving.{GiverState, weights_given}
use Rattle.block_pool.specs.PoolState.{PoolState, home, weighed}
use Rattle.rounds.specs.Benches.{IsAsRead, Lends, UnlessFull}
use Rattle.rounds.specs.declared.round_stages.RoundRead.{RoundRead}
use Rattle.rounds.specs.declared.spares.Spares.{Spares}
use Rattle.rounds.specs.Weights.{weights_of}
use Rattle.pipeline.specs.declared.parcel.Parcel.{Parcel}

-- the rounds of parcels
abbrev pub rounds_of : List Parcel → List RoundRead
rounds_of [] = []
rounds_of (p ∷ xs) = p.read ∷ rounds_of xs

-- how many packets rounds have
abbrev pub packets_of : List RoundRead → ℕ
packets_of [] = 0
packets_of (read ∷ rs) = length read.round.packets + packets_of rs

-- behind these, the first of which has number 0, and of n blocks
pub record IsFit (n : ℕ) (before : List Parcel) (p : Parcel) : Type 0 where
  pub number : p.number ≡ length (rounds_of before)
  pub packets : packets_of (rounds_of before) ≤ 2 ^ 32
  pub is : IsAsRead p.read.round
  pub blocks : p.read.round.blocks ≤ n

-- it came behind these, and its blocks have places beside those of a list
pub record Fitting (n : ℕ) (before after : List Parcel) (list : PoolState) (p : Parcel) : Type 0 where
  pub came : after ≡ before ++ p ∷ []
  pub fits : IsFit n before p
  pub room : home list + p.read.round.blocks ≤ list.made

-- what the rounds weigh
abbrev pub weights_sent : (ℕ → ℕ) → List Parcel → ℕ
weights_sent h [] = 0
weights_sent h (p ∷ xs) = weights_of p.read.round h + weights_sent h xs

-- how many blocks these are
abbrev pub blocks_sent : List Parcel → ℕ
blocks_sent xs = weights_sent (λ _. 1) xs

-- those of the last one
abbrev pub last_blocks : List Parcel → ℕ
last_blocks [] = 0
last_blocks (p ∷ []) = p.read.round.blocks
last_blocks (p ∷ q ∷ xs) = last_blocks (q ∷ xs)

-- ---- what goes back

-- some blocks of a list went to others by a giver, or none
pub record Returns (giver giver' : Option GiverState) (list list' : PoolState) : Type 0 where
  pub named : (h : ℕ → ℕ) → weighed h list'.blocks + weights_given giver' h
      ≡ weighed h list.blocks + weights_given giver h
  pub gave : Lends giver giver'

-- at most so many blocks are left
abbrev pub IsLeft : ℕ → PoolState → Option GiverState → Option GiverState → Type 0
IsLeft n list old new = UnlessFull old new (home list ≤ n)

-- ---- spares

abbrev pub spares_of : List Parcel → ℕ
spares_of [] = 0
spares_of (p ∷ xs) = length p.read.round.spares + spares_of xs

-- of all but the last one
abbrev pub spares_before : List Parcel → ℕ
spares_before [] = 0
spares_before (p ∷ []) = 0
spares_before (p ∷ q ∷ xs) = length p.read.round.spares + spares_before (q ∷ xs)

-- Rounds with so many spares at least were counted, and as many blocks that went back while these were worked.
pub record CountsSpares (n : ℕ) (old new : Spares) (giver giver' : Option GiverState) : Type 0 where
  pub counted : min (old.lent + n) (2 ^ 64 - 1) ≤ new.lent
  pub least : old.lent ≤ new.lent
  pub gave : UnlessFull giver giver' (min (old.given + (new.lent - old.lent)) (2 ^ 64 - 1) ≤ new.given)
  pub refused : new.refused ≡ old.refused
