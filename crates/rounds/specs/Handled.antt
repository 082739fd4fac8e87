-- What was done with rounds that were read, one after another.
use Rattle.std.specs.Prelude.{ℕ, ◌≡◌, ◌⊎◌, ◌+◌, ◌-◌, ◌≤◌, ◌^◌, min, Option, None, Some, List, [], ◌∷◌, ◌++◌, length}
use Rattle.block_pool.specs.PassState.{risen}
use Rattle.block_pool.specs.PoolState.{weighed}
use Rattle.rounds.specs.declared.round_stages.RoundEnd.TheVariants as ends
use Rattle.rounds.specs.declared.round_stages.RoundRead.{RoundRead}
use Rattle.rounds.specs.declared.spares.Spares.{Spares}
use Rattle.rounds.specs.Merging.{options_of}
use Rattle.rounds.specs.Reads.{Spot, Reads, ReadRound}
use Rattle.rounds.specs.RoundsState.{RoundsState}

-- By `did` a round did this with what had come of those before it, k of them: more may follow, or it ended. These
-- rounds went by, and more may follow.
abbrev pub Went : {T E : Type 0} → (T → T → RoundRead → ℕ → Option E → Type 0) → ℕ → T → T → List RoundRead → Type 0
Went did k old new [] = new ≡ old
Went {T} did k old new (read ∷ rs) = (mid : T) × did old mid read k None × Went did (k + 1) mid new rs

-- the last of these rounds ended it, or it was stopped behind them
abbrev pub Ends : {T E : Type 0} → (T → T → RoundRead → ℕ → Option E → Type 0) → E → ℕ → T → T → List RoundRead → E
    → Type 0
Ends did stopped k old new [] end = (end ≡ stopped) × (new ≡ old)
Ends {T} did stopped k old new (read ∷ rs) end =
    ((mid : T) × did old mid read k None × Ends did stopped (k + 1) mid new rs end)
    ⊎ (did old new read k (Some end) × (rs ≡ []))

-- from here on rounds were read, behind k others; what was done with the first of them ended it
pub record Ran {T E : Type 0} (did : T → T → RoundRead → ℕ → Option E → Type 0) (stopped : E) (blocks budget k : ℕ)
    (from to : Spot) (old new : T) (end : E) : Type 0 where
  pub got : List RoundRead
  pub more : List RoundRead
  pub reads : Reads blocks budget from (got ++ more) to
  pub ends : Ends did stopped k old new got end

-- ---- the rounds and the reader

-- As many more takes found no list as reads were paused more, unless their count stands at its last value: both counts
-- before, and after.
abbrev pub FewPauses : ℕ → ℕ → ℕ → ℕ → Type 0
FewPauses empties pauses empties' pauses' =
    (pauses ≤ pauses') × (min (empties + (pauses' - pauses)) (2 ^ 64 - 1) ≤ empties')

-- As many spares more went back while their rounds were worked as these had more, unless a put was refused more, or its
-- count stands at its last value.
pub record GaveSpares (old new : Spares) : Type 0 where
  pub lent : old.lent ≤ new.lent
  pub gave : (min (old.given + (new.lent - old.lent)) (2 ^ 64 - 1) ≤ new.given) ⊎ (risen old.refused ≤ new.refused)
  pub refused : old.refused ≤ new.refused

-- what a source has left where it tells, and its faults
pub record Drawn : Type 0 where
  pub left : Option (List ℕ)
  pub faults : ℕ

abbrev pub source_at : {S : Type 0} → (S → Option (List ℕ)) → (S → ℕ) → S → Drawn
source_at left faults source = record { left = left source; faults = faults source }

-- that of a reader that stands here
abbrev pub drawn_at : Spot → Drawn
drawn_at at = record { left = at.left; faults = at.faults }

-- all blocks are home, and nothing else is as it wasn't
pub record Rests (old new : RoundsState) (from to : Spot) : Type 0 where
  pub home : length new.stock ≡ new.blocks
  pub same : (new.blocks ≡ old.blocks) × (options_of new ≡ options_of old) × (new.keep ≡ old.keep)
  pub least : old.taken ≤ new.taken
  pub pauses : FewPauses old.empties old.pauses new.empties new.pauses
  pub gives : GaveSpares old.spares new.spares
  pub later : from.faults ≤ to.faults

-- of no more packets than this
abbrev pub IsReadyAt : {T : Type 0} → (ℕ → T → Type 0) → ℕ → T → Type 0
IsReadyAt ready most new = (n : ℕ) × (n ≤ most) × ready n new

-- of as many packets as a whole capture has, and a round
abbrev pub IsReadyAtEnd : {T : Type 0} → (ℕ → T → Type 0) → T → Type 0
IsReadyAtEnd ready new = IsReadyAt ready (2 ^ 32 + 4096) new

-- a round was read, and this was done with it
pub record Stepped {T E : Type 0} (did : T → T → RoundRead → ℕ → Option E → Type 0) (ready : ℕ → T → Type 0)
    (blocks budget k : ℕ) (from to : Spot) (old new : T) (result : Option E) : Type 0 where
  pub read : RoundRead
  pub reads : ReadRound blocks budget from to read
  pub most : budget ≤ 4096
  pub handled : did old new read k result
  pub full : result ≡ None → read.end ≡ ends.Full
  pub counted : IsReadyAt ready (from.place.number + length read.round.packets) new

-- handling began here, behind k rounds, and ended so with all blocks home
pub record Handled {T E : Type 0} (did : T → T → RoundRead → ℕ → Option E → Type 0) (stopped : E)
    (ready : ℕ → T → Type 0) (k : ℕ) (old new : RoundsState) (from to : Spot) (was is : T) (end : E) : Type 0 where
  pub ran : Ran did stopped old.blocks old.budget k from to was is end
  pub rests : Rests old new from to
  pub named : (h : ℕ → ℕ) → weighed h new.stock ≡ weighed h old.stock
  pub counted : IsReadyAtEnd ready is
