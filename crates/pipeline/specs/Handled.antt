-- What was done with rounds of which the first was read before.
use Rattle.std.specs.Prelude.{ℕ, ◌≡◌, ◌+◌, ◌≤◌, false, Option, List, [], ◌∷◌, ◌++◌, length, Result, Ok, Err}
use Rattle.std.specs.Prelude.{MatchOption}
use Rattle.block_pool.specs.Giving.{GiverState, weights_given}
use Rattle.block_pool.specs.PoolState.{PoolState, home, weighed}
use Rattle.pcap_io.specs.declared.heads.Link.TheVariants.{Ethernet}
use Rattle.pcap_io.specs.declared.place.Place.{Place}
use Rattle.pcap_io.specs.Places.{IsReady}
use Rattle.rounds.specs.declared.round_stages.RoundEnd.TheVariants as ends
use Rattle.rounds.specs.declared.round_stages.RoundRead.{RoundRead}
use Rattle.rounds.specs.declared.spares.Spares.{Spares}
use Rattle.rounds.specs.Benches.{HasRoom, IsLent, IsAsRead, IsSameBench, Lends}
use Rattle.rounds.specs.Handled.{Ends, FewPauses, GaveSpares, IsReadyAtEnd, Rests}
use Rattle.rounds.specs.Merging.{options_of}
use Rattle.rounds.specs.Reads.{Spot, Reads, is_full}
use Rattle.rounds.specs.RoundsState.{BenchState, RoundsState}
use Rattle.rounds.specs.Weights.{weights_of}
use Rattle.pipeline.specs.declared.parcel.Parcel.{Parcel}
use Rattle.pipeline.specs.Parcels.{last_blocks, rounds_of, spares_before, weights_sent, CountsSpares}
use Rattle.pipeline.specs.Parcels.{IsLeft}

-- As `Ran` of the rounds says, behind a round that was read up to here, and with it.
pub record RanOn {T E : Type 0} (did : T → T → RoundRead → ℕ → Option E → Type 0) (stopped : E) (blocks budget : ℕ)
    (read : RoundRead) (at to : Spot) (old new : T) (end : E) : Type 0 where
  pub got : List RoundRead
  pub more : List RoundRead
  pub rest : List RoundRead
  pub all : got ++ more ≡ read ∷ rest
  pub closes : is_full read.end ≡ false → rest ≡ []
  pub reads : Reads blocks budget at rest to
  pub ends : Ends did stopped 0 old new got end

-- it went on with the first round, which was read up to here
pub record HandledOn {T E : Type 0} (did : T → T → RoundRead → ℕ → Option E → Type 0) (stopped : E)
    (ready : ℕ → T → Type 0) (old new : RoundsState) (read : RoundRead) (at to : Spot) (was is : T)
    (end : E) : Type 0 where
  pub ran : RanOn did stopped old.blocks old.budget read at to was is end
  pub rests : Rests old new at to
  pub named : (h : ℕ → ℕ) → weighed h new.stock ≡ weighed h old.stock + weights_of read.round h
  pub counted : IsReadyAtEnd ready is

-- the next round may be read here, behind a full one and others
pub record MayGoOn (read : RoundRead) (place : Place) : Type 0 where
  pub ready : IsReady place
  pub link : place.link ≡ Ethernet
  pub packets : length read.round.packets ≤ place.number
  pub counted : 1 ≤ place.number

-- a round was read up to here and is out, and nothing is done yet
pub record IsFirstOut {T : Type 0} (starts : ℕ → T → Type 0) (rounds : RoundsState) (read : RoundRead) (place : Place)
    (into : T) : Type 0 where
  pub out : length rounds.stock + read.round.blocks ≡ rounds.blocks
  pub is : IsAsRead read.round
  pub goes : read.end ≡ ends.Full → MayGoOn read place
  pub start : starts 0 into

-- nothing was read from here on, and nothing is done yet
pub record MayHandle {T : Type 0} (starts : ℕ → T → Type 0) (rounds : RoundsState) (place : Place) (into : T)
    : Type 0 where
  pub ready : IsReady place
  pub link : place.link ≡ Ethernet
  pub home : length rounds.stock ≡ rounds.blocks
  pub start : starts 0 into

-- nothing more was read, nothing was done, and the same blocks are home
pub record Idle {T : Type 0} (old new : RoundsState) (from to : Spot) (was is : T) : Type 0 where
  pub named : (h : ℕ → ℕ) → weighed h new.stock ≡ weighed h old.stock
  pub same : (new.blocks ≡ old.blocks) × (options_of new ≡ options_of old) × (new.keep ≡ old.keep)
  pub taken : new.taken ≡ old.taken
  pub pauses : FewPauses old.empties old.pauses new.empties new.pauses
  pub gives : GaveSpares old.spares new.spares
  pub stands : to ≡ from
  pub nothing : is ≡ was

-- or there was no memory or no thread for a second side: then the first round is there still
abbrev pub MayBeHandled : {T E : Type 0} → (T → T → RoundRead → ℕ → Option E → Type 0) → E → (ℕ → T → Type 0)
    → RoundsState → RoundsState → RoundRead → Spot → Spot → T → T → Result E RoundRead → Type 0
MayBeHandled did stopped ready old new read at to was is (Ok end) = HandledOn did stopped ready old new read at to was
    is end
MayBeHandled did stopped ready old new read at to was is (Err back) = (back ≡ read) × Idle old new at to was is

-- what a round weighs that is there still
abbrev pub weights_out : {E : Type 0} → Result E RoundRead → (ℕ → ℕ) → ℕ
weights_out (Ok end) h = 0
weights_out (Err read) h = weights_of read.round h

-- of rounds that nobody received the only one comes back; else it was stopped for want of memory
abbrev pub ComesBack : {E : Type 0} → E → List Parcel → List Parcel → Result E RoundRead → Type 0
ComesBack stopped old new (Ok end) = (end ≡ stopped) × ((h : ℕ → ℕ) → weights_sent h new ≡ weights_sent h old)
ComesBack stopped old new (Err read) = (p : Parcel) × (p.read ≡ read) × (old ≡ p ∷ []) × (new ≡ [])

-- ---- the side that works

-- it may begin, with an empty list
pub record MayWork {T : Type 0} (starts : ℕ → T → Type 0) (blocks : ℕ) (bench : BenchState) (list : PoolState)
    (giver : Option GiverState) (got : List Parcel) (into : T) : Type 0 where
  pub named : bench.blocks ≡ blocks
  pub room : HasRoom 0 bench
  pub empty : home list ≡ 0
  pub lent : IsLent giver
  pub none : got ≡ []
  pub start : starts 0 into

-- It has ended, with what it got; `None` where no reader had begun. What it got went home by the giver, but for what is
-- left on its list: no more than the last round had, unless a put found no place. Spares of all but the last one were
-- given while their round was worked.
pub record HasWorked {T E : Type 0} (did : T → T → RoundRead → ℕ → Option E → Type 0) (stopped : E)
    (starts : ℕ → T → Type 0) (bench bench' : BenchState) (list : PoolState) (giver giver' : Option GiverState)
    (counts counts' : Spares) (was is : T) (got : List Parcel) (end : Option E) : Type 0 where
  pub handled : MatchOption end ((got ≡ []) × (is ≡ was)) (λ e. Ends did stopped 0 was is (rounds_of got) e)
  pub ready : IsReadyAtEnd starts is
  pub each : (h : ℕ → ℕ) → weighed h list.blocks + weights_given giver' h
      ≡ weights_sent h got + weights_given giver h
  pub lends : Lends giver giver'
  pub none_left : IsLeft (last_blocks got) list giver giver'
  pub spares : CountsSpares (spares_before got) counts counts' giver giver'
  pub room : HasRoom (home list) bench'
  pub same : IsSameBench bench bench'
