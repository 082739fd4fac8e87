-- How checking ends, and what a round or a row of them says of the totals and of the bytes that are gone.
use Rattle.std.specs.Prelude.{◌≡◌, ◌⊎◌, ℕ, ◌+◌, ◌*◌, ◌-◌, ◌^◌, ◌≤◌, min, Option, None, Some, List, ◌++◌, length}
use Rattle.std.specs.Prelude.{true}
use Rattle.block_pool.specs.Giving.{GiverState}
use Rattle.block_pool.specs.PoolState.{PoolState}
use Rattle.pcap_io.specs.declared.place.Place.{Place}
use Rattle.pcap_io.specs.Capture.{Packet}
use Rattle.pcap_io.specs.Limits.{most_frame}
use Rattle.pcap_io.specs.Places.{found_at}
use Rattle.offload_model.specs.Need.{round_need}
use Rattle.offload_model.specs.Passing.{Ending, Stopped, Nowhere, AtFault, AtRound, ReadFault, NoMemory}
use Rattle.offload_model.specs.Steps.{ending_behind, in_front}
use Rattle.offload_model.specs.Written.{Options}
use Rattle.check_totals.specs.Counts.{Counts, added, HasLanes, IsWithin}
use Rattle.check_totals.specs.Checking.{counting}
use Rattle.check_totals.specs.Tallies.{CountsOn, Tallies}
use Rattle.rounds.specs.declared.round_stages.RoundEnd.{RoundEnd}
use Rattle.rounds.specs.declared.round_stages.RoundEnd.TheVariants as read_ends
use Rattle.rounds.specs.Benches.{options_at, BringsBeside, IsLent, IsAsRead, Lends, MayBring}
use Rattle.rounds.specs.RoundsState.{BenchState, RoundState}
use Rattle.rounds.specs.Weights.{weights_of}
use Rattle.checking.specs.declared.counting.CheckEnd.{CheckEnd}
use Rattle.checking.specs.declared.counting.CheckEnd.TheVariants as ends

abbrev pub ending_of : CheckEnd → Ending
ending_of ends.Done = Stopped Nowhere
ending_of (ends.Malformed fault) = Stopped (AtFault fault)
ending_of (ends.PoolEmpty round need) = Stopped (AtRound round need)
ending_of ends.ReadFault = ReadFault
ending_of ends.NoMemory = NoMemory

-- the last round: it was counted, and checking ends as it is to, or there was no memory
abbrev pub CountsLast : Counts → Counts → Counts → CheckEnd → CheckEnd → Type 0
CountsLast old new round end result = ((result ≡ end) × (new ≡ added old round)) ⊎ (result ≡ ends.NoMemory)

-- a round that ended so, behind k others, was counted: more may follow behind a full one, or checking ends
abbrev pub CountsRound : Counts → Counts → Counts → ℕ → RoundEnd → Option CheckEnd → Type 0
CountsRound old new round k read_ends.Full None = new ≡ added old round
CountsRound old new round k read_ends.Full (Some end) = end ≡ ends.NoMemory
CountsRound old new round k read_ends.End (Some end) = CountsLast old new round ends.Done end
CountsRound old new round k (read_ends.Malformed fault) (Some end) = CountsLast old new round (ends.Malformed fault) end
CountsRound old new round k read_ends.ReadFault (Some end) = CountsLast old new round ends.ReadFault end
CountsRound old new round k (read_ends.PoolEmpty need) (Some end) = (end ≡ ends.PoolEmpty k need) × (new ≡ old)
CountsRound old new round k read_ends.NoMemory (Some end) = end ≡ ends.NoMemory
CountsRound old new round k read_ends.GivenUp (Some end) = end ≡ ends.NoMemory
CountsRound old new round k _ None = ⊥

-- ---- rounds

-- The bytes that are gone are k rounds, whatever follows them: this was counted of them, and as many blocks were taken
-- as they need.
pub record CountsAhead (blocks : ℕ) (options : Options) (k : ℕ) (from to : Place) (old new : Counts) (before now : ℕ)
    (bytes left : List ℕ) : Type 0 where
  pub gone : List ℕ
  pub counts : Counts
  pub packets : List Packet
  pub split : bytes ≡ gone ++ left
  pub goes : CountsOn (counting blocks options from) (counting blocks options to) k gone counts
  pub found : (tail : List ℕ) → found_at from (gone ++ tail) ≡ in_front packets (found_at to tail)
  pub sum : new ≡ added old counts
  pub took : min (before + round_need packets) (2 ^ 64 - 1) ≤ now
  pub size : length packets ≡ k * options.budget

-- from here on checking ends so, behind k rounds
abbrev pub EndsCounting : ℕ → ℕ → Options → Place → Counts → Counts → CheckEnd → List ℕ → List ℕ → Type 0
EndsCounting k blocks options from old new end bytes left =
    (ending : Ending) × (ending_of end ≡ ending_behind k ending)
    × Tallies (counting blocks options from) old new ending bytes left

-- none of the numbers of n packets exceeds n, and none of a tap's the bytes that these may have
abbrev pub AreOf : ℕ → Counts → Type 0
AreOf n counts = IsWithin n (most_frame * n) counts

-- ---- one round

-- it may be worked and counted, where a clone of each packet is kept
pub record MayCount (round : RoundState) (bench : BenchState) (pool : PoolState) (giver : Option GiverState)
    (totals : Counts) : Type 0 where
  pub may : MayBring round.blocks bench pool
  pub lent : IsLent giver
  pub keep : bench.keep ≡ true
  pub read : IsAsRead round
  pub lanes : HasLanes (options_at bench) totals
  pub within : (n : ℕ) × (n ≤ 2 ^ 32) × AreOf n totals

-- it is home, whether or not it was counted
pub record IsCounted (round : RoundState) (bench bench' : BenchState) (pool pool' : PoolState)
    (giver giver' : Option GiverState) (old new : Counts) : Type 0 where
  pub lanes : HasLanes (options_at bench) new
  pub within : (n : ℕ) → AreOf n old → AreOf (n + length round.packets) new
  pub brings : BringsBeside round.blocks (weights_of round) bench bench' pool pool' giver giver'
  pub gave : Lends giver giver'
