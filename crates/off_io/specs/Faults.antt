-- A count of faults, and when a call may answer a fault.
use Rattle.std.specs.Prelude.{ℕ, ◌≡◌, ◌+◌, ◌-◌, ◌^◌, ◌≤◌, min, OnErr, Result, MatchResult}

-- one more, up to the last value of a counter of 64 bits
abbrev pub next_count : ℕ → ℕ
next_count n = min (n + 1) (2 ^ 64 - 1)

-- the count rose, or stands at the last value of a counter of 64 bits
abbrev pub Rose : ℕ → ℕ → Type 0
Rose before now = next_count before ≤ now

-- the count has not fallen, and it rose where the call failed
pub record HasCause {T E : Type 0} (before now : ℕ) (result : Result T E) : Type 0 where
  pub later : before ≤ now
  pub failed : OnErr result (Rose before now)

-- the count rose by one where the call failed, and else it stayed
abbrev pub CountsFault : {T E : Type 0} → ℕ → ℕ → Result T E → Type 0
CountsFault before now result = MatchResult result (λ _. now ≡ before) (λ _. now ≡ next_count before)
