-- Sources and sinks in memory, as their callers see them.
use Rattle.std.specs.Prelude.{◌≡◌, ℕ, ◌==◌, List, Bool, false, Result, OnErr}
use Rattle.std.specs.List.{list_any}
use Rattle.off_io.specs.Faults.{next_count}

-- whether the call of this number is one of those that are to fail
abbrev pub is_listed : List ℕ → ℕ → Bool
is_listed fails call = list_any (λ n. n == call) fails

-- a source in memory: the bytes that are left, the most that a call gives, which calls are to fail, and two counts
pub record SourceState : Type 0 where
  pub rest : List ℕ
  pub step : ℕ
  pub fails : List ℕ
  pub calls : ℕ
  pub faults : ℕ

-- a sink in memory: the bytes that it holds, the most that a call takes, which calls are to fail, and three counts
pub record SinkState : Type 0 where
  pub bytes : List ℕ
  pub is_flushed : Bool
  pub step : ℕ
  pub fails : List ℕ
  pub calls : ℕ
  pub faults : ℕ
  pub refused : ℕ

-- a call was counted, and what is to fail is as it was
pub record SameScript (old new : SinkState) : Type 0 where
  pub fails : new.fails ≡ old.fails
  pub step : new.step ≡ old.step
  pub calls : new.calls ≡ next_count old.calls

-- a call whose number isn't listed fails only where an append was given up for want of memory
abbrev pub FailsAsListed : {T E : Type 0} → SinkState → SinkState → Result T E → Type 0
FailsAsListed old new result = is_listed old.fails old.calls ≡ false
    → OnErr result (new.refused ≡ next_count old.refused)
