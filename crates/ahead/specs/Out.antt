-- What is out of a round that was worked while the next one was read.
use Rattle.std.specs.Prelude.{ℕ, ◌≡◌, ◌⊎◌, ◌+◌, ◌≤◌, Result, Ok, Err}
use Rattle.block_pool.specs.PassState.{risen, PassState}
use Rattle.block_pool.specs.PoolState.{PoolState}
use Rattle.block_supply.specs.Lists.{weights_home}
use Rattle.ahead.specs.declared.paused.ReadAhead.{ReadAhead}
use Rattle.ahead.specs.declared.paused.ReadAhead.TheVariants as ahead
use Rattle.rounds.specs.declared.round_stages.RoundEnd.TheVariants as ends
use Rattle.rounds.specs.RoundOf.{Brought}
use Rattle.rounds.specs.RoundsState.{WorkedState}
use Rattle.rounds.specs.Weights.{weights_worked}

-- the blocks of a round that was worked, if it was
abbrev pub blocks_out : {E : Type 0} → Result WorkedState E → ℕ
blocks_out (Ok worked) = worked.blocks
blocks_out (Err error) = 0

abbrev pub weights_out : {E : Type 0} → Result WorkedState E → (ℕ → ℕ) → ℕ
weights_out (Ok worked) h = weights_worked worked h
weights_out (Err error) h = 0

-- nothing was read, for want of memory
abbrev pub IsUnread : ReadAhead → Type 0
IsUnread (ahead.Read read) = read.end ≡ ends.NoMemory
IsUnread (ahead.Paused paused) = ⊥

-- Its n spares were given while it was worked; or a put was refused, whose count rose or stands at its last value; or
-- there was no memory for a second side.
abbrev pub GaveWorked : ℕ → ℕ → ℕ → ℕ → ReadAhead → WorkedState → Type 0
GaveWorked n blocks refused refused' read worked =
    (worked.blocks + n ≤ blocks) ⊎ ((risen refused ≤ refused') ⊎ IsUnread read)

-- by lists that are taken, and none waited for
abbrev pub brought_listed : PassState PoolState → PoolState → Brought
brought_listed pass left = record {
  weights = λ h. weights_home h pass left;
  refusals = pass.empties;
}
