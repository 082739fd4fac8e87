-- What a command that merges leaves: its rounds, all blocks home, and at least as many taken as the bytes that were
-- given need, or the count stands at its last value.
use Rattle.std.specs.Prelude.{◌≡◌, ℕ, ◌-◌, ◌^◌, ◌≤◌, List, min, Option, None, Some, ⊤, length}
use Rattle.off_io.specs.Told.{Told}
use Rattle.rounds.specs.RoundsState.{RoundsState}
use Rattle.command_answers.specs.declared.status.Status.{Status}
use Rattle.command_answers.specs.declared.status.Status.TheVariants.{Ok}
use Rattle.command_answers.specs.Ending.{HasBlocks}

-- what is left of the source before and after
abbrev pub HasMerged : ℕ → (List ℕ → ℕ) → Option RoundsState → Option (List ℕ) → Option (List ℕ) → Type 0
HasMerged blocks need (Some rounds) old new =
    (rounds.blocks ≡ blocks) × (length rounds.stock ≡ blocks) × Told old new
    (λ given left. min (need given) (2 ^ 64 - 1) ≤ rounds.taken)
HasMerged blocks need None old new = ⊥

-- where rounds were left they have so many blocks, and all of them are home
abbrev pub IsMergeHome : ℕ → Option RoundsState → Type 0
IsMergeHome blocks None = ⊤
IsMergeHome blocks (Some rounds) = (rounds.blocks ≡ blocks) × (length rounds.stock ≡ blocks)

-- a command that merges over n blocks ended so, and left this: `need` is that of what the source gave
pub record LeavesMerge (n : ℕ) (need : List ℕ → ℕ) (status : Status) (left : Option RoundsState)
    (old new : Option (List ℕ)) : Type 0 where
  pub blocks : HasBlocks n status
  pub engine : status ≡ Ok → HasMerged n need left old new
  pub home : IsMergeHome n left
