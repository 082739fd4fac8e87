-- What `segment` leaves: its pool, all blocks home, and at least as many taken as the bytes that were given need, or
-- the count stands at its last value.
use Rattle.std.specs.Prelude.{◌≡◌, ℕ, ◌-◌, ◌^◌, ◌≤◌, List, min, Option, None, Some, ⊤}
use Rattle.off_io.specs.Told.{Told}
use Rattle.segmenting.specs.SegmentState.{SegmentState}
use Rattle.command_answers.specs.declared.status.Status.{Status}
use Rattle.command_answers.specs.declared.status.Status.TheVariants.{Ok}

-- what is left of the source before and after
abbrev pub HasSegmented : ℕ → (List ℕ → ℕ) → Option SegmentState → Option (List ℕ) → Option (List ℕ) → Type 0
HasSegmented blocks need (Some run) old new =
    (run.blocks ≡ blocks) × (run.home ≡ blocks) × Told old new (λ given left. min (need given) (2 ^ 64 - 1) ≤ run.taken)
HasSegmented blocks need None old new = ⊥

-- where a pool was left it has so many blocks, and all of them are home
abbrev pub IsSegmentHome : ℕ → Option SegmentState → Type 0
IsSegmentHome blocks None = ⊤
IsSegmentHome blocks (Some run) = (run.blocks ≡ blocks) × (run.home ≡ blocks)

-- a command that segments over n blocks ended so, and left this: `need` is that of what the source gave
pub record LeavesSegment (n : ℕ) (need : List ℕ → ℕ) (status : Status) (left : Option SegmentState)
    (old new : Option (List ℕ)) : Type 0 where
  pub engine : status ≡ Ok → HasSegmented n need left old new
  pub home : IsSegmentHome n left
