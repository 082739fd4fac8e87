-- An engine that C holds, or none.
use Rattle.std.specs.Prelude.{◌≡◌, ◌⊎◌, ℕ, Option, Some, None, Bool, true, false}
use Rattle.frame_bursts.specs.Kept.{IsFor, Stays}
use Rattle.frame_bursts.specs.declared.burst.Refused.{Refused}
use Rattle.frame_bursts.specs.declared.burst.Refused.TheVariants.{Usage, Full, NoMemory, NoRoom}
use Rattle.frame_bursts.specs.declared.kept.BurstEngine.{BurstEngine}

abbrev pub is_made : {A : Type 0} → Option A → Bool
is_made None = false
is_made (Some x) = true

-- there is one, and this holds of it
abbrev pub HasEngine : (BurstEngine → Type 0) → Option BurstEngine → Type 0
HasEngine P None = ⊥
HasEngine P (Some g) = P g

-- this holds of it before and after, where there is one; else there is none afterwards either
abbrev pub FromTo : (BurstEngine → BurstEngine → Type 0) → Option BurstEngine → Option BurstEngine → Type 0
FromTo R None after = after ≡ None
FromTo R (Some g) after = HasEngine (R g) after

abbrev pub HaveSameNumbers : Option BurstEngine → Option BurstEngine → Type 0
HaveSameNumbers = FromTo (λ g h. IsFor g.link g.limit g.limits h)

abbrev pub AllStays : Option BurstEngine → Option BurstEngine → Type 0
AllStays = FromTo Stays

-- what a call answers: a number for each refusal, and 0 where there was none
abbrev pub code_of : Refused → ℕ
code_of Usage = 2
code_of Full = 4
code_of NoMemory = 7
code_of NoRoom = 9

-- when each refusal comes, by its number: of an engine as this says, and 2 where there is none
abbrev pub RefusesBy : (BurstEngine → Refused → Type 0) → Option BurstEngine → Refused → Type 0
RefusesBy refuses None reason = reason ≡ Usage
RefusesBy refuses (Some g) reason = refuses g reason

abbrev pub Answers : (Refused → Type 0) → ℕ → Type 0
Answers refuses code = (code ≡ 0) ⊎ ((reason : Refused) × ((code ≡ code_of reason) × refuses reason))
