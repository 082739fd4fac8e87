-- What calls do to the bytes that a source has left and a sink holds, where these tell.
use Rattle.std.specs.Prelude.{◌≡◌, ℕ, ◌<◌, List, ◌++◌, length, take, slice_index, Bool, ⊤}
use Rattle.std.specs.Prelude.{IfSome, Option, None, Some, Result, MatchResult}
use Rattle.std.specs.Io.KnownBytes.{Appends, Consumes, IsAtEnd}

-- of a piece the first bytes were appended, maybe none and maybe all
abbrev pub AppendsPrefix : Option (List ℕ) → Option (List ℕ) → List ℕ → Type 0
AppendsPrefix old new bytes = (n : ℕ) × Appends old new (take n bytes)

-- a sink that tells says whether all of it is flushed
abbrev pub SaysFlushed : Option (List ℕ) → Bool → Bool → Type 0
SaysFlushed held is_flushed answer = IfSome held (λ _. is_flushed ≡ answer)

-- of the bytes that one tells the other one tells the first
abbrev pub IsFrontOf : Option (List ℕ) → Option (List ℕ) → Type 0
IsFrontOf None front = ⊤
IsFrontOf (Some all) None = ⊥
IsFrontOf (Some all) (Some front) = (rest : List ℕ) × (front ++ rest ≡ all)

-- of `all` the bytes `rest` are still to be appended
abbrev pub Owes : Option (List ℕ) → Option (List ℕ) → List ℕ → List ℕ → Type 0
Owes old new all rest = (done : List ℕ) × Appends old new done × (done ++ rest ≡ all)

-- each number is a byte
abbrev pub InBytes : List ℕ → Type 0
InBytes bytes = (k : ℕ) → slice_index bytes k < 256

-- a source that tells lost some bytes, fewer than n
abbrev pub LosesFewer : Option (List ℕ) → Option (List ℕ) → ℕ → Type 0
LosesFewer old new n = (bytes : List ℕ) × Consumes old new bytes × (length bytes < n) × InBytes bytes

-- at `Ok(n)` the first n bytes of the buffer were the next ones of the source, and fewer than all only at its end; at
-- `Err` fewer bytes are gone
abbrev pub FillsFront : {E : Type 0} → Option (List ℕ) → Option (List ℕ) → Result ℕ E → List ℕ → Type 0
FillsFront old new r into = MatchResult r
    (λ n. Consumes old new (take n into) × (n < length into → IsAtEnd new))
    (λ _. LosesFewer old new (length into))
