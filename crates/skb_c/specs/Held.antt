-- What C holds: one, or none.
use Rattle.std.specs.Prelude.{◌≡◌, ℕ, Option, Some, None, Bool, true, false}

abbrev pub is_made : {A : Type 0} → Option A → Bool
is_made None = false
is_made (Some x) = true

-- there is one, and this holds of it
abbrev pub Has : {A : Type 0} → (A → Type 0) → Option A → Type 0
Has P None = ⊥
Has P (Some x) = P x

-- of one before and after, and the answer; 2 where there is none
abbrev pub Does : {A : Type 0} → (A → A → ℕ → Type 0) → Option A → Option A → ℕ → Type 0
Does R None after code = (after ≡ None) × (code ≡ 2)
Does R (Some a) after code = Has (λ b. R a b code) after

-- of a pool and a buffer before and after, and the answer; 2 where there is none of either
abbrev pub DoesBoth : {A B : Type 0} → (A → B → A → Option B → ℕ → Type 0)
    → Option A → Option B → Option A → Option B → ℕ → Type 0
DoesBoth R None old after new code = (after ≡ None) × (new ≡ old) × (code ≡ 2)
DoesBoth R (Some p) None after new code = (after ≡ Some p) × (new ≡ None) × (code ≡ 2)
DoesBoth R (Some p) (Some a) after new code = Has (λ q. R p a q new code) after

-- of what something is made of, which is told before and after, and the place for it; 2 where there is one already
abbrev pub Makes : {A B : Type 0} → (A → A → Option B → ℕ → Type 0)
    → Option A → Option B → Option A → Option B → ℕ → Type 0
Makes R None old after new code = (after ≡ None) × (new ≡ old) × (code ≡ 2)
Makes R (Some p) (Some a) after new code = (after ≡ Some p) × (new ≡ Some a) × (code ≡ 2)
Makes R (Some p) None after new code = Has (λ q. R p q new code) after

-- the same of what is made of a pool and a buffer, which both change
abbrev pub MakesFrom : {A B : Type 0} → (A → B → A → B → Option B → ℕ → Type 0)
    → Option A → Option B → Option B → Option A → Option B → Option B → ℕ → Type 0
MakesFrom R None old place after new made code = (after ≡ None) × (new ≡ old) × (made ≡ place) × (code ≡ 2)
MakesFrom R (Some p) None place after new made code = (after ≡ Some p) × (new ≡ None) × (made ≡ place) × (code ≡ 2)
MakesFrom R (Some p) (Some a) (Some c) after new made code
    = (after ≡ Some p) × (new ≡ Some a) × (made ≡ Some c) × (code ≡ 2)
MakesFrom R (Some p) (Some a) None after new made code = Has (λ q. Has (λ b. R p a q b made code) new) after

-- of a pool and two buffers before and after
abbrev pub Joins : {A B : Type 0} → (A → B → B → A → B → Option B → ℕ → Type 0)
    → Option A → Option B → Option B → Option A → Option B → Option B → ℕ → Type 0
Joins R None old second after new left code = (after ≡ None) × (new ≡ old) × (left ≡ second) × (code ≡ 2)
Joins R (Some p) None second after new left code = (after ≡ Some p) × (new ≡ None) × (left ≡ second) × (code ≡ 2)
Joins R (Some p) (Some a) None after new left code = (after ≡ Some p) × (new ≡ Some a) × (left ≡ None) × (code ≡ 2)
Joins R (Some p) (Some a) (Some c) after new left code = Has (λ q. Has (λ b. R p a c q b left code) new) after

-- what is made of a pool and a buffer that stays as it is
abbrev pub MakesOf : {A B : Type 0} → (B → A → A → Option B → ℕ → Type 0)
    → Option A → Option B → Option B → Option A → Option B → Option B → ℕ → Type 0
MakesOf R p a place q b made code = MakesFrom (λ p a q b c n. (b ≡ a) × R a p q c n) p a place q b made code
