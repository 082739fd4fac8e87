-- Writes behind one another.
use Rattle.std.proofs.Common.{◌≡◌, ◌≤◌, ℕ, List, ◌++◌, sym, subst, arith, Option, Result, Ok, Err}
use Rattle.std.specs.Io.KnownBytes.{Appends}
use Rattle.off_io.specs.Content.{AppendsPrefix}
use Rattle.off_io.specs.Faults.{HasCause}
use Rattle.off_io.proofs.Owing.{then_ok, then_err}
use Rattle.records.specs.Records.{Writes}

failed_later : {T E : Type 0} (r : Result T E) (f g h : ℕ) → f ≤ g → HasCause g h r → HasCause f h r
failed_later (Ok x) f g h le c = record { later = omega (arith, le, c.later); failed = tt }
failed_later (Err e) f g h le c = record { later = omega (arith, le, c.later); failed = omega (arith, le, c.failed) }

module _ {T E : Type 0} (r : Result T E) (a c : Option (List ℕ)) (f g h : ℕ) (all : List ℕ) where
  -- behind a whole write the answer of another is handed on
  pub written : (b : Option (List ℕ)) (xs ys : List ℕ) → xs ++ ys ≡ all → Appends a b xs → f ≤ g → Writes b c g h ys r → Writes a c f h all r
  written b xs ys is p le w =
      subst (λ (z : List ℕ). Writes a c f h z r) is (record { ok = then_ok r a b c xs ys p w.ok; err = then_err r a b c xs ys p w.err; cause = failed_later r f g h le w.cause })

  -- a sink failed, and the answer is the fault
  pub stopped : {S F : Type 0} (y : E) (z : F) → r ≡ Err y → AppendsPrefix a c all → f ≤ g → HasCause {T = S} g h (Err z) → Writes a c f h all r
  stopped y z is front le cause =
      subst (Writes a c f h all) (sym is) (record { ok = tt; err = front; cause = record { later = omega (arith, le, cause.later); failed = omega (arith, le, cause.failed) } })

-- the same bytes, by an equation
pub same_bytes : {T E : Type 0} (r : Result T E) (xs ys : List ℕ) (a b : Option (List ℕ)) (f g : ℕ) → xs ≡ ys → Writes a b f g xs r → Writes a b f g ys r
same_bytes r xs ys a b f g e w = subst (λ (z : List ℕ). Writes a b f g z r) e w
