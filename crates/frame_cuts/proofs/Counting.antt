-- How many segments hold a payload.
use Rattle.std.proofs.Common.{◌≡◌, ℕ, zero, suc, ◌+◌, ◌-◌, ◌*◌, ◌/◌, ◌<◌, ◌≤◌, ap, ◌∙◌, arith}
use Rattle.std.proofs.lemmas.Nat.{div-mul-add}

-- n of m bytes hold it, and fewer don't: n is the quotient, rounded up
pub pieces : (n m len : ℕ) → 1 ≤ m → 1 ≤ n → (n - 1) * m < len → len ≤ n * m → (len + (m - 1)) / m ≡ n
pieces zero m len some several above within = absurd (omega (arith, several))
pieces (suc k) m len some several above within =
    let times : suc k * m ≡ m + k * m = omega arith in
    let rest = len + (m - 1) - suc k * m in
    let less : (suc k - 1) * m ≡ k * m = ap (λ (z : ℕ). z * m) (let e : suc k - 1 ≡ k = omega arith in e) in
    let whole : len + (m - 1) ≡ suc k * m + rest = omega (arith, some, above, less, times) in
    let few : rest < m = omega (arith, some, within) in
    ap (λ (z : ℕ). z / m) whole ∙ div-mul-add (suc k) m rest few
