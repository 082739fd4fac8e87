-- Laws of the sum and its fold.
use Rattle.std.proofs.Common.{◌≡◌, ℕ, zero, suc, ◌+◌, ◌-◌, ◌*◌, ◌/◌, ◌%◌, ◌<◌, ◌≤◌, Bool, true, false, List, [], ◌∷◌, ◌++◌, length, refl, sym, ap, ◌∙◌, arith}
use Rattle.std.specs.Prelude.{◌==◌}
use Rattle.std.proofs.lemmas.Bool.{eqb-true, eqb-false, eq-eqb}
use Rattle.inet_sum.specs.Sum.{word_sum, folded, fold_of, joined_fold}

pub folded-zero : (n : ℕ) → folded n ≡ 0 → n ≡ 0
folded-zero zero h = refl
folded-zero (suc n) h = omega arith

pub folded-most : (n : ℕ) → folded n ≤ 65535
folded-most zero = omega arith
folded-most (suc n) = omega arith

folded-quotient : (n : ℕ) → (q : ℕ) × (n ≡ folded n + 65535 * q)
folded-quotient zero = (0, omega arith)
folded-quotient (suc n) = (n / 65535, omega arith)

-- numbers that differ by a multiple of 65535, and are zero together, have one fold
pub same_fold : (s t p q : ℕ) → s + 65535 * p ≡ t + 65535 * q → (s ≡ 0 → t ≡ 0) → (t ≡ 0 → s ≡ 0) → folded s ≡ folded t
same_fold zero zero p q e f g = refl
same_fold zero (suc t) p q e f g = absurd (omega (arith, f refl))
same_fold (suc s) zero p q e f g = absurd (omega (arith, g refl))
same_fold (suc s) (suc t) p q e f g = omega arith

pub folded-add : (a b : ℕ) → folded (folded a + folded b) ≡ folded (a + b)
folded-add a b =
    let qa : (q : ℕ) × (a ≡ folded a + 65535 * q) = folded-quotient a in
    let qb : (q : ℕ) × (b ≡ folded b + 65535 * q) = folded-quotient b in
    same_fold (folded a + folded b) (a + b) (qa.0 + qb.0) 0 (omega (arith, qa.1, qb.1))
    (λ h. omega (arith, folded-zero a (omega arith), folded-zero b (omega arith)))
    (λ h. omega (arith, qa.1, qb.1))

-- a number that a fold may be is its own
folded-small : (n : ℕ) → n < 65536 → folded n ≡ n
folded-small zero h = refl
folded-small (suc n) h = omega arith

pub folded-behind : (a b : ℕ) → a < 65536 → folded (a + b) ≡ folded (a + folded b)
folded-behind a b h = sym (folded-add a b) ∙ ap (λ z. folded (z + folded b)) (folded-small a h)

pub folded-swap : (a b : ℕ) → folded (folded a + 256 * folded b) ≡ folded (a + 256 * b)
folded-swap a b =
    let qa : (q : ℕ) × (a ≡ folded a + 65535 * q) = folded-quotient a in
    let qb : (q : ℕ) × (b ≡ folded b + 65535 * q) = folded-quotient b in
    same_fold (folded a + 256 * folded b) (a + 256 * b) (qa.0 + 256 * qb.0) 0 (omega (arith, qa.1, qb.1))
    (λ h. omega (arith, folded-zero a (omega arith), folded-zero b (omega arith)))
    (λ h. omega (arith, qa.1, qb.1))

word_sum-first : (x : ℕ) (xs : List ℕ) → word_sum (x ∷ xs) ≡ 256 * x + word_sum (0 ∷ xs)
word_sum-first x [] = omega arith
word_sum-first x (y ∷ xs) = omega arith

pub even-append : (xs ys : List ℕ) → length xs % 2 ≡ 0 → word_sum (xs ++ ys) ≡ word_sum xs + word_sum ys
even-append [] ys e = omega arith
even-append (x ∷ []) ys e = absurd (omega arith)
even-append (x ∷ y ∷ xs) ys e = omega (arith, even-append xs ys (omega arith))

pub odd-append : (xs ys : List ℕ) → length xs % 2 ≡ 1 → word_sum (xs ++ ys) ≡ word_sum xs + word_sum (0 ∷ ys)
odd-append [] ys e = absurd (omega arith)
odd-append (x ∷ []) ys e = word_sum-first x ys
odd-append (x ∷ y ∷ xs) ys e = omega (arith, odd-append xs ys (omega arith))

-- in an odd place each byte weighs what its neighbour would, and that is 256 times its own weight, by 65535
pub shifted : (ys : List ℕ) → (p : ℕ) × (word_sum (0 ∷ ys) + 65535 * p ≡ 256 * word_sum ys)
shifted [] = (0, omega arith)
shifted (x ∷ []) = (x, omega arith)
shifted (x ∷ y ∷ ys) = (x + (shifted ys).0, omega (arith, (shifted ys).1, word_sum-first y ys))

shifted-zero : (ys : List ℕ) → word_sum (0 ∷ ys) ≡ 0 → word_sum ys ≡ 0
shifted-zero [] h = refl
shifted-zero (x ∷ []) h = omega arith
shifted-zero (x ∷ y ∷ ys) h = omega (arith, word_sum-first y ys, shifted-zero ys (omega (arith, word_sum-first y ys)))

-- the fold of a joined list, by the folds of its pieces, an odd first piece too
pub fold-append_even : (xs ys : List ℕ) → length xs % 2 ≡ 0 → fold_of (xs ++ ys) ≡ joined_fold false (fold_of xs) (fold_of ys)
fold-append_even xs ys e = ap folded (even-append xs ys e) ∙ sym (folded-add (word_sum xs) (word_sum ys))

pub fold-append_odd : (xs ys : List ℕ) → length xs % 2 ≡ 1 → fold_of (xs ++ ys) ≡ joined_fold true (fold_of xs) (fold_of ys)
fold-append_odd xs ys e =
    ap folded (odd-append xs ys e)
    ∙ same_fold (word_sum xs + word_sum (0 ∷ ys)) (word_sum xs + 256 * word_sum ys) (shifted ys).0 0 (omega (arith, (shifted ys).1))
    (λ h. omega (arith, shifted-zero ys (omega arith)))
    (λ h. omega (arith, (shifted ys).1))
    ∙ sym (folded-swap (word_sum xs) (word_sum ys))

joined_case : (front back : List ℕ) (odd : Bool) → (length front % 2 == 1) ≡ odd → joined_fold odd (fold_of front) (fold_of back) ≡ fold_of (front ++ back)
joined_case front back true e = sym (fold-append_odd front back (eqb-true (length front % 2) 1 e))
joined_case front back false e = sym (fold-append_even front back (omega (arith, eqb-false (length front % 2) 1 e)))

-- the fold of two pieces from what partial sums keep of them
pub joined_is : (front back : List ℕ) (a b n : ℕ) → a ≡ fold_of front → b ≡ fold_of back → n ≡ length front
    → joined_fold (n % 2 == 1) a b ≡ fold_of (front ++ back)
joined_is front back a b n e g l = rw (e, g, l) (joined_case front back (length front % 2 == 1) refl)

-- two pieces from numbers that have their folds, where the first is even
pub even_total : (xs ys : List ℕ) (a b : ℕ) → length xs % 2 ≡ 0 → folded a ≡ fold_of xs → folded b ≡ fold_of ys → folded (a + b) ≡ fold_of (xs ++ ys)
even_total xs ys a b even e g =
    sym (folded-add a b) ∙ ap (λ z. folded (z + folded b)) e ∙ ap (λ z. folded (fold_of xs + z)) g ∙ sym (fold-append_even xs ys even)

-- ---- sums that are right

folded-least : (n : ℕ) → 1 ≤ n → 1 ≤ folded n
folded-least zero h = absurd (omega arith)
folded-least (suc n) h = omega arith

one_test : (x y : Bool) → (x ≡ true → y ≡ true) → (y ≡ true → x ≡ true) → x ≡ y
one_test true y to from = sym (to refl)
one_test false true to from = from refl
one_test false false to from = refl

same_tests : (a b c d : ℕ) → (a ≡ b → c ≡ d) → (c ≡ d → a ≡ b) → (a == b) ≡ (c == d)
same_tests a b c d to from =
    one_test (a == b) (c == d) (λ t. eq-eqb c d (to (eqb-true a b t))) (λ t. eq-eqb a b (from (eqb-true c d t)))

-- a sum other than 65535 stands in its field exactly where the words with that field have the fold 65535
pub right_where_full : (rest field : ℕ) → field < 65535 → (folded (rest + field) == 65535) ≡ (field == 65535 - folded rest)
right_where_full zero field small =
    let p : (q : ℕ) × (field ≡ folded field + 65535 * q) = folded-quotient field in
    let e : 0 + field ≡ field = omega arith in
    ap (λ z. folded z == 65535) e ∙ same_tests (folded field) 65535 field 65535 (λ e. omega (arith, e, p.1)) (λ e. omega (arith, e))
right_where_full (suc n) field small =
    let q : (q : ℕ) × (suc n ≡ folded (suc n) + 65535 * q) = folded-quotient (suc n) in
    let p : (q : ℕ) × (suc n + field ≡ folded (suc n + field) + 65535 * q) = folded-quotient (suc n + field) in
    let least : 1 ≤ folded (suc n + field) = folded-least (suc n + field) (omega arith) in
    same_tests (folded (suc n + field)) 65535 field (65535 - folded (suc n))
    (λ e. omega (arith, e, q.1, p.1, folded-most (suc n), small))
    (λ e. omega (arith, e, q.1, p.1, folded-most (suc n), folded-most (suc n + field), least))
