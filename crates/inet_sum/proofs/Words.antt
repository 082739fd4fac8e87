-- A sum of numbers of 64 bits has the fold of the sum of words.
use Rattle.std.proofs.Common.{◌≡◌, ℕ, ◌+◌, ◌*◌, ◌<◌, ◌≤◌, ◌^◌, inl, inr, List, [], ◌∷◌, length, drop, sym, ap, ◌∙◌, subst, arith}
use Rattle.std.proofs.lemmas.List.{length-drop, drop-drop}
use Rattle.inet_sum.specs.Sum.{word_sum, folded}
use Rattle.inet_sum.specs.Words.{word_of, IsAround}
use Rattle.inet_sum.proofs.Folds.{same_fold}

-- eight bytes more, where no carry is left
apart : (q : List ℕ) (sum next : ℕ) → 8 ≤ length q → next ≡ sum + word_of q
    → folded (256 * next + word_sum (drop 8 q)) ≡ folded (256 * sum + word_sum q)
apart [] sum next h e = absurd (omega arith)
apart (_ ∷ []) sum next h e = absurd (omega arith)
apart (_ ∷ _ ∷ []) sum next h e = absurd (omega arith)
apart (_ ∷ _ ∷ _ ∷ []) sum next h e = absurd (omega arith)
apart (_ ∷ _ ∷ _ ∷ _ ∷ []) sum next h e = absurd (omega arith)
apart (_ ∷ _ ∷ _ ∷ _ ∷ _ ∷ []) sum next h e = absurd (omega arith)
apart (_ ∷ _ ∷ _ ∷ _ ∷ _ ∷ _ ∷ []) sum next h e = absurd (omega arith)
apart (_ ∷ _ ∷ _ ∷ _ ∷ _ ∷ _ ∷ _ ∷ []) sum next h e = absurd (omega arith)
apart (a ∷ b ∷ c ∷ d ∷ m ∷ n ∷ o ∷ p ∷ q) sum next h e =
    same_fold (256 * next + word_sum q) (256 * sum + word_sum (a ∷ b ∷ c ∷ d ∷ m ∷ n ∷ o ∷ p ∷ q)) 0
    (b + 256 * c + 65537 * d + 16777472 * m + 4295032833 * n + 1099528405248 * o + 281479271743489 * p)
    (omega (arith, e)) (λ z. omega (arith, e)) (λ z. omega (arith, e))

-- the carry is worth what it is at the low end
carried : (sum word next rest : ℕ) → 2 ^ 64 < sum + word + 1 → next + 2 ^ 64 ≡ sum + word + 1
    → folded (256 * next + rest) ≡ folded (256 * (sum + word) + rest)
carried sum word next rest over e =
    same_fold (256 * next + rest) (256 * (sum + word) + rest) 72058693566333184 0 (omega (arith, e)) (λ z. omega (arith, e, over)) (λ z. omega (arith, e, over))

-- a loop's step: what was added and what is left have the fold of all
pub words_more : (xs : List ℕ) (i sum next : ℕ) → 8 * i + 8 ≤ length xs → IsAround sum (word_of (drop (8 * i) xs)) next
    → folded (256 * next + word_sum (drop (8 * (i + 1)) xs)) ≡ folded (256 * sum + word_sum (drop (8 * i) xs))
words_more xs i sum next h around =
    let q : List ℕ = drop (8 * i) xs in
    let e : 8 * i + 8 ≡ 8 * (i + 1) = omega arith in
    let behind : drop 8 q ≡ drop (8 * (i + 1)) xs = drop-drop 8 (8 * i) xs ∙ ap (λ z. drop z xs) e in
    let long : 8 ≤ length q = omega (arith, length-drop (8 * i) xs) in
    ap (λ z. folded (256 * next + word_sum z)) (sym behind)
    ∙ elim around [
      | inl s ↦ apart q sum next long s
      | inr s ↦ carried sum (word_of q) next (word_sum (drop 8 q)) s.0 s.1 ∙ apart q sum (sum + word_of q) long (omega arith)
    ]

-- a number that is known by another name
pub around_is : (sum word other next : ℕ) → word ≡ other → IsAround sum word next → IsAround sum other next
around_is sum word other next e a = subst (λ z. IsAround sum z next) e a
