-- Laws of lists of bytes.
use Rattle.std.proofs.Common.{ℕ, ◌<◌, inl, inr, List, take, sym, subst, arith, length-take}
use Rattle.std.proofs.lemmas.List.{get_or-take, get_or_past}
use Rattle.std.proofs.lemmas.Bool.{cases_lt}
use Rattle.off_io.specs.Content.{InBytes}

pub bytes_take : (n : ℕ) (xs : List ℕ) → InBytes xs → InBytes (take n xs)
bytes_take n xs s k = elim (cases_lt k n) [
  | inl l ↦ subst (λ b. b < 256) (sym (get_or-take n xs k 0 l)) (s k)
  | inr l ↦ subst (λ b. b < 256) (sym (get_or_past (take n xs) k 0 (omega (arith, length-take n xs)))) (omega arith)
]
