-- What a call keeps of a round.
use Rattle.std.proofs.Common.{ℕ, arith}
use Rattle.frags.specs.Account.{Account, Keeps}
use Rattle.frags.specs.RoundAccount.{of_lives}
use Rattle.rounds.specs.Marks.{all, IsRound}
use Rattle.rounds.proofs.Places.{marked_less}

-- what a call keeps of a round is a round
pub round_keeps : (n : ℕ) (a b : Account) → Keeps a b → IsRound n a → IsRound n b
round_keeps n a b k r = record {
  marked = marked_less n a b (λ f m. (k (of_lives f) m).0) r.marked;
  whole = λ m lt z.
      let x = k all m in
      let w = r.whole m lt (omega (arith, x.0, x.1, z)) in
      omega (arith, w, x.0, x.1, z);
}
