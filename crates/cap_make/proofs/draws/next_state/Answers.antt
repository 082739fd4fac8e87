use Rattle.std.proofs.Common.{◌≡◌, ℕ, ◌+◌, ◌*◌, ◌%◌, ap, ◌∙◌}
use Rattle.std.proofs.Math.Nat.{mod-add-mod, mul_comm}
use Rattle.cap_make.specs.Draws.{next_state}
use Rattle.cap_make.proofs.draws.next_state.Goals as goal

stepped : (x a b m : ℕ) → (x * a % m + b) % m ≡ (a * x + b) % m
stepped x a b m = mod-add-mod (x * a) m b ∙ ap (λ z. (z + b) % m) (mul_comm x a)

pub returns : goal.returns
unfolding next_state
returns c = record { next = stepped c.args.state 6364136223846793005 1442695040888963407 18446744073709551616 }
