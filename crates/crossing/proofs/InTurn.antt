-- What comes home by several steps, one after the other.
use Rattle.std.proofs.Common.{◌≡◌, ℕ, ◌+◌, ◌∙◌, le_trans, arith}
use Rattle.block_pool.specs.PoolState.{PoolState, weighed}
use Rattle.crossing.specs.declared.arrivals.Arrivals.{Arrivals}
use Rattle.crossing.specs.declared.post.Post.{Ghosts}
use Rattle.crossing.specs.Arriving.{weights_to, Meets}

both : (p q r d e f : ℕ) → q + d ≡ p + e → r + e ≡ q + f → r + d ≡ p + f
both p q r d e f a b = omega (arith, a, b)

pub meets_then : {W : Type 0} {G : Ghosts W} {p q r : PoolState} {d e f : Arrivals W G} → Meets p q d e → Meets q r e f → Meets p r d f
meets_then {p = p} {q = q} {r = r} {d = d} {e = e} {f = f} a b = record {
  named = λ h. both (weighed h p.blocks) (weighed h q.blocks) (weighed h r.blocks) (weights_to d h) (weights_to e h) (weights_to f h) (a.named h) (b.named h);
  same = (b.same.0 ∙ a.same.0, b.same.1 ∙ a.same.1);
  rises = le_trans a.rises b.rises;
  asked = le_trans a.asked b.asked;
}
