-- Who gives nothing, who gives twice, and how many blocks that is.
use Rattle.std.proofs.Common.{◌≡◌, ℕ, ◌+◌, ◌≤◌, ◌⊎◌, inl, inr, refl, ap, ◌∙◌, subst, arith}
use Rattle.std.specs.Prelude.{Option, None, Some}
use Rattle.block_pool.specs.PoolState.{home}
use Rattle.block_pool.specs.Giving.{GiverState, given_in, lying, Gave, GaveAll, LeavesNone, MayGive}
use Rattle.block_pool.proofs.Totals.{count_by_ones}

-- by the weight 1 what lies there is counted
pub count_lying : (g : GiverState) → lying (λ _. 1) g ≡ given_in g + home g.list
count_lying g = ap (λ n. given_in g + n) (count_by_ones g.list.blocks)

-- no list grows
pub gave_less : (g k : GiverState) → Gave g k → home k.list ≤ home g.list
gave_less g k a = omega (arith, count_lying g, count_lying k, a.blocks (λ _. 1), a.least (λ _. 1))

pub gave_nothing : (g : GiverState) → Gave g g
gave_nothing g = record { pool = refl; pass = (refl, refl, refl); blocks = λ h. refl; least = λ h. omega arith; fulls = omega arith }

pub gave_twice : (x y z : GiverState) → Gave x y → Gave y z → Gave x z
gave_twice x y z a b = record {
  pool = b.pool ∙ a.pool;
  pass = (b.pass.0 ∙ a.pass.0, b.pass.1 ∙ a.pass.1, b.pass.2 ∙ a.pass.2);
  blocks = λ h. b.blocks h ∙ a.blocks h;
  least = λ h. omega (arith, a.least h, b.least h);
  fulls = omega (arith, a.fulls, b.fulls);
}

pub may_give_nothing : (x : Option GiverState) → MayGive x x
may_give_nothing None = refl
may_give_nothing (Some g) = (g, refl, gave_nothing g)

pub may_give_twice : (x y z : Option GiverState) → MayGive x y → MayGive y z → MayGive x z
may_give_twice None y z a b = subst (λ u. MayGive u z) a b
may_give_twice (Some g) y z a b =
    let m : MayGive (Some a.0) z = subst (λ u. MayGive u z) a.1 b in
    (m.0, m.1, gave_twice g a.0 m.0 a.2 m.2)

-- ---- nothing is left

-- whatever it gave before
pub gave_all_behind : (x y z : GiverState) → Gave x y → GaveAll y z → GaveAll x z
gave_all_behind x y z a (inl none) = inl none
gave_all_behind x y z a (inr full) = inr (omega (arith, a.fulls, full))

pub leaves_none_behind : (x y z : Option GiverState) → MayGive x y → LeavesNone y z → LeavesNone x z
leaves_none_behind None y z a b = subst (λ u. LeavesNone u z) a b
leaves_none_behind (Some g) y z a b =
    let m : LeavesNone (Some a.0) z = subst (λ u. LeavesNone u z) a.1 b in
    (m.0, m.1, gave_all_behind g a.0 m.0 a.2 m.2)
