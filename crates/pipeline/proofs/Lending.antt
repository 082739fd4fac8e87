-- A giver that is lent, and comes back, and what it leaves on a list.
use Rattle.std.proofs.Common.{ℕ, ◌≡◌, ◌+◌, ◌-◌, ◌^◌, ◌≤◌, ◌⊎◌, inl, inr, min, ◌∙◌, Option, None, Some, refl, sym, ap, subst, arith}
use Rattle.block_pool.specs.Giving.{GiverState, given_by, weights_given}
use Rattle.block_pool.specs.PassState.{risen, SharedState}
use Rattle.block_pool.specs.PoolState.{PoolState, home}
use Rattle.rounds.specs.Benches.{fulls_by, GivesSpares, IsLent, Lends, UnlessFull}
use Rattle.rounds.specs.declared.spares.Spares.{Spares}
use Rattle.rounds.specs.Handled.{GaveSpares}
use Rattle.block_supply.proofs.Listing.{ones}
use Rattle.block_supply.specs.Lists.{HasGiver}
use Rattle.pipeline.specs.Parcels.{CountsSpares, IsLeft, Returns}

pub lends_same : (g : Option GiverState) → IsLent g → Lends g g
lends_same None lent = refl
lends_same (Some g) lent = (g, refl, record { pool = refl; pass = (refl, refl, refl); none = lent; least = omega arith; fulls = omega arith })

pub lends_then : (old mid new : Option GiverState) → Lends old mid → Lends mid new → Lends old new
lends_then None mid new a b = subst (λ (g : Option GiverState). Lends g new) a b
lends_then (Some g) mid new a b =
    let c : Lends (Some a.0) new = subst (λ (x : Option GiverState). Lends x new) a.1 b in (
      c.0,
      c.1,
      record {
        pool = c.2.pool ∙ a.2.pool;
        pass = (c.2.pass.0 ∙ a.2.pass.0, c.2.pass.1 ∙ a.2.pass.1, c.2.pass.2 ∙ a.2.pass.2);
        none = c.2.none;
        least = omega (arith, a.2.least, c.2.least);
        fulls = omega (arith, a.2.fulls, c.2.fulls);
      },
    )

-- it may be lent again
pub lent_again : (old new : Option GiverState) → Lends old new → IsLent new
lent_again None new a = subst IsLent (sym a) tt
lent_again (Some g) new a = subst IsLent (sym a.1) a.2.none

pub giver_back : (pool : SharedState) (old new : Option GiverState) → HasGiver pool old → Lends old new → HasGiver pool new
giver_back pool old new has lends =
    let a : Lends (Some has.it) new = subst (λ (g : Option GiverState). Lends g new) has.is lends in
    record { it = a.0; is = a.1; pool_is = a.2.pool ∙ has.pool_is; parts = a.2.pass.2 ∙ has.parts; none = a.2.none }

-- what it gave it gave
pub given_least : (old new : Option GiverState) → Lends old new → given_by old ≤ given_by new
given_least None new lends = omega arith
given_least (Some g) new lends = omega (arith, lends.2.least, ap given_by lends.1)

-- by weights of 1 that is how many blocks
pub given_ones : (g : Option GiverState) → weights_given g (λ _. 1) ≡ given_by g
given_ones None = refl
given_ones (Some g) = refl

-- ---- what goes back by it

pub returns_fewer : (old new : Option GiverState) (list list' : PoolState) → Returns old new list list' → home list' ≤ home list
returns_fewer old new list list' r = omega (arith, r.named (λ _. 1), ones list.blocks, ones list'.blocks, given_ones old, given_ones new, given_least old new r.gave)

-- ---- what is left

fulls_lent : (old new : Option GiverState) → Lends old new → min (fulls_by old) (2 ^ 64 - 1) ≤ fulls_by new
fulls_lent None new lends = omega arith
fulls_lent (Some g) new lends = omega (arith, lends.2.fulls, ap fulls_by lends.1)

pub left_few : (n : ℕ) (list : PoolState) (old new : Option GiverState) → home list ≤ n → IsLeft n list old new
left_few n list None new few = tt
left_few n list (Some g) new few = inl few

-- by a giver that was lent before, and lent again
unless_both : (P Q R : Type 0) (old mid new : Option GiverState) → Lends old mid → Lends mid new → (P → Q → R) → UnlessFull old mid P → UnlessFull mid new Q → UnlessFull old new R
unless_both P Q R None mid new a b both p q = tt
unless_both P Q R (Some g) mid new a b both p q = by_mid p (subst (λ (z : Option GiverState). UnlessFull z new Q) a.1 q)
  where
    by_mid : P ⊎ (risen g.pass.fulls ≤ fulls_by mid) → Q ⊎ (risen a.0.pass.fulls ≤ fulls_by new) → R ⊎ (risen g.pass.fulls ≤ fulls_by new)
    by_mid (inl x) (inl y) = inl (both x y)
    by_mid (inl x) (inr full) = inr (omega (arith, full, a.2.fulls))
    by_mid (inr full) y = inr (omega (arith, full, fulls_lent mid new b))

-- by one that was lent before
pub left_then : (n : ℕ) (list : PoolState) (old mid new : Option GiverState) → Lends old mid → IsLeft n list mid new → IsLeft n list old new
left_then n list None mid new lends left = tt
left_then n list (Some g) mid new lends left = by_mid (subst (λ (z : Option GiverState). IsLeft n list z new) lends.1 left)
  where
    by_mid : (home list ≤ n) ⊎ (risen lends.0.pass.fulls ≤ fulls_by new) → (home list ≤ n) ⊎ (risen g.pass.fulls ≤ fulls_by new)
    by_mid (inl few) = inl few
    by_mid (inr full) = inr (omega (arith, full, lends.2.fulls))

-- by one that is lent again, where what holds becomes another
unless_again : (P Q : Type 0) (old mid new : Option GiverState) → Lends mid new → (P → Q) → UnlessFull old mid P → UnlessFull old new Q
unless_again P Q None mid new lends more left = tt
unless_again P Q (Some g) mid new lends more (inl holds) = inl (more holds)
unless_again P Q (Some g) mid new lends more (inr full) = inr (omega (arith, full, fulls_lent mid new lends))

pub left_again : (n m : ℕ) (list list' : PoolState) (old mid new : Option GiverState) → Lends mid new → (home list ≤ n → home list' ≤ m) → IsLeft n list old mid → IsLeft m list' old new
left_again n m list list' = unless_again (home list ≤ n) (home list' ≤ m)

-- ---- spares

unless_holds : (P : Type 0) (old new : Option GiverState) → P → UnlessFull old new P
unless_holds P None new holds = tt
unless_holds P (Some g) new holds = inl holds

pub counts_none : (n : ℕ) (spares : Spares) (old new : Option GiverState) → n ≡ 0 → CountsSpares n spares spares old new
counts_none n spares old new none = record {
  counted = omega (arith, none);
  least = omega arith;
  gave = unless_holds (min (spares.given + (spares.lent - spares.lent)) (2 ^ 64 - 1) ≤ spares.given) old new (omega arith);
  refused = refl;
}

-- by a giver that is lent again, of as many rounds or fewer
pub counts_again : (m n : ℕ) (from to : Spares) (old mid new : Option GiverState) → m ≤ n → Lends mid new → CountsSpares n from to old mid → CountsSpares m from to old new
counts_again m n from to old mid new few lends c = record {
  counted = omega (arith, few, c.counted);
  least = c.least;
  gave = unless_again (min (from.given + (to.lent - from.lent)) (2 ^ 64 - 1) ≤ to.given) (min (from.given + (to.lent - from.lent)) (2 ^ 64 - 1) ≤ to.given) old mid new lends (λ gave. gave) c.gave;
  refused = c.refused;
}

-- one round more, of `lent` spares, `gone` of whose blocks went
pub counts_more : (n lent gone : ℕ) (from at to : Spares) (old mid new : Option GiverState) → Lends old mid → Lends mid new → gone + given_by mid ≡ given_by new → CountsSpares n from at old mid
    → GivesSpares lent mid new → to ≡ record { lent = min (at.lent + lent) (2 ^ 64 - 1); given = min (at.given + gone) (2 ^ 64 - 1); refused = at.refused } → at.lent ≤ to.lent → CountsSpares (n + lent) from to old new
counts_more n lent gone from at to old mid new a b went c gives is later =
    let now : to.lent ≡ min (at.lent + lent) (2 ^ 64 - 1) = ap (λ (s : Spares). s.lent) is in
    let more : to.given ≡ min (at.given + gone) (2 ^ 64 - 1) = ap (λ (s : Spares). s.given) is in
    record {
      counted = omega (arith, c.counted, now);
      least = omega (arith, c.least, later);
      gave = unless_both (min (from.given + (at.lent - from.lent)) (2 ^ 64 - 1) ≤ at.given) (given_by mid + lent ≤ given_by new) (min (from.given + (to.lent - from.lent)) (2 ^ 64 - 1) ≤ to.given) old mid new a b
          (λ x y. omega (arith, x, y, went, now, more, c.least)) c.gave gives;
      refused = ap (λ (s : Spares). s.refused) is ∙ c.refused;
    }

-- once both sides have ended, and what found no place is counted
pub gave_home : (n : ℕ) (from at to : Spares) (g : GiverState) (new : Option GiverState) → CountsSpares n from at (Some g) new → to ≡ record at { refused = min (at.refused + fulls_by new) (2 ^ 64 - 1) }
    → at.refused ≤ to.refused → GaveSpares from to
gave_home n from at to g new c is later = record {
  lent = omega (arith, c.least, ap (λ (s : Spares). s.lent) is);
  gave = by_puts c.gave;
  refused = omega (arith, later, c.refused);
}
  where
    by_puts : (min (from.given + (at.lent - from.lent)) (2 ^ 64 - 1) ≤ at.given) ⊎ (risen g.pass.fulls ≤ fulls_by new)
        → (min (from.given + (to.lent - from.lent)) (2 ^ 64 - 1) ≤ to.given) ⊎ (risen from.refused ≤ to.refused)
    by_puts (inl gave) = inl (omega (arith, gave, ap (λ (s : Spares). s.lent) is, ap (λ (s : Spares). s.given) is))
    by_puts (inr full) = inr (omega (arith, full, c.refused, ap (λ (s : Spares). s.refused) is))
