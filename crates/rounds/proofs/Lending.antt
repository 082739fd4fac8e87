-- A giver that is lent for a round: what goes by it, and that it comes back.
use Rattle.std.proofs.Common.{◌≡◌, ℕ, ◌+◌, ◌≤◌, ◌⊎◌, inl, inr, List, [], ◌∷◌, length, Option, None, Some, refl, sym, ap, ◌∙◌, subst, arith}
use Rattle.std.specs.Prelude.{true, false, IfOk, IsOk, OnOk, Result, Ok, Err}
use Rattle.raw_block.specs.Views.{SoleState}
use Rattle.block_pool.specs.Giving.{GiverState, Gave, LeavesNone, MayGive, given_by, given_in, weights_given}
use Rattle.block_pool.proofs.Giving.{count_lying}
use Rattle.block_pool.specs.PassState.{risen, IsSame}
use Rattle.block_pool.specs.PoolState.{PoolState, home, weighed}
use Rattle.rounds.specs.Benches.{fulls_by, BringsBeside, Brings, GivesSpares, IsLent, LeavesNoSpare, Lends, MayBring, Swaps}
use Rattle.rounds.specs.RoundsState.{BenchState, WorkedState}

-- a round's spares went to the giver's list, some were given, and what is left came back
pub record Went (old new : Option GiverState) (before after : PoolState) : Type 0 where
  pub count : home after + given_by new ≡ home before + given_by old
  pub named : (h : ℕ → ℕ) → weighed h after.blocks + weights_given new h ≡ weighed h before.blocks + weights_given old h
  pub fewer : home after ≤ home before
  pub lends : Lends old new

with_list : (g g' g'' : GiverState) (s t u : PoolState) → home g.list ≡ 0 → t ≡ g.list → Gave (record g { list = s }) g' → g'' ≡ record g' { list = t } → u ≡ g'.list → Went (Some g) (Some g'') s u
with_list g g' g'' s t u none is gave back left =
    let blocks = gave.blocks (λ _. 1) in
    let least = gave.least (λ _. 1) in
    let lying = count_lying (record g { list = s }) in
    let now = count_lying g' in
    let given : given_in g'' ≡ given_in g' = ap given_in back in
    record {
      count = omega (arith, blocks, lying, now, ap home left, given);
      named = λ h.
          let w : SoleState → ℕ = λ s. h s.block in
          omega (arith, gave.blocks w, ap (λ (z : PoolState). weighed h z.blocks) left, ap (λ (z : GiverState). weights_given (Some z) h) back);
      fewer = omega (arith, blocks, least, lying, now, ap home left);
      lends = (
        g'',
        refl,
        record {
          pool = ap (λ (z : GiverState). z.pool) back ∙ gave.pool;
          pass = subst (λ (z : GiverState). IsSame g.pass z.pass) (sym back) gave.pass;
          none = omega (arith, ap (λ (z : GiverState). home z.list) back, ap home is, none);
          least = omega (arith, least, given);
          fulls = omega (arith, gave.fulls, ap (λ (z : GiverState). z.pass.fulls) back);
        },
      );
    }

pub went : (a b c d : Option GiverState) (s t u : PoolState) → IsLent a → Swaps a b s t → MayGive b c → Swaps c d t u → Went a d s u
went None b c d s t u lent to gives back =
    let none : c ≡ None = subst (λ z. MayGive z c) to.0 gives in
    let out = subst (λ z. Swaps z d t u) none back in
    subst (λ z. Went None z s u) (sym out.0) (record {
      count = omega (arith, ap home out.1, ap home to.1);
      named = λ h. omega (arith, ap (λ (z : PoolState). weighed h z.blocks) (out.1 ∙ to.1));
      fewer = omega (arith, ap home out.1, ap home to.1);
      lends = refl;
    })
went (Some g) b c d s t u lent to gives back =
    let gave = subst (λ z. MayGive z c) to.0 gives in
    let out = subst (λ z. Swaps z d t u) gave.1 back in
    subst (λ z. Went (Some g) z s u) (sym out.0) (with_list g gave.0 (record gave.0 { list = t }) s t u lent to.1 gave.2 refl out.1)

-- ---- no spare stays with the round

no_block : (blocks : List SoleState) → length blocks ≡ 0 → blocks ≡ []
no_block [] e = refl
no_block (s ∷ blocks) e = absurd (omega (arith, e))

none_stays : (old now : GiverState) (u : PoolState) → u ≡ now.list → (home now.list ≡ 0) ⊎ (risen old.pass.fulls ≤ now.pass.fulls)
    → (u.blocks ≡ []) ⊎ (risen old.pass.fulls ≤ now.pass.fulls)
none_stays old now u e (inl none) = inl (no_block u.blocks (ap home e ∙ none))
none_stays old now u e (inr full) = inr full

pub leaves_no_spare : (a b c d : Option GiverState) (s t u : PoolState) → Swaps a b s t → LeavesNone b c → Swaps c d t u → LeavesNoSpare a d u.blocks
leaves_no_spare None b c d s t u to none back = tt
leaves_no_spare (Some g) b c d s t u to none back =
    let left : LeavesNone (Some (record g { list = s })) c = subst (λ z. LeavesNone z c) to.0 none in
    let out : Swaps (Some left.0) d t u = subst (λ z. Swaps z d t u) left.1 back in
    (record left.0 { list = t }, out.0, none_stays (record g { list = s }) left.0 u out.1 left.2)

-- so that all of a round's spares were given, n of them
spares_gone : (n : ℕ) (g g' : GiverState) (d : Option GiverState) (before after : PoolState) → home after + given_by d ≡ home before + given_in g → home before ≡ n → d ≡ Some g'
    → (after.blocks ≡ []) ⊎ (risen g.pass.fulls ≤ g'.pass.fulls) → GivesSpares n (Some g) d
spares_gone n g g' d before after count size is (inl none) = inl (omega (arith, count, size, ap (λ (z : List SoleState). length z) none))
spares_gone n g g' d before after count size is (inr full) = inr (omega (arith, full, ap fulls_by is))

pub gives_spares : (n : ℕ) (g d : Option GiverState) (before after : PoolState) → home after + given_by d ≡ home before + given_by g → home before ≡ n → LeavesNoSpare g d after.blocks → GivesSpares n g d
gives_spares n None d before after count size left = tt
gives_spares n (Some g) d before after count size left = spares_gone n g left.0 d before after count size left.1 left.2

-- what is said of spares where the lanes are done holds of those of the round that was worked
pub of_worked : {D E F : Type 0} (done : Result D E) (result : Result WorkedState F) (spares : List SoleState) (P : List SoleState → Type 0)
    → IfOk result (λ worked. IsOk done × (worked.spares ≡ spares)) → OnOk done (P spares) → IfOk result (λ worked. P worked.spares)
of_worked (Ok d) (Ok worked) spares P is holds = subst P (sym is.1) holds
of_worked (Err e) (Ok worked) spares P is holds = absurd (let off : false ≡ true = is.0 in cc)
of_worked done (Err f) spares P is holds = tt

pub on_ok : {D E : Type 0} {P Q : Type 0} (done : Result D E) → (P → Q) → OnOk done P → OnOk done Q
on_ok (Ok d) step holds = step holds
on_ok (Err e) step holds = tt

-- what was given stays given
pub given_least : (old new : Option GiverState) → Lends old new → given_by old ≤ given_by new
given_least None new h = omega arith
given_least (Some g) new h = omega (arith, ap given_by h.1, h.2.least)

-- ---- a round, of which blocks went to others, that comes home

-- by other weights that are the same
pub brings_same : (n : ℕ) (v w : (ℕ → ℕ) → ℕ) (old new : BenchState) (p q : PoolState) → ((h : ℕ → ℕ) → v h ≡ w h) → Brings n v old new p q → Brings n w old new p q
brings_same n v w old new p q same brings = record {
  count = brings.count;
  named = λ h. omega (arith, brings.named h, same h);
  made = brings.made;
  taken = brings.taken;
  room = brings.room;
  same = brings.same;
}

pub may_less : (m n : ℕ) (bench : BenchState) (pool : PoolState) → m ≤ n → MayBring n bench pool → MayBring m bench pool
may_less m n bench pool le may = record { out = omega (arith, le, may.out); few = omega (arith, le, may.few); room = omega (arith, le, may.room) }

-- m blocks of it came home
pub brings_rest : (m n : ℕ) (v w : (ℕ → ℕ) → ℕ) (old new : BenchState) (p q : PoolState) (g g' : Option GiverState) → m + given_by g' ≡ n + given_by g
    → ((h : ℕ → ℕ) → v h + weights_given g' h ≡ w h + weights_given g h) → Brings m v old new p q → BringsBeside n w old new p q g g'
brings_rest m n v w old new p q g g' sum named brings = record {
  count = omega (arith, brings.count, sum);
  named = λ h. omega (arith, brings.named h, named h);
  made = brings.made;
  taken = brings.taken;
  room = omega (arith, brings.room, brings.count);
  same = brings.same;
}
