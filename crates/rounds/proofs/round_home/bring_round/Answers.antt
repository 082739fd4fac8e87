use Rattle.std.proofs.Common.{◌≡◌, ◌+◌, ◌++◌, ℕ, zero, suc, List, [], ◌∷◌, length, sym, subst, arith}
use Rattle.block_pool.specs.PoolState.{weighed}
use Rattle.frags.specs.Account.{both, of_outcomes}
use Rattle.gro.specs.Slots.{of_packets}
use Rattle.rounds.specs.Lanes.{of_work}
use Rattle.rounds.specs.Marks.{by_marks, IsRound}
use Rattle.rounds.specs.Table.{AllOpen}
use Rattle.rounds.specs.declared.mark_table.MarkState.{MarkState}
use Rattle.rounds.proofs.round_home.bring_round.Goals as goal

pub bring_all-requires-clause-round : goal.bring_all-requires-clause-round
bring_all-requires-clause-round c =
    let a = c.args in
    subst (λ (n : ℕ). IsRound n (both (of_outcomes a.out.now) (both (of_packets a.packets.now.items) (of_work a.lanes.now a.clones.items)))) (sym c.split_at_mut-places.ensures.front_len) c.requires.round

pub returns-clause-named : goal.returns-clause-named
returns-clause-named c = λ names h named.
    subst (λ (n : ℕ). weighed h c.bring_all.new.pool.blocks ≡ weighed h c.args.pool.now.blocks + by_marks (λ m. h (names m)) 0 n) c.split_at_mut-places.ensures.front_len (c.bring_all.ensures.named names h named)

-- open places in front of others that were open
open_beside : (xs ys zs : List MarkState) → length ys ≡ length xs → AllOpen (xs ++ zs) → AllOpen ys → AllOpen (ys ++ zs)
open_beside [] [] zs e h k m = h m
open_beside [] (y ∷ ys) zs e h k m = absurd (omega (arith, e))
open_beside (x ∷ xs) [] zs e h k m = absurd (omega (arith, e))
open_beside (x ∷ xs) (y ∷ ys) zs e h k zero = k zero
open_beside (x ∷ xs) (y ∷ ys) zs e h k (suc m) = open_beside xs ys zs (omega (arith, e)) (λ n. h (suc n)) (λ n. k (suc n)) m

pub returns-clause-open : goal.returns-clause-open
returns-clause-open c =
    let s = c.split_at_mut-places in
    open_beside s.result.0.now c.bring_all.new.places s.result.1.now c.bring_all.ensures.size (subst AllOpen s.ensures.value c.requires.open) c.bring_all.ensures.open
