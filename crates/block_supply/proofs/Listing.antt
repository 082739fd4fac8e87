-- Lists of blocks, and passes that know a pool whole.
use Rattle.std.proofs.Common.{◌≡◌, ◌⊎◌, inl, inr, ◌+◌, ◌≤◌, ℕ, List, [], ◌∷◌, ◌++◌, ap, refl, length, arith}
use Rattle.std.specs.List.{sum_by}
use Rattle.std.proofs.lemmas.List.Sums.{sum_by-append, sum_by-cons}
use Rattle.raw_block.specs.Views.{SoleState}
use Rattle.block_pool.specs.Listed.{blocks_in}
use Rattle.block_pool.specs.PassState.{PassState, IsHome}
use Rattle.block_pool.specs.PoolState.{PoolState, home, weighed, MovesAll, MovesLast}
use Rattle.block_supply.specs.Lists.{weights_listed}

none_known : {A : Type 0} (xs : List A) → length xs ≤ 0 → xs ≡ []
none_known [] e = refl
none_known (x ∷ xs) e = absurd (omega (arith, e))

-- no blocks weigh nothing
pub weighed_none : (h : ℕ → ℕ) (bs : List SoleState) → length bs ≡ 0 → weighed h bs ≡ 0
weighed_none h bs none = ap (weighed h) (none_known bs (omega (arith, none)))

-- what is left on a shelf doesn't weigh more than what was on it
pub left_weighs : (h : ℕ → ℕ) (a b c d : PoolState) → MovesAll a b c d ⊎ MovesLast a b c d → weighed h b.blocks ≤ weighed h a.blocks
left_weighs h a b c d (inl all) = omega (arith, ap (weighed h) all.0)
left_weighs h a b c d (inr last) = omega (arith, ap (weighed h) last.1, sum_by-append (λ (s : SoleState). h s.block) b.blocks last.0)

-- by weights of 1 blocks weigh as much as they are
pub ones : {A : Type 0} (xs : List A) → sum_by (λ _. 1) xs ≡ length xs
ones [] = refl
ones (x ∷ xs) = omega (arith, sum_by-cons (λ _. 1) x xs, ones xs)

-- so what came home, by its weights, is also counted
pub home_by_ones : (from to : ℕ) (old new : List SoleState) → weighed (λ _. 1) new + from ≡ weighed (λ _. 1) old + to → length new + from ≡ length old + to
home_by_ones from to old new e = omega (arith, e, ones old, ones new)

abbrev size_of : PoolState → ℕ
size_of p = sum_by (λ _. 1) p.blocks

abbrev weight_of : (ℕ → ℕ) → PoolState → ℕ
weight_of h p = weighed h p.blocks

-- what lists weigh, each block by its name
pub weights_listed_append : (h : ℕ → ℕ) (ps qs : List PoolState) → weights_listed h (ps ++ qs) ≡ weights_listed h ps + weights_listed h qs
weights_listed_append h ps qs = sum_by-append (weight_of h) ps qs

-- one list more
pub weights_listed_last : (h : ℕ → ℕ) (ps : List PoolState) (p : PoolState) → weights_listed h (ps ++ p ∷ []) ≡ weights_listed h ps + weighed h p.blocks
weights_listed_last h ps p = omega (arith, weights_listed_append h ps (p ∷ []), sum_by-cons (weight_of h) p [])

pub listed_last : (ps : List PoolState) (p : PoolState) → blocks_in (ps ++ p ∷ []) ≡ blocks_in ps + home p
listed_last ps p = omega (arith, weights_listed_last (λ _. 1) ps p, ones p.blocks)

-- what was taken was put before
pub taken_least : (p : PassState PoolState) (n : ℕ) → p.made ≡ [] → IsHome p n → blocks_in p.taken ≤ blocks_in p.put
taken_least p n made here = omega (arith, here.2 size_of, ap blocks_in made)

-- and where nothing is home all of it was taken
pub weights_taken_all : (h : ℕ → ℕ) (p : PassState PoolState) (n : ℕ) → n ≡ 0 → p.made ≡ [] → IsHome p n → weights_listed h p.taken ≡ weights_listed h p.put
weights_taken_all h p n none made here =
    let empty : here.0 ≡ [] = none_known here.0 (omega (arith, here.1, none)) in
    omega (arith, here.2 (weight_of h), ap (weights_listed h) made, ap (weights_listed h) empty)
