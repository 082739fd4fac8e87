-- What clones hold goes over to outcomes, the last clone first.
use Rattle.std.proofs.Common.{◌≡◌, ℕ, ◌+◌, List, [], ◌∷◌, ◌++◌, Bool, ap, ◌∙◌, arith}
use Rattle.frags.specs.OutcomesState.{OutcomesState}
use Rattle.frags.specs.Account.{Account, Tests, Keeps, KeepsBlocks, every, both, of_outcomes}
use Rattle.skb.specs.SkbState.{of_buffer}
use Rattle.taps.specs.declared.clones.TapClone.{TapClone}
use Rattle.taps.specs.Clones.{blocks_of, of_clones}

pub blocks_of-append : (cs ds : List TapClone) → blocks_of (cs ++ ds) ≡ blocks_of cs + blocks_of ds
blocks_of-append [] ds = omega arith
blocks_of-append (c ∷ cs) ds = omega (arith, blocks_of-append cs ds)

held-append : (t : Tests) (m : ℕ) (cs ds : List TapClone)
    → (of_clones (cs ++ ds)).held t m ≡ (of_clones cs).held t m + (of_clones ds).held t m
held-append t m [] ds = omega arith
held-append t m (c ∷ cs) ds = omega (arith, held-append t m cs ds)

homes-append : (bs : ℕ → Bool) (m : ℕ) (cs ds : List TapClone) → (of_clones (cs ++ ds)).homes bs m ≡ (of_clones cs).homes bs m + (of_clones ds).homes bs m
homes-append bs m [] ds = omega arith
homes-append bs m (c ∷ cs) ds = omega (arith, homes-append bs m cs ds)

-- the last clone goes, its blocks to the outcomes
pub keeps_pop : (s : Account) (c : TapClone) (cs ds : List TapClone) (o q : OutcomesState)
    → cs ≡ ds ++ c ∷ []
    → Keeps s (both (of_clones cs) (of_outcomes o))
    → Keeps (both (of_buffer c.skb) (of_outcomes o)) (of_outcomes q)
    → Keeps s (both (of_clones ds) (of_outcomes q))
keeps_pop s c cs ds o q e h k t m =
    let d = ap (λ z. (of_clones z).held t m) e ∙ held-append t m ds (c ∷ []) in
    let i = ap (λ z. (of_clones z).homes t.blocks m) e ∙ homes-append t.blocks m ds (c ∷ []) in
    let f = h t m in
    let g = k t m in
    (omega arith, omega arith)

pub blocks_pop : (s : Account) (c : TapClone) (cs ds : List TapClone) (o q : OutcomesState)
    → cs ≡ ds ++ c ∷ []
    → KeepsBlocks s (both (of_clones cs) (of_outcomes o))
    → KeepsBlocks (both (of_buffer c.skb) (of_outcomes o)) (of_outcomes q)
    → KeepsBlocks s (both (of_clones ds) (of_outcomes q))
blocks_pop s c cs ds o q e h k bs m =
    let d = ap (λ z. (of_clones z).held (every bs) m) e ∙ held-append (every bs) m ds (c ∷ []) in
    let i = ap (λ z. (of_clones z).homes bs m) e ∙ homes-append bs m ds (c ∷ []) in
    omega (arith, h bs m, k bs m, d, i)
