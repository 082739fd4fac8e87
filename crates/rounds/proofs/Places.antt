-- What comes home and what is owed, mark by mark.
use Rattle.std.proofs.Common.{◌≡◌, ℕ, zero, suc, ◌+◌, ◌<◌, ◌≤◌, List, [], ◌∷◌, ◌++◌, Bool, true, false, refl, sym, ap, ◌∙◌, subst, length, get_or, set, arith}
use Rattle.raw_block.specs.Views.{Life, ReceiptState, SoleState}
use Rattle.frags.specs.Account.{Account, KeepsBlocks, counted, at_home, every, of_outcomes, of_sole, receipts_held, soles_home}
use Rattle.frags.specs.OutcomesState.{OutcomesState}
use Rattle.frags.proofs.Accounts.{soles_home-append}
use Rattle.frags.specs.RoundAccount.{of_lives}
use Rattle.rounds.specs.Marks.{all, blocks_but, others, IsMarked, IsNamed}
use Rattle.rounds.specs.Table.{place_held, place_missing, place_weight, IsOwed, missing, missing_weight, IsOfLife, Receives}
use Rattle.rounds.specs.declared.mark_table.MarkState.{MarkState}
use Rattle.rounds.specs.declared.mark_table.MarkState.TheVariants.{Open, Home, Owed}

-- the places of a table after one was set
pub missing-set : (ps : List MarkState) (k : ℕ) (q d : MarkState) → k < length ps → missing (set ps k q) + place_missing (get_or ps k d) ≡ missing ps + place_missing q
missing-set [] k q d lt = absurd (omega arith)
missing-set (p ∷ ps) zero q d lt = omega arith
missing-set (p ∷ ps) (suc k) q d lt = let i = missing-set ps k q d (omega arith) in omega arith

pub missing-at : (ps : List MarkState) (k : ℕ) (d : MarkState) → k < length ps → place_missing (get_or ps k d) ≤ missing ps
missing-at [] k d lt = absurd (omega arith)
missing-at (p ∷ ps) zero d lt = omega arith
missing-at (p ∷ ps) (suc k) d lt = let i = missing-at ps k d (omega arith) in omega arith

pub receives-missing : (p : MarkState) (r : ReceiptState) (q : MarkState) → Receives p r q → place_missing q ≡ place_missing p
receives-missing Open r q h = ap place_missing h.0
receives-missing Home r q h = ap place_missing h
receives-missing (Owed x) r q h = ap place_missing h.0

-- the same of what their blocks weigh, each by its mark
pub missing_weight-set : (w : ℕ → ℕ) (k : ℕ) (ps : List MarkState) (i j : ℕ) (q d : MarkState) → i < length ps → j ≡ k + i
    → missing_weight w k (set ps i q) + place_weight (w j) (get_or ps i d) ≡ missing_weight w k ps + place_weight (w j) q
missing_weight-set w k [] i j q d lt at = absurd (omega (arith, lt))
missing_weight-set w k (p ∷ ps) zero j q d lt at =
    let e : k ≡ j = omega (arith, at) in
    let a = ap (λ (n : ℕ). place_weight (w n) p) e in
    let b = ap (λ (n : ℕ). place_weight (w n) q) e in
    omega (arith, a, b)
missing_weight-set w k (p ∷ ps) (suc i) j q d lt at = omega (arith, missing_weight-set w (k + 1) ps i j q d (omega (arith, lt)) (omega (arith, at)))

pub receives-weight : (w : ℕ) (p : MarkState) (r : ReceiptState) (q : MarkState) → Receives p r q → place_weight w q ≡ place_weight w p
receives-weight w Open r q h = ap (place_weight w) h.0
receives-weight w Home r q h = ap (place_weight w) h
receives-weight w (Owed x) r q h = ap (place_weight w) h.0

-- a mark's one block is the Sole's that bears it
is_but : (k b : ℕ) → blocks_but k b ≡ false → b ≡ k
is_but k b h = grind (arith, h)

pub sole_named : (names : ℕ → ℕ) (s : SoleState) → IsNamed names (of_sole s) → names s.mark ≡ s.block
sole_named names s named =
    let h : at_home (blocks_but (names s.mark)) s.mark s.block s.mark ≡ 0 = named.home s.mark in
    sym (is_but (names s.mark) s.block (grind (arith, h)))

-- where no block is made up, each mark's block is the same
pub named_keeps : (names : ℕ → ℕ) (a b : Account) → KeepsBlocks a b → IsNamed names a → IsNamed names b
named_keeps names a b keeps named = record {
  held = λ m. omega (arith, keeps (blocks_but (names m)) m, named.held m, named.home m);
  home = λ m. omega (arith, keeps (blocks_but (names m)) m, named.held m, named.home m);
}

-- of what was given back, whose Soles all have their marks' blocks: the last Sole, and the others
pub named_last : (names : ℕ → ℕ) (o q : OutcomesState) (s : SoleState) → q.receipts ≡ o.receipts → o.soles ≡ q.soles ++ s ∷ []
    → IsNamed names (of_outcomes o) → IsNamed names (of_outcomes q) × IsNamed names (of_sole s)
named_last names o q s receipts soles named =
    let home = λ (m : ℕ). ap (soles_home (blocks_but (names m)) m) soles ∙ soles_home-append (blocks_but (names m)) m q.soles (s ∷ []) in (
      record {
        held = λ m. omega (arith, named.held m, ap (receipts_held (every (blocks_but (names m))) m) receipts);
        home = λ m. omega (arith, named.home m, home m);
      },
      record { held = λ m. refl; home = λ m. omega (arith, named.home m, home m) },
    )

-- where no weight of another life stands, a weight is of the one life
life_is : (l k : Life) → k.block ≡ l.block → k.names.0 ≡ l.names.0 → k.names.1 ≡ l.names.1 → k ≡ l
life_is l k a b c = rw (a, b, c) refl

same_life : (l k : Life) → others l k ≡ false → k ≡ l
same_life l k h = life_is l k (grind (arith, h)) (grind (arith, h)) (grind (arith, h))

life_of : (l k : Life) (m mark w : ℕ) → mark ≡ m → 0 < w → counted (of_lives (others l)) m k mark w ≡ 0 → k ≡ l
life_of l k m mark w e p h = same_life l k (grind (arith, e, p, h))

pub counted_all : (m : ℕ) (l : Life) (w : ℕ) → counted all m l m w ≡ w
counted_all m l w = grind arith

pub of_life : (l : Life) (p : MarkState) (m : ℕ) (r : ReceiptState) → IsOwed m p → r.mark ≡ m → 0 < r.weight
    → place_held (of_lives (others l)) m p + counted (of_lives (others l)) m r.life r.mark r.weight ≡ 0 → IsOfLife p r
of_life l Open m r o e w h = tt
of_life l Home m r o e w h = tt
of_life l (Owed q) m r o e w h =
    let a = life_of l q.life m q.mark q.weight o.0 o.1 (omega (arith, h)) in
    let b = life_of l r.life m r.mark r.weight e w (omega (arith, h)) in
    b ∙ sym a

-- less is marked as well
pub marked_less : (n : ℕ) (a b : Account) → ((f : Life → Bool) (m : ℕ) → b.held (of_lives f) m ≤ a.held (of_lives f) m) → IsMarked n a → IsMarked n b
marked_less n a b le h = record {
  lives = λ m. let l = h.lives m in (l.0, omega (arith, l.1, le (others l.0) m));
  range = λ m some. h.range m (omega (arith, some, le (λ l. true) m));
}

pub marked_at : (n k : ℕ) (a b : Account) → k ≡ n → ((f : Life → Bool) (m : ℕ) → b.held (of_lives f) m ≤ a.held (of_lives f) m) → IsMarked n a → IsMarked k b
marked_at n k a b e le h = subst (λ (i : ℕ). IsMarked i b) (sym e) (marked_less n a b le h)
