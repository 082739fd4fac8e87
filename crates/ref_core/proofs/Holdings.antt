-- Lemmas on the map of holdings: its pairs, its sums, and what an edit does to both.
use Rattle.std.proofs.Common.{◌≡◌, ◌≢◌, ℕ, ◌+◌, ◌<◌, eqb, Bool, true, false, [], ◌∷◌, ◌++◌, refl, sym, subst, ap, ◌∙◌, arith, eq-eqb, ne_eqb, Option, Some, None}
use mathlib.Core.Bool.{cond, not}
use mathlib.Core.List.{map}
use mathlib.Core.Logic.{dite}
use native.Mathlib.Decide.{ℕ_discrete}
use lib.Dec.{T}
use Rattle.std.specs.Prelude.{is_none}
use Rattle.ref_core.specs.SetMachine.{Pairs, block_of, without, holder_count}
use Rattle.ref_core.specs.WeightMachine.{Holdings, holding_of, dropped, with_holding, total_weight, AllLive}
use Rattle.ref_core.specs.declared.weight_machine.Holding.{Holding}

-- cases on a test for equality
pub by_eqb : (P : Bool → Type 0) (a b : ℕ) → (a ≡ b → P true) → (a ≢ b → P false) → P (eqb a b)
by_eqb P a b f g = dite (ℕ_discrete a b) (λ e. subst P (sym (eq-eqb a b e)) (f e)) (λ n. subst P (sym (ne_eqb a b n)) (g n))

-- cases on any test
pub by_test : (P : Bool → Type 0) (c : Bool) → (c ≡ true → P true) → (c ≡ false → P false) → P c
by_test P true f g = f refl
by_test P false f g = g refl

pub same_test : (a b c d : ℕ) → (a ≡ b → c ≡ d) → (c ≡ d → a ≡ b) → eqb a b ≡ eqb c d
same_test a b c d f g = by_eqb (λ y. y ≡ eqb c d) a b (λ e. sym (eq-eqb c d (f e))) (λ n. sym (ne_eqb c d (λ e. n (g e))))

abbrev pub Entry : Type 0
Entry = ℕ × Holding

abbrev pub pair_of : Entry → ℕ × ℕ
pair_of entry = (entry.0, entry.1.block)

abbrev pub pairs_of : Holdings → Pairs
pairs_of ws = map pair_of ws

abbrev pub block_if : Option Holding → Option ℕ
block_if None = None
block_if (Some x) = Some x.block

-- what a holding adds to the sum of the block b
abbrev pub part : ℕ → ℕ → ℕ → ℕ
part b block weight = cond (eqb b block) weight 0

abbrev pub part_if : ℕ → Option Holding → ℕ
part_if b None = 0
part_if b (Some x) = part b x.block x.weight

abbrev pub one_if : ℕ → Option ℕ → ℕ
one_if b None = 0
one_if b (Some c) = cond (eqb b c) 1 0

pub some_is : {x y : Holding} → Some x ≡ Some y → x ≡ y
some_is {x} {y} e = ap (λ (o : Option Holding). or_it o) e
  where
    or_it : Option Holding → Holding
    or_it None = x
    or_it (Some z) = z

pub itself : (b : ℕ) → eqb b b ≡ true
itself b = eq-eqb b b refl

-- ---- the pairs
pub block_is : (h : ℕ) (ws : Holdings) → block_of h (pairs_of ws) ≡ block_if (holding_of h ws)
block_is h [] = refl
block_is h (e ∷ ws) = by_eqb (λ y. cond y (Some e.1.block) (block_of h (pairs_of ws)) ≡ block_if (cond y (Some e.1) (holding_of h ws))) h e.0 (λ _. refl) (λ _. block_is h ws)

pub none_is : (o : Option Holding) → is_none (block_if o) ≡ is_none o
none_is None = refl
none_is (Some x) = refl

pub fresh_is : (h : ℕ) (ws : Holdings) → is_none (block_of h (pairs_of ws)) ≡ is_none (holding_of h ws)
fresh_is h ws = ap is_none (block_is h ws) ∙ none_is (holding_of h ws)

pub dropped_is : (h : ℕ) (ws : Holdings) → pairs_of (dropped h ws) ≡ without h (pairs_of ws)
dropped_is h [] = refl
dropped_is h (e ∷ ws) = by_eqb (λ y. pairs_of (cond y ws (e ∷ dropped h ws)) ≡ cond y (pairs_of ws) (pair_of e ∷ without h (pairs_of ws))) h e.0 (λ _. refl)
    (λ _. ap (λ ps. pair_of e ∷ ps) (dropped_is h ws))

-- a new weight leaves the pairs
pub kept_is : (h v : ℕ) (ws : Holdings) (x : Holding) → holding_of h ws ≡ Some x → pairs_of (with_holding h x.block v ws) ≡ pairs_of ws
kept_is h v [] x e = absurd (subst (λ (o : Option Holding). T (is_none o)) e tt)
kept_is h v (z ∷ ws) x e = by_eqb (λ y. cond y (Some z.1) (holding_of h ws) ≡ Some x → pairs_of (cond y ((z.0, record { block = x.block; weight = v }) ∷ ws) (z ∷ with_holding h x.block v ws))
    ≡ pair_of z ∷ pairs_of ws) h z.0
    (λ _ f. ap (λ (t : Holding). (z.0, t.block) ∷ pairs_of ws) (sym (some_is f))) (λ _ f. ap (λ ps. pair_of z ∷ ps) (kept_is h v ws x f)) e

-- a new holder comes last
pub added_is : (h b v : ℕ) (ws : Holdings) → is_none (holding_of h ws) ≡ true → pairs_of (with_holding h b v ws) ≡ pairs_of ws ++ (h, b) ∷ []
added_is h b v [] e = refl
added_is h b v (z ∷ ws) e = by_eqb (λ y. is_none (cond y (Some z.1) (holding_of h ws)) ≡ true → pairs_of (cond y ((z.0, record { block = b; weight = v }) ∷ ws) (z ∷ with_holding h b v ws)) ≡ pair_of z
    ∷ (pairs_of ws ++ (h, b) ∷ [])) h z.0
    (λ _ f. absurd (subst (λ y. T (not y)) f tt)) (λ _ f. ap (λ ps. pair_of z ∷ ps) (added_is h b v ws f)) e

-- ---- the sums
pub total-dropped : (b h : ℕ) (ws : Holdings) → total_weight b ws ≡ part_if b (holding_of h ws) + total_weight b (dropped h ws)
total-dropped b h [] = refl
total-dropped b h (z ∷ ws) = by_eqb (λ y. part b z.1.block z.1.weight + total_weight b ws ≡ part_if b (cond y (Some z.1) (holding_of h ws)) + total_weight b (cond y ws (z ∷ dropped h ws))) h z.0
    (λ _. refl) (λ _. let r = total-dropped b h ws in omega arith)

pub total-with_holding : (b h c v : ℕ) (ws : Holdings) → total_weight b (with_holding h c v ws) ≡ part b c v + total_weight b (dropped h ws)
total-with_holding b h c v [] = refl
total-with_holding b h c v (z ∷ ws) = by_eqb (λ y. total_weight b (cond y ((z.0, record { block = c; weight = v }) ∷ ws) (z ∷ with_holding h c v ws)) ≡ part b c v
    + total_weight b (cond y ws (z ∷ dropped h ws))) h z.0
    (λ _. refl) (λ _. let r = total-with_holding b h c v ws in omega arith)

pub count-without : (b h : ℕ) (ps : Pairs) → holder_count b ps ≡ one_if b (block_of h ps) + holder_count b (without h ps)
count-without b h [] = refl
count-without b h (p ∷ ps) = by_eqb (λ y. cond (eqb b p.1) 1 0 + holder_count b ps ≡ one_if b (cond y (Some p.1) (block_of h ps)) + holder_count b (cond y ps (p ∷ without h ps))) h p.0
    (λ _. refl) (λ _. let r = count-without b h ps in omega arith)

-- ---- live holdings
abbrev pub IsLive : ℕ → Holding → Type 0
IsLive n x = (0 < x.weight) × (x.block < n)

pub live_found : (n h : ℕ) (ws : Holdings) (x : Holding) → AllLive n ws → holding_of h ws ≡ Some x → IsLive n x
live_found n h [] x p e = absurd (subst (λ (o : Option Holding). T (is_none o)) e tt)
live_found n h (z ∷ ws) x p e = by_eqb (λ y. cond y (Some z.1) (holding_of h ws) ≡ Some x → IsLive n x) h z.0 (λ _ f. subst (IsLive n) (some_is f) (p.0, p.1)) (λ _ f. live_found n h ws x p.2 f) e

pub live_dropped : (n h : ℕ) (ws : Holdings) → AllLive n ws → AllLive n (dropped h ws)
live_dropped n h [] p = tt
live_dropped n h (z ∷ ws) p = by_eqb (λ y. AllLive n (cond y ws (z ∷ dropped h ws))) h z.0 (λ _. p.2) (λ _. (p.0, p.1, live_dropped n h ws p.2))

pub live_with : (n h c v : ℕ) (ws : Holdings) → c < n → 0 < v → AllLive n ws → AllLive n (with_holding h c v ws)
live_with n h c v [] lt pos p = (pos, lt, tt)
live_with n h c v (z ∷ ws) lt pos p = by_eqb (λ y. AllLive n (cond y ((z.0, record { block = c; weight = v }) ∷ ws) (z ∷ with_holding h c v ws))) h z.0 (λ _. (pos, lt, p.2))
    (λ _. (p.0, p.1, live_with n h c v ws lt pos p.2))

-- where all weights are positive, a sum is 0 exactly where nothing is counted
abbrev ones : Bool → ℕ
ones y = cond y 1 0

one_zero : (b c v : ℕ) → 0 < v → (part b c v ≡ 0 → ones (eqb b c) ≡ 0) × (ones (eqb b c) ≡ 0 → part b c v ≡ 0)
one_zero b c v pos = by_eqb (λ y. (cond y v 0 ≡ 0 → ones y ≡ 0) × (ones y ≡ 0 → cond y v 0 ≡ 0)) b c
    (λ _. ((λ (z : v ≡ 0). absurd (omega arith)), λ (z : 1 ≡ 0). absurd (omega arith))) (λ _. ((λ z. refl), λ z. refl))

pub zero_is : (n b : ℕ) (ws : Holdings) → AllLive n ws → (total_weight b ws ≡ 0 → holder_count b (pairs_of ws) ≡ 0) × (holder_count b (pairs_of ws) ≡ 0 → total_weight b ws ≡ 0)
zero_is n b [] p = ((λ _. refl), λ _. refl)
zero_is n b (e ∷ ws) p = let r = zero_is n b ws p.2 in let o = one_zero b e.1.block e.1.weight p.0 in
    ((λ z. let s = r.0 (omega arith) in let t = o.0 (omega arith) in omega arith), λ z. let s = r.1 (omega arith) in let t = o.1 (omega arith) in omega arith)

-- another holder's holding stays
pub found_dropped : (h k : ℕ) (ws : Holdings) → h ≢ k → holding_of h (dropped k ws) ≡ holding_of h ws
found_dropped h k [] n = refl
found_dropped h k (z ∷ ws) n = by_eqb (λ y. holding_of h (cond y ws (z ∷ dropped k ws)) ≡ cond (eqb h z.0) (Some z.1) (holding_of h ws)) k z.0
    (λ e. sym (ap (λ y. cond y (Some z.1) (holding_of h ws)) (ne_eqb h z.0 (λ f. n (f ∙ sym e))))) (λ _. ap (λ o. cond (eqb h z.0) (Some z.1) o) (found_dropped h k ws n))

pub none_of : (o : Option Holding) → is_none o ≡ true → o ≡ None
none_of None e = refl
none_of (Some x) e = absurd (subst (λ y. T (not y)) e tt)
