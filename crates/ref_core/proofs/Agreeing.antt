-- The two machines agree: a step of one is a step of the other, once the weights are forgotten.
use Rattle.std.proofs.Common.{◌≡◌, ◌≢◌, ℕ, ◌+◌, ◌-◌, eqb, Bool, true, false, List, [], ◌∷◌, ◌++◌, refl, sym, subst, ap, ◌∙◌, arith, Option, Some, None, length}
use mathlib.Core.Bool.{cond, ◌&&◌, not}
use lib.Dec.{T, ltb}
use Rattle.std.specs.Prelude.{slice_set, is_none}
use Rattle.ref_core.specs.Memory.{block_size, byte_at}
use Rattle.block_weight.specs.WeightRule.{full_weight}
use Rattle.ref_core.specs.SetMachine as sets
use Rattle.ref_core.specs.SetMachine.{SetState, block_of, without, holder_count, same_block, set_step}
use Rattle.ref_core.specs.WeightMachine as weights
use Rattle.ref_core.specs.WeightMachine.{Holdings, WeightState, IsWeighed, holding_of, dropped, with_holding, total_weight, word_of, can_give, weight_step, first_weights}
use Rattle.ref_core.specs.Agreement.{answers_of, IsNotBadGive, NoBadGive, MachinesAgree}
use Rattle.ref_core.specs.declared.weight_machine.Holding.{Holding}
use Rattle.ref_core.specs.declared.event.Event.{Event}
use Rattle.ref_core.specs.declared.event.Event.TheVariants.{Take, Share, Read, Write, GiveBack, Claim, Join}
use Rattle.ref_core.specs.declared.event.Answer.{Answer}
use Rattle.ref_core.specs.declared.event.Answer.TheVariants.{Done, Byte, Last, Left, Yes, No, BadGive, Unlawful}
use Rattle.ref_core.proofs.Holdings.{by_eqb, by_test, same_test, itself, pairs_of, block_if, part, part_if, one_if, block_is, fresh_is, dropped_is, kept_is, added_is, total-dropped, count-without}
use Rattle.ref_core.proofs.Holdings.{live_dropped, zero_is}
use Rattle.ref_core.proofs.Weighing.{lowered, lowered_fresh, step_weighed, first_weighed}

abbrev forget : WeightState → SetState
forget w = record { pairs = pairs_of w.holdings; memory = w.memory }

-- the two steps lead to states that agree, and answer the same
abbrev Same : SetState × Answer → WeightState × Answer → Type 0
Same s w = (s.0 ≡ forget w.0) × (s.1 ≡ w.1)

module _ (w : WeightState) (i : IsWeighed w) where
  abbrev ws : Holdings
  ws = w.holdings

  abbrev s : SetState
  s = forget w

  stays : (a : Answer) → Same (s, a) (w, a)
  stays a = (refl, refl)

  module _ (h : ℕ) (x : Holding) (e : holding_of h ws ≡ Some x) where
    own_part : part_if x.block (holding_of h ws) ≡ x.weight
    own_part = ap (part_if x.block) e ∙ ap (λ y. cond y x.weight 0) (itself x.block)

    own_one : one_if x.block (block_of h (pairs_of ws)) ≡ 1
    own_one = ap (one_if x.block) (block_is h ws ∙ ap block_if e) ∙ ap (λ y. cond y 1 0) (itself x.block)

    -- a weight is its block's word exactly where its holder is the only one
    alone : eqb (holder_count x.block (pairs_of ws)) 1 ≡ eqb x.weight (word_of w x.block)
    alone = let b = x.block in let t = total-dropped b h ws in let c = count-without b h (pairs_of ws) in let p = own_part in let o = own_one in let sum = i.sums b in
        let same : holder_count b (pairs_of (dropped h ws)) ≡ holder_count b (without h (pairs_of ws)) = ap (holder_count b) (dropped_is h ws) in
        let z = zero_is (length w.words) b (dropped h ws) (live_dropped (length w.words) h ws i.live) in
        same_test (holder_count b (pairs_of ws)) 1 x.weight (word_of w b) (λ f. let r = z.1 (omega arith) in omega arith) (λ f. let r = z.0 (omega arith) in omega arith)

    -- the word that is left is 0 exactly where no holder is left
    over : eqb (holder_count x.block (without h (pairs_of ws))) 0 ≡ eqb (word_of w x.block - x.weight) 0
    over = let b = x.block in let t = total-dropped b h ws in let p = own_part in let sum = i.sums b in
        let same : holder_count b (pairs_of (dropped h ws)) ≡ holder_count b (without h (pairs_of ws)) = ap (holder_count b) (dropped_is h ws) in
        let z = zero_is (length w.words) b (dropped h ws) (live_dropped (length w.words) h ws i.live) in
        same_test (holder_count b (without h (pairs_of ws))) 0 (word_of w b - x.weight) 0 (λ f. let r = z.1 (omega arith) in omega arith) (λ f. let r = z.0 (omega arith) in omega arith)

  open_is : (b : ℕ) → eqb (holder_count b (pairs_of ws)) 0 ≡ eqb (word_of w b) 0
  open_is b = let z = zero_is (length w.words) b ws i.live in let sum = i.sums b in same_test (holder_count b (pairs_of ws)) 0 (word_of w b) 0 (λ f. let r = z.1 f in omega arith)
      (λ f. z.0 (omega arith))

  -- a step that turns on one test
  on_test : (c d : Bool) (p : SetState × Answer) (q : WeightState × Answer) → c ≡ d → (d ≡ true → Same p q) → Same (cond c p (s, Unlawful)) (cond d q (w, Unlawful))
  on_test c d p q same k = subst (λ y. Same (cond y p (s, Unlawful)) (cond d q (w, Unlawful))) (sym same) (by_test (λ y. Same (cond y p (s, Unlawful)) (cond y q (w, Unlawful))) d k
      (λ _. stays Unlawful))

  and_true : (a b : Bool) → (a && b) ≡ true → b ≡ true
  and_true true b e = e
  and_true false b e = absurd (subst (λ y. T (not y)) e tt)

  takes : (b h : ℕ) → Same (sets.taken s b h) (weights.taken w b h)
  takes b h = on_test (sets.can_take s b h) (weights.can_take w b h) _ _ (λ j. ltb b (length w.memory) && open_is b j && fresh_is h ws j)
      (λ t. ((λ j. record { pairs = sym (added_is h b full_weight ws (and_true (ltb b (length w.memory) && eqb (word_of w b) 0) (weights.is_fresh w h) t)) j; memory = w.memory }), refl))

  abbrev Gives : Holding → ℕ → ℕ → ℕ → Bool → WeightState × Answer
  Gives x h k g c = cond c (record w { holdings = with_holding k x.block g (lowered w i h x g) }, Done) (w, BadGive)

  gives_if : (x : Holding) (h k g : ℕ) → holding_of h ws ≡ Some x → is_none (holding_of k ws) ≡ true → (c : Bool)
      → IsNotBadGive (Gives x h k g c).1 → Same (record s { pairs = pairs_of ws ++ (k, x.block) ∷ [] }, Done) (Gives x h k g c)
  gives_if x h k g e fresh false good = absurd good
  gives_if x h k g e fresh true good = (
    (λ j. record {
      pairs = sym (added_is k x.block g (lowered w i h x g) (lowered_fresh w i h k g x e fresh) ∙ ap (λ ps. ps ++ (k, x.block) ∷ [])
          (kept_is h (x.weight - g) ws x e)) j;
      memory = w.memory;
    }),
    refl,
  )

  shares : (o : Option Holding) (h k g : ℕ) → holding_of h ws ≡ o → IsNotBadGive (weights.shared w o h k g).1 → Same (sets.shared s (block_if o) k) (weights.shared w o h k g)
  shares None h k g e good = stays Unlawful
  shares (Some x) h k g e good = subst (λ y. Same (cond y (record s { pairs = pairs_of ws ++ (k, x.block) ∷ [] }, Done) (s, Unlawful)) (weights.shared w (Some x) h k g)) (sym (fresh_is k ws))
      (by_test (λ y. IsNotBadGive (cond y (Gives x h k g (can_give w x.weight g)) (w, Unlawful)).1 → Same (cond y (record s { pairs = pairs_of ws ++ (k, x.block) ∷ [] }, Done) (s, Unlawful))
      (cond y (Gives x h k g (can_give w x.weight g)) (w, Unlawful)))
      (weights.is_fresh w k) (λ t d. gives_if x h k g e t (can_give w x.weight g) d) (λ _ d. stays Unlawful) good)

  reads : (o : Option Holding) (p : ℕ) → Same (sets.read s (block_if o) p) (weights.read w o p)
  reads None p = stays Unlawful
  reads (Some x) p = on_test (ltb p block_size) (ltb p block_size) _ _ refl (λ _. stays (Byte (byte_at w.memory x.block p)))

  writes : (o : Option Holding) (h p v : ℕ) → holding_of h ws ≡ o → Same (sets.written s (block_if o) p v) (weights.written w o p v)
  writes None h p v e = stays Unlawful
  writes (Some x) h p v e = on_test (ltb p block_size && eqb (holder_count x.block (pairs_of ws)) 1) (ltb p block_size && eqb x.weight (word_of w x.block)) _ _
      (ap (λ y. ltb p block_size && y) (alone h x e)) (λ _. (refl, refl))

  gives_back : (o : Option Holding) (h : ℕ) → holding_of h ws ≡ o → Same (sets.given_back s (block_if o) h) (weights.given_back w o h)
  gives_back None h e = stays Unlawful
  gives_back (Some x) h e = ((λ j. record { pairs = sym (dropped_is h ws) j; memory = w.memory }), ap (λ y. cond y Last Left) (over h x e))

  claims : (o : Option Holding) (h : ℕ) → holding_of h ws ≡ o → Same (sets.claimed s (block_if o)) (weights.claimed w o h)
  claims None h e = stays Unlawful
  claims (Some x) h e = subst (λ y. Same (s, cond y Yes No) (weights.claimed w (Some x) h)) (sym (alone h x e))
      (by_test (λ y. Same (s, cond y Yes No) (cond y (record w { holdings = with_holding h x.block full_weight ws; words = slice_set w.words x.block full_weight }, Yes) (w, No)))
      (eqb x.weight (word_of w x.block))
      (λ _. ((λ j. record { pairs = sym (kept_is h full_weight ws x e) j; memory = w.memory }), refl)) (λ _. stays No))

  found_other : (h k : ℕ) (x : Holding) → h ≢ k → holding_of h ws ≡ Some x → holding_of h (dropped k ws) ≡ Some x
  found_other h k x apart e = Rattle.ref_core.proofs.Holdings.found_dropped h k ws apart ∙ e

  apart_of : (h k : ℕ) → not (eqb h k) ≡ true → h ≢ k
  apart_of h k = by_eqb (λ y. not y ≡ true → h ≢ k) h k (λ _ f. absurd (subst (λ y. T (not y)) f tt)) (λ d _. d)

  none_both : (c : Bool) → (c && false) ≡ false
  none_both true = refl
  none_both false = refl

  and_first : (a b : Bool) → (a && b) ≡ true → a ≡ true
  and_first true b e = refl
  and_first false b e = absurd (subst (λ y. T (not y)) e tt)

  abbrev Joins : ℕ → Bool → SetState × Answer
  Joins k c = cond c (record s { pairs = without k (pairs_of ws) }, Done) (s, Unlawful)

  joins : (x y : Option Holding) (h k : ℕ) → holding_of h ws ≡ x → holding_of k ws ≡ y → Same (Joins k (not (eqb h k) && same_block (block_if x) (block_if y))) (weights.joined w x y h k)
  joins None y h k e f = subst (λ c. Same (Joins k c) (w, Unlawful)) (sym (none_both (not (eqb h k)))) (stays Unlawful)
  joins (Some x) None h k e f = subst (λ c. Same (Joins k c) (w, Unlawful)) (sym (none_both (not (eqb h k)))) (stays Unlawful)
  joins (Some x) (Some y) h k e f = on_test (not (eqb h k) && eqb x.block y.block) (not (eqb h k) && eqb x.block y.block) _ _ refl
      (λ t. let apart = apart_of h k (and_first (not (eqb h k)) (eqb x.block y.block) t) in (
        (λ j. record {
          pairs = sym (kept_is h (x.weight + y.weight) (dropped k ws) x
              (found_other h k x apart e) ∙ dropped_is k ws) j;
          memory = w.memory;
        }),
        refl,
      ))

  steps : (event : Event) → IsNotBadGive (weight_step w event).1 → Same (set_step s event) (weight_step w event)
  steps (Take b h) good = takes b h
  steps (Share h k g) good = subst (λ o. Same (sets.shared s o k) (weight_step w (Share h k g))) (sym (block_is h ws)) (shares (holding_of h ws) h k g refl good)
  steps (Read h p) good = subst (λ o. Same (sets.read s o p) (weight_step w (Read h p))) (sym (block_is h ws)) (reads (holding_of h ws) p)
  steps (Write h p v) good = subst (λ o. Same (sets.written s o p v) (weight_step w (Write h p v))) (sym (block_is h ws)) (writes (holding_of h ws) h p v refl)
  steps (GiveBack h) good = subst (λ o. Same (sets.given_back s o h) (weight_step w (GiveBack h))) (sym (block_is h ws)) (gives_back (holding_of h ws) h refl)
  steps (Claim h) good = subst (λ o. Same (sets.claimed s o) (weight_step w (Claim h))) (sym (block_is h ws)) (claims (holding_of h ws) h refl)
  steps (Join h k) good = subst (λ o. Same (Joins k (not (eqb h k) && same_block o (block_of k (pairs_of ws)))) (weight_step w (Join h k))) (sym (block_is h ws))
      (subst (λ o. Same (Joins k (not (eqb h k) && same_block (block_if (holding_of h ws)) o)) (weight_step w (Join h k))) (sym (block_is k ws))
      (joins (holding_of h ws) (holding_of k ws) h k refl refl))

-- whole runs
runs : (w : WeightState) → IsWeighed w → (events : List Event) → NoBadGive (answers_of weight_step w events) → answers_of set_step (forget w) events ≡ answers_of weight_step w events
runs w i [] good = refl
runs w i (event ∷ events) good = let r = steps w i event good.0 in
    (λ j. r.1 j ∷ answers_of set_step (r.0 j) events) ∙ ap (λ rest. (weight_step w event).1 ∷ rest) (runs (weight_step w event).0 (step_weighed w i event) events good.1)

pub machines_agree : MachinesAgree
machines_agree blocks events good = runs (first_weights blocks) (first_weighed blocks) events good
