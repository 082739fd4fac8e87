-- Each step of the weight machine keeps that the words are the sums of the weights.
use Rattle.std.proofs.Common.{◌≡◌, ◌≢◌, ℕ, zero, suc, ◌+◌, ◌-◌, ◌<◌, ◌≤◌, eqb, Bool, true, false, List, refl, sym, subst, ap, ◌∙◌, arith, ne_eqb, Option, Some, None, length}
use mathlib.Core.Bool.{cond, ◌&&◌, not}
use lib.Dec.{T, ltb}
use Rattle.std.proofs.lemmas.Bool.{ltb-true, eqb-true}
use Rattle.std.proofs.lemmas.List.{get_or-set_same, get_or-set_other, length-set, length-replicate}
use Rattle.std.specs.Prelude.{slice_index, slice_set, is_none, replicate}
use Rattle.ref_core.specs.Memory.{block_size, byte_at, with_byte}
use Rattle.ref_core.specs.SetMachine.{block_of}
use Rattle.ref_core.specs.declared.event.Event.{Event}
use Rattle.ref_core.specs.declared.event.Event.TheVariants.{Take, Share, Read, Write, GiveBack, Claim, Join}
use Rattle.ref_core.specs.declared.event.Answer.{Answer}
use Rattle.ref_core.specs.declared.event.Answer.TheVariants.{Done, Byte, Yes, No, BadGive, Unlawful}
use Rattle.block_weight.specs.WeightRule.{full_weight}
use Rattle.ref_core.specs.WeightMachine.{Holdings, WeightState, IsWeighed, IsHoldingIn, AllLive, holding_of, dropped, with_holding, total_weight, word_of, can_take, can_give, is_fresh, taken, shared}
use Rattle.ref_core.specs.WeightMachine.{read, written, given_back, claimed, joined, weight_step, first_weights}
use Rattle.ref_core.specs.declared.weight_machine.Holding.{Holding}
use Rattle.ref_core.proofs.Holdings.{by_eqb, by_test, itself, part, part_if, total-dropped, total-with_holding, live_found, live_dropped, live_with, found_dropped, none_of, fresh_is, kept_is}

pub both_true : (a b : Bool) → (a && b) ≡ true → (a ≡ true) × (b ≡ true)
both_true true b e = (refl, e)
both_true false b e = absurd (subst (λ y. T (not y)) e tt)

pub word_set : (words : List ℕ) (b v c : ℕ) → b < length words → slice_index (slice_set words b v) c ≡ cond (eqb c b) v (slice_index words c)
word_set words b v c lt = by_eqb (λ y. slice_index (slice_set words b v) c ≡ cond y v (slice_index words c)) c b
    (λ e. subst (λ (k : ℕ). slice_index (slice_set words b v) k ≡ v) (sym e) (get_or-set_same words b v 0 lt)) (λ n. get_or-set_other words b c v 0 n)

-- what one holder holds is at most the word of its block
pub weight_le_word : (w : WeightState) → IsWeighed w → (h : ℕ) (x : Holding) → holding_of h w.holdings ≡ Some x → x.weight ≤ word_of w x.block
weight_le_word w i h x e = let s = i.sums x.block in let t = total-dropped x.block h w.holdings in
    let p : part_if x.block (holding_of h w.holdings) ≡ x.weight = ap (part_if x.block) e ∙ ap (λ y. cond y x.weight 0) (itself x.block) in omega arith

pub found_in : (w : WeightState) → IsWeighed w → (h : ℕ) (x : Holding) → holding_of h w.holdings ≡ Some x → IsHoldingIn w x
found_in w i h x e = let l = live_found (length w.words) h w.holdings x i.live e in let l₁ = l.1 in let same = i.blocks in (l₁, omega arith, weight_le_word w i h x e)

module _ (w : WeightState) (i : IsWeighed w) where
  abbrev ws : Holdings
  ws = w.holdings

  abbrev n : ℕ
  n = length w.words

  -- a word that is changed, and the words of the others
  new_words : (b v : ℕ) (us : Holdings) → b < n → v ≤ full_weight → v ≡ total_weight b us → ((c : ℕ) → c ≢ b → total_weight c us ≡ total_weight c ws) → AllLive n us
      → IsWeighed (record w { holdings = us; words = slice_set w.words b v })
  new_words b v us lt most at_b others live = record {
    blocks = length-set w.words b v ∙ i.blocks;
    live = subst (λ m. AllLive m us) (sym (length-set w.words b v)) live;
    sums = λ c. word_set w.words b v c lt ∙ by_eqb (λ y. cond y v (slice_index w.words c) ≡ total_weight c us) c b (λ e. at_b ∙ ap (λ k. total_weight k us) (sym e)) (λ d. i.sums c ∙ sym (others c d));
    bounded = λ c. subst (λ k. k ≤ full_weight) (sym (word_set w.words b v c lt)) (by_test (λ y. cond y v (slice_index w.words c) ≤ full_weight) (eqb c b) (λ _. most) (λ _. i.bounded c));
  }

  -- the words stay, and the weights move between holders
  same_words : (us : Holdings) → ((c : ℕ) → total_weight c us ≡ total_weight c ws) → AllLive n us → IsWeighed (record w { holdings = us })
  same_words us sums live = record { blocks = i.blocks; live = live; sums = λ c. i.sums c ∙ sym (sums c); bounded = i.bounded }

  part_other : (c b v : ℕ) → c ≢ b → part c b v ≡ 0
  part_other c b v d = ap (λ y. cond y v 0) (ne_eqb c b d)

  part_own : (b v : ℕ) → part b b v ≡ v
  part_own b v = ap (λ y. cond y v 0) (itself b)

  part_found : (c h : ℕ) (x : Holding) → holding_of h ws ≡ Some x → part_if c (holding_of h ws) ≡ part c x.block x.weight
  part_found c h x e = ap (part_if c) e

  part_fresh : (c h : ℕ) (us : Holdings) → is_none (holding_of h us) ≡ true → part_if c (holding_of h us) ≡ 0
  part_fresh c h us e = ap (part_if c) (none_of (holding_of h us) e)

  pub taken_weighed : (b h : ℕ) → b < n → word_of w b ≡ 0 → is_none (holding_of h ws) ≡ true → IsWeighed (record w {
    holdings = with_holding h b full_weight ws;
    words = slice_set w.words b
        full_weight;
  })
  taken_weighed b h lt none fresh =
      new_words b full_weight (with_holding h b full_weight ws) lt (omega arith)
      (let s = i.sums b in let t = total-dropped b h ws in let u = total-with_holding b h b full_weight ws in let p = part_own b full_weight in omega arith)
      (λ c d. let t = total-dropped c h ws in let u = total-with_holding c h b full_weight ws in let p = part_other c b full_weight d in let q = part_fresh c h ws fresh in omega arith)
      (live_with n h b full_weight ws lt (omega arith) i.live)

  -- the map in which the holder has given some of its weight
  abbrev pub lowered : ℕ → Holding → ℕ → Holdings
  lowered h x g = with_holding h x.block (x.weight - g) ws

  pub shared_weighed : (h k g : ℕ) (x : Holding) → holding_of h ws ≡ Some x → is_none (holding_of k (lowered h x g)) ≡ true → 0 < g → g < x.weight
      → IsWeighed (record w { holdings = with_holding k x.block g (lowered h x g) })
  shared_weighed h k g x e fresh lo hi = let l = live_found n h ws x i.live e in let l₁ = l.1 in
      same_words (with_holding k x.block g (lowered h x g))
      (λ c. let a = total-with_holding c k x.block g (lowered h x g) in let b = total-dropped c k (lowered h x g) in let z = part_fresh c k (lowered h x g) fresh in
      let d = total-with_holding c h x.block (x.weight - g) ws in let f = total-dropped c h ws in let p = part_found c h x e in
      let sum : part c x.block g + part c x.block (x.weight - g) ≡ part c x.block x.weight = by_test (λ y. cond y g 0 + cond y (x.weight - g) 0 ≡ cond y x.weight 0) (eqb c x.block) (λ _. omega arith)
      (λ _. refl) in omega arith)
      (live_with n k x.block g (lowered h x g) l₁ lo (live_with n h x.block (x.weight - g) ws l₁ (omega arith) i.live))

  pub given_back_weighed : (h : ℕ) (x : Holding) → holding_of h ws ≡ Some x → IsWeighed (record w { holdings = dropped h ws; words = slice_set w.words x.block (word_of w x.block - x.weight) })
  given_back_weighed h x e = let l = live_found n h ws x i.live e in let most = i.bounded x.block in
      new_words x.block (word_of w x.block - x.weight) (dropped h ws) l.1 (omega arith)
      (let s = i.sums x.block in let t = total-dropped x.block h ws in let p = part_found x.block h x e in let q = part_own x.block x.weight in omega arith)
      (λ c d. let t = total-dropped c h ws in let p = part_found c h x e in let q = part_other c x.block x.weight d in omega arith)
      (live_dropped n h ws i.live)

  pub claimed_weighed : (h : ℕ) (x : Holding) → holding_of h ws ≡ Some x → x.weight ≡ word_of w x.block
      → IsWeighed (record w { holdings = with_holding h x.block full_weight ws; words = slice_set w.words x.block full_weight })
  claimed_weighed h x e same = let l = live_found n h ws x i.live e in
      new_words x.block full_weight (with_holding h x.block full_weight ws) l.1 (omega arith)
      (let s = i.sums x.block in let t = total-dropped x.block h ws in let u = total-with_holding x.block h x.block full_weight ws in let p = part_found x.block h x e in let q = part_own x.block
      x.weight in let r = part_own x.block full_weight in omega arith)
      (λ c d. let t = total-dropped c h ws in let u = total-with_holding c h x.block full_weight ws in let p = part_found c h x e in let q = part_other c x.block x.weight d in let r = part_other c
      x.block full_weight d in omega arith)
      (live_with n h x.block full_weight ws l.1 (omega arith) i.live)

  pub joined_weighed : (h k : ℕ) (x y : Holding) → holding_of h ws ≡ Some x → holding_of k ws ≡ Some y → h ≢ k → x.block ≡ y.block
      → IsWeighed (record w { holdings = with_holding h x.block (x.weight + y.weight) (dropped k ws) })
  joined_weighed h k x y e f apart same = let l = live_found n h ws x i.live e in let l₀ = l.0 in let us = dropped k ws in
      let e' : holding_of h us ≡ Some x = found_dropped h k ws apart ∙ e in
      same_words (with_holding h x.block (x.weight + y.weight) us)
      (λ c. let a = total-with_holding c h x.block (x.weight + y.weight) us in let b = total-dropped c h us in let p : part_if c (holding_of h us) ≡ part c x.block x.weight = ap (part_if c) e' in
      let d = total-dropped c k ws in let q = part_found c k y f in
      let r : part c y.block y.weight ≡ part c x.block y.weight = ap (λ z. part c z y.weight) (sym same) in
      let sum : part c x.block (x.weight + y.weight) ≡ part c x.block x.weight + part c x.block y.weight = by_test (λ z. cond z (x.weight + y.weight) 0 ≡ cond z x.weight 0 + cond z y.weight 0)
      (eqb c x.block) (λ _. refl) (λ _. refl) in omega arith)
      (live_with n h x.block (x.weight + y.weight) us l.1 (omega arith) (live_dropped n k ws i.live))

  -- the map in which the holder has given some of its weight has the same live holders
  pub lowered_fresh : (h k g : ℕ) (x : Holding) → holding_of h ws ≡ Some x → is_none (holding_of k ws) ≡ true → is_none (holding_of k (lowered h x g)) ≡ true
  lowered_fresh h k g x e fresh = sym (fresh_is k (lowered h x g)) ∙ ap (λ ps. is_none (block_of k ps)) (kept_is h (x.weight - g) ws x e) ∙ fresh_is k ws ∙ fresh

  abbrev Out : Type 0
  Out = WeightState × Answer

  -- a step that turns on a test
  by_out : (c : Bool) (p q : Out) → (c ≡ true → IsWeighed p.0) → (c ≡ false → IsWeighed q.0) → IsWeighed (cond {A = Out} c p q).0
  by_out c p q f g = by_test (λ y. IsWeighed (cond {A = Out} y p q).0) c f g

  abbrev given : ℕ → ℕ → ℕ → Holding → Out
  given h k g x = cond (can_give w x.weight g) (record w { holdings = with_holding k x.block g (lowered h x g) }, Done) (w, BadGive)

  gives_weighed : (h k g : ℕ) (x : Holding) → holding_of h ws ≡ Some x → is_none (holding_of k ws) ≡ true
      → IsWeighed (given h k g x).0
  gives_weighed h k g x e fresh = by_out (can_give w x.weight g) (record w { holdings = with_holding k x.block g (lowered h x g) }, Done) (w, BadGive)
      (λ t. let both = both_true (ltb 0 g) (ltb g x.weight) t in shared_weighed h k g x e (lowered_fresh h k g x e fresh) (ltb-true 0 g both.0) (ltb-true g x.weight both.1)) (λ _. i)

  shares_weighed : (h k g : ℕ) (o : Option Holding) → holding_of h ws ≡ o → IsWeighed (shared w o h k g).0
  shares_weighed h k g None e = i
  shares_weighed h k g (Some x) e = by_out (is_fresh w k) (given h k g x) (w, Unlawful)
      (λ t. gives_weighed h k g x e t) (λ _. i)

  reads_weighed : (p : ℕ) (o : Option Holding) → IsWeighed (read w o p).0
  reads_weighed p None = i
  reads_weighed p (Some x) = by_out (ltb p block_size) (w, Byte (byte_at w.memory x.block p)) (w, Unlawful) (λ _. i) (λ _. i)

  pub written_weighed : (b p v : ℕ) → IsWeighed (record w { memory = with_byte w.memory b p v })
  written_weighed b p v = record { blocks = i.blocks ∙ sym (length-set w.memory b _); live = i.live; sums = i.sums; bounded = i.bounded }

  writes_weighed : (p v : ℕ) (o : Option Holding) → IsWeighed (written w o p v).0
  writes_weighed p v None = i
  writes_weighed p v (Some x) = by_out (ltb p block_size && eqb x.weight (word_of w x.block)) (record w { memory = with_byte w.memory x.block p v }, Done) (w, Unlawful)
      (λ _. written_weighed x.block p v) (λ _. i)

  gives_back_weighed : (h : ℕ) (o : Option Holding) → holding_of h ws ≡ o → IsWeighed (given_back w o h).0
  gives_back_weighed h None e = i
  gives_back_weighed h (Some x) e = given_back_weighed h x e

  claims_weighed : (h : ℕ) (o : Option Holding) → holding_of h ws ≡ o → IsWeighed (claimed w o h).0
  claims_weighed h None e = i
  claims_weighed h (Some x) e = by_out (eqb x.weight (word_of w x.block)) (record w { holdings = with_holding h x.block full_weight ws; words = slice_set w.words x.block full_weight }, Yes) (w, No)
      (λ t. claimed_weighed h x e (eqb-true x.weight (word_of w x.block) t)) (λ _. i)

  pub apart_of : (h k : ℕ) → not (eqb h k) ≡ true → h ≢ k
  apart_of h k = by_eqb (λ y. not y ≡ true → h ≢ k) h k (λ _ f. absurd (subst (λ y. T (not y)) f tt)) (λ d _. d)

  joins_weighed : (h k : ℕ) (o p : Option Holding) → holding_of h ws ≡ o → holding_of k ws ≡ p → IsWeighed (joined w o p h k).0
  joins_weighed h k None p e f = i
  joins_weighed h k (Some x) None e f = i
  joins_weighed h k (Some x) (Some y) e f = by_out (not (eqb h k) && eqb x.block y.block) (record w { holdings = with_holding h x.block (x.weight + y.weight) (dropped k ws) }, Done) (w, Unlawful)
      (λ t. let both = both_true (not (eqb h k)) (eqb x.block y.block) t in joined_weighed h k x y e f (apart_of h k both.0) (eqb-true x.block y.block both.1)) (λ _. i)

  takes_weighed : (b h : ℕ) → IsWeighed (taken w b h).0
  takes_weighed b h = by_out (can_take w b h) (record w { holdings = with_holding h b full_weight ws; words = slice_set w.words b full_weight }, Done) (w, Unlawful) (λ t.
      let all = both_true (ltb b (length w.memory) && eqb (word_of w b) 0) (is_fresh w h) t in let two = both_true (ltb b (length w.memory)) (eqb (word_of w b) 0) all.0 in
      let lt : b < length w.memory = ltb-true b (length w.memory) two.0 in let same = i.blocks in taken_weighed b h (omega arith) (eqb-true (word_of w b) 0 two.1) all.1) (λ _. i)

  pub step_weighed : (event : Event) → IsWeighed (weight_step w event).0
  step_weighed (Take b h) = takes_weighed b h
  step_weighed (Share h k g) = shares_weighed h k g (holding_of h ws) refl
  step_weighed (Read h p) = reads_weighed p (holding_of h ws)
  step_weighed (Write h p v) = writes_weighed p v (holding_of h ws)
  step_weighed (GiveBack h) = gives_back_weighed h (holding_of h ws) refl
  step_weighed (Claim h) = claims_weighed h (holding_of h ws) refl
  step_weighed (Join h k) = joins_weighed h k (holding_of h ws) (holding_of k ws) refl refl

-- before the first event
zero_words : (m c : ℕ) → slice_index (replicate m 0) c ≡ 0
zero_words zero c = refl
zero_words (suc m) zero = refl
zero_words (suc m) (suc c) = zero_words m c

pub first_weighed : (blocks : ℕ) → IsWeighed (first_weights blocks)
first_weighed blocks = record {
  blocks = length-replicate blocks 0 ∙ sym (length-replicate blocks (replicate block_size 0));
  live = tt;
  sums = λ b. zero_words blocks b;
  bounded = λ b. let z = zero_words blocks b in omega arith;
}
