-- Packets that wait, each at its index, and are taken.
use Rattle.std.proofs.Common.{◌≡◌, ◌≢◌, ℕ, zero, suc, ◌-◌, ◌<◌, ◌≤◌, inl, inr, Option, None, List, [], ◌∷◌, ◌++◌, length, get_or, map, set, refl, sym, ap, ◌∙◌, subst, arith}
use Rattle.std.specs.List.{AllByRecursion, flat_map}
use Rattle.std.proofs.lemmas.Bool.{cases_eq, cases_lt}
use Rattle.std.proofs.lemmas.List.{length-set, length-map}
use Rattle.maximal_runs.proofs.Pass.{all_front, all_back}
use Rattle.gro_table.specs.declared.packet.Packet.{Packet as Held}
use Rattle.frame_runs.specs.declared.run.Run.{Run}
use Rattle.gro_table.specs.Held.{packet_of}
use Rattle.frame_runs.specs.Chains.{chain_of, behind, indices, index_sum, mark, AreDistinct}
use Rattle.gro_table.specs.Waiting.{one_in, found, chosen, AreThere, Empties, held_at, IsRun, AreWaiting}
use Rattle.frame_runs.proofs.Chains.{mark_same, mark_other, sum_append, chain_step, chain_done}

pub found_out : (xs : List (Option Held)) (k : ℕ) → length xs ≤ k → found xs k ≡ []
found_out [] k h = refl
found_out (x ∷ xs) zero h = absurd (omega (arith, h))
found_out (x ∷ xs) (suc k) h = found_out xs k (omega (arith, h))

pub found_below : (xs : List (Option Held)) (k : ℕ) → 1 ≤ length (found xs k) → k < length xs
found_below [] k h = absurd (omega (arith, h))
found_below (x ∷ xs) zero h = omega arith
found_below (x ∷ xs) (suc k) h = omega (arith, found_below xs k h)

pub found_is : (xs : List (Option Held)) (k : ℕ) (d : Option Held) → k < length xs → found xs k ≡ one_in (get_or xs k d)
found_is [] k d h = absurd (omega (arith, h))
found_is (x ∷ xs) zero d h = refl
found_is (x ∷ xs) (suc k) d h = found_is xs k d (omega (arith, h))

set_same : (xs : List (Option Held)) (k : ℕ) → found (set xs k None) k ≡ []
set_same [] k = refl
set_same (x ∷ xs) zero = refl
set_same (x ∷ xs) (suc k) = set_same xs k

set_other : (xs : List (Option Held)) (k j : ℕ) → j ≢ k → found (set xs k None) j ≡ found xs j
set_other [] k j o = refl
set_other (x ∷ xs) zero zero o = absurd (o refl)
set_other (x ∷ xs) zero (suc j) o = refl
set_other (x ∷ xs) (suc k) zero o = refl
set_other (x ∷ xs) (suc k) (suc j) o = set_other xs k j (λ e. o (ap suc e))

-- ---- indices that aren't among others

-- none of these is among those
abbrev pub AreApart : List ℕ → List ℕ → Type 0
AreApart ks js = (j : ℕ) → 1 ≤ index_sum (mark j) js → index_sum (mark j) ks ≡ 0

pub apart_by : (ks js : List ℕ) → AreDistinct (ks ++ js) → AreApart ks js
apart_by ks js d = λ j l. omega (arith, d j, sum_append (mark j) ks js, l)

pub distinct_rest : (ks js : List ℕ) → AreDistinct (ks ++ js) → AreDistinct js
distinct_rest ks js d = λ k. omega (arith, d k, sum_append (mark k) ks js)

pub distinct_front : (ks js : List ℕ) → AreDistinct (ks ++ js) → AreDistinct ks
distinct_front ks js d = λ k. omega (arith, d k, sum_append (mark k) ks js)

here : (j : ℕ) (js : List ℕ) → 1 ≤ index_sum (mark j) (j ∷ js)
here j js = omega (arith, mark_same j)

apart_more : (ks js : List ℕ) (j : ℕ) → AreApart ks (j ∷ js) → AreApart ks js
apart_more ks js j a = λ i l. a i (omega (arith, l))

pub chosen_kept : (xs ys : List (Option Held)) (ks js : List ℕ) → Empties ks xs ys → AreApart ks js → chosen ys js ≡ chosen xs js
chosen_kept xs ys ks [] e a = refl
chosen_kept xs ys ks (j ∷ js) e a =
    ap (λ (z : List Held). z ++ chosen ys js) (e.others j (a j (here j js)))
    ∙ ap (λ (z : List Held). found xs j ++ z) (chosen_kept xs ys ks js e (apart_more ks js j a))

pub there_kept : (xs ys : List (Option Held)) (ks js : List ℕ) → Empties ks xs ys → AreApart ks js → AreThere xs js → AreThere ys js
there_kept xs ys ks [] e a t = tt
there_kept xs ys ks (j ∷ js) e a t = (
  subst (λ (z : List Held). 1 ≤ length z) (sym (e.others j (a j (here j js)))) t.0,
  there_kept xs ys ks js e (apart_more ks js j a) t.1,
)

-- ---- packets are taken

pub empties_none : (xs : List (Option Held)) → Empties [] xs xs
empties_none xs = record { size = refl; others = λ k h. refl; gone = λ k h. absurd (omega (arith, h)) }

pub empties_one : (xs : List (Option Held)) (k : ℕ) → Empties (k ∷ []) xs (set xs k None)
empties_one xs k = record {
  size = length-set xs k None;
  others = λ j h. set_other xs k j (λ e. omega (arith, h, subst (λ z. mark j z ≡ 1) e (mark_same j)));
  gone = λ j h. elim (cases_eq k j) [
    | inl same ↦ subst (λ z. found (set xs k None) z ≡ []) same (set_same xs k)
    | inr other ↦ absurd (omega (arith, h, mark_other j k other))
  ];
}

pub empties_then : (ks js : List ℕ) (xs ys zs : List (Option Held)) → Empties ks xs ys → Empties js ys zs → Empties (ks ++ js) xs zs
empties_then ks js xs ys zs a b = record {
  size = b.size ∙ a.size;
  others = λ k h. b.others k (omega (arith, h, sum_append (mark k) ks js)) ∙ a.others k (omega (arith, h, sum_append (mark k) ks js));
  gone = λ k h. elim (cases_lt 0 (index_sum (mark k) js)) [
    | inl lt ↦ b.gone k (omega (arith, lt))
    | inr ge ↦ b.others k (omega (arith, ge)) ∙ a.gone k (omega (arith, h, ge, sum_append (mark k) ks js))
  ];
}

-- the first of a chain is taken
module _ (xs : List (Option Held)) (k : ℕ) (cs rest : List ℕ) (p : Held) (e : cs ≡ k ∷ rest) (there : AreThere xs cs)
    (distinct : AreDistinct cs) (f : found xs k ≡ p ∷ []) where
  now_apart : AreApart (k ∷ []) rest
  now_apart = apart_by (k ∷ []) rest (subst AreDistinct e distinct)

  pub cut : chosen xs cs ≡ p ∷ chosen (set xs k None) rest
  cut =
      ap (chosen xs) e ∙ ap (λ (z : List Held). z ++ chosen xs rest) f
      ∙ ap (λ (z : List Held). p ∷ z) (sym (chosen_kept xs (set xs k None) (k ∷ []) rest (empties_one xs k) now_apart))

  pub there_on : AreThere (set xs k None) rest
  there_on =
      let t : AreThere xs (k ∷ rest) = subst (AreThere xs) e there in
      there_kept xs (set xs k None) (k ∷ []) rest (empties_one xs k) now_apart t.1

  pub distinct_on : AreDistinct rest
  distinct_on = distinct_rest (k ∷ []) rest (subst AreDistinct e distinct)

  pub empties_first : (ys : List (Option Held)) → Empties rest (set xs k None) ys → Empties cs xs ys
  empties_first ys h = subst (λ (z : List ℕ). Empties z xs ys) (sym e) (empties_then (k ∷ []) rest xs (set xs k None) ys (empties_one xs k) h)

-- the same of a chain by its count
pub chain_cut : (xs ys : List (Option Held)) (next : List ℕ) (left k : ℕ) (p : Held) → 0 < left → AreThere xs (chain_of next left k) → AreDistinct (chain_of next left k)
    → found xs k ≡ p ∷ [] → ys ≡ set xs k None → chosen xs (chain_of next left k) ≡ p ∷ chosen ys (chain_of next (left - 1) (get_or next k 0))
chain_cut xs ys next left k p h there distinct f e =
    let rest : List ℕ = chain_of next (left - 1) (get_or next k 0) in
    cut xs k (chain_of next left k) rest p (chain_step next left k h) there distinct f
    ∙ ap (λ (z : List (Option Held)). p ∷ chosen z rest) (sym e)

-- ---- the packets of runs

runs_kept : (next : List ℕ) (xs ys : List (Option Held)) (ks : List ℕ) (rs : List Run) → Empties ks xs ys → AreApart ks (flat_map (indices next) rs)
    → map (held_at next ys) rs ≡ map (held_at next xs) rs
runs_kept next xs ys ks [] e a = refl
runs_kept next xs ys ks (r ∷ rs) e a =
    ap (λ (z : List Held). z ∷ map (held_at next ys) rs) (chosen_kept xs ys ks (indices next r) e
    (λ j l. a j (omega (arith, l, sum_append (mark j) (indices next r) (flat_map (indices next) rs)))))
    ∙ ap (λ (z : List (List Held)). held_at next xs r ∷ z) (runs_kept next xs ys ks rs e
    (λ j l. a j (omega (arith, l, sum_append (mark j) (indices next r) (flat_map (indices next) rs)))))

each_kept : (next : List ℕ) (xs ys : List (Option Held)) (ks : List ℕ) (rs : List Run) → Empties ks xs ys → AreApart ks (flat_map (indices next) rs)
    → AllByRecursion (λ run. IsRun run (held_at next xs run)) rs → AllByRecursion (λ run. IsRun run (held_at next ys run)) rs
each_kept next xs ys ks [] e a is = tt
each_kept next xs ys ks (r ∷ rs) e a is = (
  subst (IsRun r) (sym (chosen_kept xs ys ks (indices next r) e
      (λ j l. a j (omega (arith, l, sum_append (mark j) (indices next r) (flat_map (indices next) rs)))))) is.0,
  each_kept next xs ys ks rs e (λ j l. a j (omega (arith, l, sum_append (mark j) (indices next r) (flat_map (indices next) rs)))) is.1,
)

-- the packets of the first run are taken
module _ (next : List ℕ) (r : Run) (rs : List Run) (xs ys : List (Option Held)) (w : AreWaiting next (r ∷ rs) xs) (e : Empties (indices next r) xs ys) where
  abbrev own : List ℕ
  own = indices next r

  abbrev more : List ℕ
  more = flat_map (indices next) rs

  runs_apart : AreApart own more
  runs_apart = apart_by own more w.distinct

  pub waiting_more : AreWaiting next rs ys
  waiting_more = record {
    there = there_kept xs ys own more e runs_apart (all_back (λ k. 1 ≤ length (found xs k)) own more w.there);
    distinct = distinct_rest own more w.distinct;
    others = λ k h. elim (cases_lt 0 (index_sum (mark k) own)) [
      | inl lt ↦ e.gone k (omega (arith, lt))
      | inr ge ↦ e.others k (omega (arith, ge)) ∙ w.others k (omega (arith, h, ge, sum_append (mark k) own more))
    ];
    each = each_kept next xs ys own rs e runs_apart w.each.1;
  }

  pub held_stays : map (held_at next ys) rs ≡ map (held_at next xs) rs
  held_stays = runs_kept next xs ys own rs e runs_apart

module _ (next : List ℕ) (r : Run) (rs : List Run) (xs : List (Option Held)) (w : AreWaiting next (r ∷ rs) xs) where
  pub first_there : AreThere xs (indices next r)
  first_there = all_front (λ k. 1 ≤ length (found xs k)) (indices next r) (flat_map (indices next) rs) w.there

  pub first_distinct : AreDistinct (indices next r)
  first_distinct = distinct_front (indices next r) (flat_map (indices next) rs) w.distinct

-- ---- the first packet of a run is taken

pub record IsFirstTaken (run : Run) (next : List ℕ) (xs ys : List (Option Held)) (p : Held) : Type 0 where
  pub split : held_at next xs run ≡ p ∷ chosen ys (behind next run)
  pub run_split : IsRun run (p ∷ chosen ys (behind next run))
  pub more : length (chosen ys (behind next run)) ≡ run.more
  pub there : AreThere ys (behind next run)
  pub empties : (zs : List (Option Held)) → Empties (behind next run) ys zs → Empties (indices next run) xs zs
  pub alone : length (chosen ys (behind next run)) ≤ 0 → Empties (indices next run) xs ys

pub first_taken : (run : Run) (next : List ℕ) (xs ys : List (Option Held)) (p : Held) → AreThere xs (indices next run) → AreDistinct (indices next run)
    → IsRun run (held_at next xs run) → found xs run.first ≡ p ∷ [] → ys ≡ set xs run.first None → IsFirstTaken run next xs ys p
first_taken run next xs ys p there distinct is f left =
    let behind_it = behind next run in
    let split : held_at next xs run ≡ p ∷ chosen ys behind_it
    = cut xs run.first (indices next run) behind_it p refl there distinct f ∙ ap (λ (z : List (Option Held)). p ∷ chosen z behind_it) (sym left) in
    let whole : IsRun run (p ∷ chosen ys behind_it) = subst (IsRun run) split is in
    let more : length (chosen ys behind_it) ≡ run.more = sym (length-map (chosen ys behind_it) packet_of) ∙ whole.0.more in
    let empties : (zs : List (Option Held)) → Empties behind_it ys zs → Empties (indices next run) xs zs
    = λ zs h. empties_first xs run.first (indices next run) behind_it p refl there distinct f zs (subst (λ (z : List (Option Held)). Empties behind_it z zs) left h) in
    record {
      split = split;
      run_split = whole;
      more = more;
      there = subst (λ (z : List (Option Held)). AreThere z behind_it) (sym left) (there_on xs run.first (indices next run) behind_it p refl there distinct f);
      empties = empties;
      alone = λ h. let none : behind_it ≡ [] = chain_done next run.more (get_or next run.first 0) (omega (arith, h, more)) in
          empties ys (subst (λ (z : List ℕ). Empties z ys ys) (sym none) (empties_none ys));
    }
