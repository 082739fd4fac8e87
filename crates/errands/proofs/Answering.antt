-- An answer comes to its place.
use Rattle.std.proofs.Common.{◌≡◌, ℕ, zero, suc, ◌+◌, ◌≤◌, ◌<◌, ◌⊎◌, inl, inr, Option, None, Some, List, [], ◌∷◌, ◌++◌, length, set, sym, refl, ap, ◌∙◌, subst, arith, append_assoc}
use Rattle.std.proofs.Common.{length-append}
use Rattle.std.specs.Prelude.{map}
use Rattle.std.specs.List.{AllByRecursion}
use Rattle.std.proofs.lemmas.List.Sums.{sum_by-cons}
use Rattle.std.proofs.lemmas.Bool.{cases_lt}
use mathlib.Core.Option.{some, some-injective}
use lib.ListN.{get_elem?}
use Rattle.errands.specs.Rule.{one, times}
use Rattle.errands.specs.Answers.{AllBack, Answers, Places, EachDid, open_place, missing}

times_more : (k n : ℕ) (back : List ℕ) → times k (n ∷ back) ≡ one k n + times k back
times_more k n back = sum_by-cons (one k) n back

one_here : (k n : ℕ) → n ≡ k → one k n ≡ 1
one_here k n e = grind (arith, e)

one_else : (k n : ℕ) → (k ≡ n → ⊥) → one k n ≡ 0
one_else k n apart = grind (arith, apart)

-- a number that was never answered isn't below the first one
pub not_before : (first n : ℕ) (back : List ℕ) → AllBack first back → times n back ≡ 0 → first ≤ n
not_before first n back h none = split (cases_lt n first)
  where
    split : (n < first) ⊎ (first ≤ n) → first ≤ n
    split (inl lt) = let b = h n lt in absurd (omega (arith, b, none))
    split (inr le) = le

module _ {T D : Type 0} (did : T → D → Type 0) where
  -- a number that is below or behind all places changes none
  places_else : (log : List T) (back : List ℕ) (n k : ℕ) (ps : List (Option D)) → n < k → Places did log back k ps → Places did log (n ∷ back) k ps
  places_else log back n k [] lt h = tt
  places_else log back n k (None ∷ ps) lt h =
      let m = times_more k n back in let o = one_else k n (λ e. absurd (omega (arith, lt, e))) in
      (omega (arith, m, o, h.0), places_else log back n (suc k) ps (omega (arith, lt)) h.1)
  places_else log back n k (Some d ∷ ps) lt h =
      let m = times_more k n back in
      (omega (arith, m, h.0), h.1, places_else log back n (suc k) ps (omega (arith, lt)) h.2)

  pub places_set : (log : List T) (back : List ℕ) (k i n : ℕ) (ps : List (Option D)) (d : D) → n ≡ k + i → i < length ps → Answers did log n d → Places did log back k ps
      → Places did log (n ∷ back) k (set ps i (Some d))
  places_set log back k i n [] d e lt a h = absurd (omega (arith, lt))
  places_set log back k zero n (None ∷ ps) d e lt a h =
      let here : n ≡ k = omega (arith, e) in
      let m = times_more k n back in let o = one_here k n here in
      (omega (arith, m, o), subst (λ (j : ℕ). Answers did log j d) here a, places_else log back n (suc k) ps (omega (arith, here)) h.1)
  places_set log back k zero n (Some x ∷ ps) d e lt a h =
      let here : n ≡ k = omega (arith, e) in
      let m = times_more k n back in let o = one_here k n here in
      (omega (arith, m, o), subst (λ (j : ℕ). Answers did log j d) here a, places_else log back n (suc k) ps (omega (arith, here)) h.2)
  places_set log back k (suc i) n (None ∷ ps) d e lt a h =
      let m = times_more k n back in let o = one_else k n (λ x. absurd (omega (arith, e, x))) in
      (omega (arith, m, o, h.0), places_set log back (suc k) i n ps d (omega (arith, e)) (omega (arith, lt)) a h.1)
  places_set log back k (suc i) n (Some x ∷ ps) d e lt a h =
      let m = times_more k n back in
      (omega (arith, m, h.0), h.1, places_set log back (suc k) i n ps d (omega (arith, e)) (omega (arith, lt)) a h.2)

  -- the place of a number that was never answered is open
  pub missing_set : (log : List T) (back : List ℕ) (k i n : ℕ) (ps : List (Option D)) (d : D) → n ≡ k + i → i < length ps → times n back ≡ 0 → Places did log back k ps
      → missing (set ps i (Some d)) + 1 ≡ missing ps
  missing_set log back k i n [] d e lt none h = absurd (omega (arith, lt))
  missing_set log back k zero n (None ∷ ps) d e lt none h = omega arith
  missing_set log back k zero n (Some x ∷ ps) d e lt none h =
      let here : times n back ≡ times k back = ap (λ (j : ℕ). times j back) (omega (arith, e)) in absurd (omega (arith, here, none, h.0))
  missing_set log back k (suc i) n (None ∷ ps) d e lt none h = let r = missing_set log back (suc k) i n ps d (omega (arith, e)) (omega (arith, lt)) none h.1 in omega (arith, r)
  missing_set log back k (suc i) n (Some x ∷ ps) d e lt none h = let r = missing_set log back (suc k) i n ps d (omega (arith, e)) (omega (arith, lt)) none h.2 in omega (arith, r)

  -- places that are open
  pub places_open : (log : List T) (back : List ℕ) (k : ℕ) (ps : List (Option D)) → ((j : ℕ) → k ≤ j → times j back ≡ 0) → AllByRecursion (λ p. p ≡ None) ps → Places did log back k ps
  places_open log back k [] later h = tt
  places_open log back k (None ∷ ps) later h = (later k (omega arith), places_open log back (suc k) ps (λ j le. later j (omega (arith, le))) h.1)
  places_open log back k (Some d ∷ ps) later h = absurd (cc)

  -- where all answers stand, all numbers below the end were answered
  here_or_later : (back : List ℕ) (k j : ℕ) → 1 ≤ times k back → k ≤ j → (k < j → 1 ≤ times j back) → 1 ≤ times j back
  here_or_later back k j here le later = split (cases_lt k j)
    where
      split : (k < j) ⊎ (j ≤ k) → 1 ≤ times j back
      split (inl more) = later more
      split (inr less) = let e : times j back ≡ times k back = ap (λ (i : ℕ). times i back) (omega (arith, le, less)) in omega (arith, e, here)

  pub all_back : (log : List T) (back : List ℕ) (k : ℕ) (ps : List (Option D)) → missing ps ≡ 0 → Places did log back k ps → (j : ℕ) → k ≤ j → j < k + length ps → 1 ≤ times j back
  all_back log back k [] none h j le lt = absurd (omega (arith, le, lt))
  all_back log back k (None ∷ ps) none h j le lt = absurd (omega (arith, none))
  all_back log back k (Some d ∷ ps) none h j le lt =
      here_or_later back k j h.0 le (λ more. all_back log back (suc k) ps (omega (arith, none)) h.2 j (omega (arith, more)) (omega (arith, lt)))

  at_middle : (front : List T) (t : T) (ts : List T) → get_elem? (front ++ t ∷ ts) (length front) ≡ some t
  at_middle [] t ts = refl
  at_middle (x ∷ front) t ts = at_middle front t ts

  -- the answers of the tasks that stand behind others
  pub each_did : (front ts : List T) (back : List ℕ) (ds : List D) → length ds ≡ length ts → Places did (front ++ ts) back (length front) (map Some ds) → EachDid did ts ds
  each_did front [] back [] size h = tt
  each_did front [] back (d ∷ ds) size h = absurd (omega (arith, size))
  each_did front (t ∷ ts) back [] size h = absurd (omega (arith, size))
  each_did front (t ∷ ts) back (d ∷ ds) size h =
      let a = h.1 in
      let same : a.0 ≡ t = some-injective a.0 t (sym a.1 ∙ at_middle front t ts) in
      let long : length (front ++ t ∷ []) ≡ suc (length front) = length-append front (t ∷ []) ∙ omega arith in
      let rest : Places did ((front ++ t ∷ []) ++ ts) back (length (front ++ t ∷ [])) (map Some ds) =
      subst (λ (n : ℕ). Places did ((front ++ t ∷ []) ++ ts) back n (map Some ds)) (sym long)
      (subst (λ (l : List T). Places did l back (suc (length front)) (map Some ds)) (sym (append_assoc front (t ∷ []) ts)) h.2) in
      (subst (λ (x : T). did x d) same a.2, each_did (front ++ t ∷ []) ts back ds (omega (arith, size)) rest)

module _ {D : Type 0} where
  pub missing_open : (ps : List (Option D)) → AllByRecursion (λ p. p ≡ None) ps → missing ps ≡ length ps
  missing_open [] h = refl
  missing_open (None ∷ ps) h = let r = missing_open ps h.1 in omega (arith, r)
  missing_open (Some d ∷ ps) h = absurd (cc)

  pub missing_last : (ps : List (Option D)) (p : Option D) → missing (ps ++ p ∷ []) ≡ missing ps + open_place p
  missing_last [] p = omega arith
  missing_last (q ∷ ps) p = let r = missing_last ps p in omega (arith, r)

  pub rest_answers : (whole ps : List (Option D)) (p : Option D) → whole ≡ ps ++ p ∷ [] → missing whole ≡ 0 → (missing ps ≡ 0) × (open_place p ≡ 0)
  rest_answers whole ps p e none = let m = missing_last ps p in let w = ap missing e in (omega (arith, m, w, none), omega (arith, m, w, none))
