-- Each kind of step keeps the rule of the desk.
use Rattle.std.proofs.Common.{◌≡◌, ◌≢◌, ℕ, zero, suc, ◌+◌, ◌≤◌, ◌<◌, ◌⊎◌, inl, inr, true, false, true≢false, List, [], ◌∷◌, ◌++◌, length, set, sym, refl, ap, ◌∙◌, subst, ⊎_elim, arith}
use Rattle.std.proofs.Common.{length-append}
use Rattle.std.specs.List.{sum_by, AllByRecursion}
use Rattle.std.proofs.lemmas.List.Sums.{sum_by-cons, sum_by_push}
use Rattle.std.proofs.lemmas.Bool.{cases_lt}
use mathlib.Core.Option.{some, some-injective, some-ne-none}
use lib.ListN.{get_elem?}
use Rattle.crossbeam_queue.specs.Fifo.{Pushes, Pops, Forks, Merges, Learns}
use Rattle.crossbeam_queue.proofs.Lists.{at_set, at_snoc, at_longer, at_last}
use Rattle.errands.specs.declared.rule.Asked.{Asked}
use Rattle.errands.specs.declared.rule.Slip.{Slip}
use Rattle.errands.specs.Rule.{slip, blank, ClaimIn, one, claims, uses, used, Fits, IsIn, Kept, Known}

off : false ≡ true → ⊥
off e = true≢false (sym e)

sum_set : {X : Type 0} (f : X → ℕ) (xs : List X) (i : ℕ) (x y : X) → get_elem? xs i ≡ some x → sum_by f (set xs i y) + f x ≡ sum_by f xs + f y
sum_set f [] i x y at = absurd (some-ne-none x (sym at))
sum_set f (z ∷ xs) zero x y at = omega (arith, sum_by-cons f y xs, sum_by-cons f z xs, ap f (some-injective z x at))
sum_set f (z ∷ xs) (suc i) x y at = omega (arith, sum_by-cons f z (set xs i y), sum_by-cons f z xs, sum_set f xs i x y at)

part_of_sum : {X : Type 0} (f : X → ℕ) (xs : List X) (i : ℕ) (x : X) → get_elem? xs i ≡ some x → f x ≤ sum_by f xs
part_of_sum f [] i x at = absurd (some-ne-none x (sym at))
part_of_sum f (z ∷ xs) zero x at = omega (arith, sum_by-cons f z xs, ap f (some-injective z x at))
part_of_sum f (z ∷ xs) (suc i) x at = omega (arith, sum_by-cons f z xs, part_of_sum f xs i x at)

one_else : (n k : ℕ) → n ≢ k → one n k ≡ 0
one_else n k apart = grind (arith, apart)

one_few : (n k : ℕ) → one n k ≤ 1
one_few n k = grind arith

module _ {T : Type 0} where
  fits_set : (seat : ℕ) (log : List T) (views : List (Slip T)) (by : ℕ) (w : Slip T) → ((j : ℕ) (u : Slip T) → j ≢ by → get_elem? views j ≡ some u → Fits seat log j u) → Fits seat log by w
      → (j : ℕ) (u : Slip T) → get_elem? (set views by w) j ≡ some u → Fits seat log j u
  fits_set seat log views by w others mine j u e =
      ⊎_elim
      (λ (x : (j ≡ by) × (w ≡ u)). subst (λ (y : ℕ × Slip T). Fits seat log y.0 y.1) (λ i. (sym x.0 i, x.1 i)) mine)
      (λ (x : (j ≢ by) × (get_elem? views j ≡ some u)). others j u x.0 x.1)
      (at_set views by j w u e)

  claim_more : (log : List T) (y : T) (n : ℕ) (task : List T) → ClaimIn log n task → ClaimIn (log ++ y ∷ []) n task
  claim_more log y n [] c = tt
  claim_more log y n (x ∷ xs) c = at_longer log (y ∷ []) n x c

  all_more : (log : List T) (y : T) (items : List (Asked T)) → AllByRecursion (IsIn log) items → AllByRecursion (IsIn (log ++ y ∷ [])) items
  all_more log y [] h = tt
  all_more log y (i ∷ is) h = (at_longer log (y ∷ []) i.number i.task h.0, all_more log y is h.1)

  all_last : (log : List T) (items : List (Asked T)) (i : Asked T) → AllByRecursion (IsIn log) items → IsIn log i → AllByRecursion (IsIn log) (items ++ i ∷ [])
  all_last log [] i h e = (e, tt)
  all_last log (j ∷ is) i h e = (h.0, all_last log is i h.1 e)

  pub begins : Kept {T = T} [] (slip true [] [] 0 [] ∷ [])
  begins = (0, [], tt, one_view, (λ n. omega arith), (λ n le. omega arith))
    where
      one_view : (by : ℕ) (v : Slip T) → get_elem? (slip true [] [] 0 [] ∷ []) by ≡ some v → Fits 0 [] by v
      one_view zero v e = subst (Fits 0 [] 0) (some-injective _ _ e) ((λ _. (refl, refl)), tt)
      one_view (suc by) v e = absurd (some-ne-none v (sym e))

  pub asks : (n port : ℕ) (v : Slip T) (x : Asked T) → v.gives ≡ true → x.number ≡ length v.log
      → Pushes Kept n port v x (λ w. w ≡ slip v.gives (v.log ++ x.task ∷ []) v.back v.number v.task)
  asks n port v x gives number items views room kept at =
      let log = v.log ++ x.task ∷ [] in
      let w : Slip T = slip v.gives log v.back v.number v.task in
      let mine = kept.3 port v at in
      let seat = (mine.0 gives).0 in
      let same : v.log ≡ kept.1 = (mine.0 gives).1 in
      let items_in : AllByRecursion (IsIn v.log) items = subst (λ (l : List T). AllByRecursion (IsIn l) items) (sym same) kept.2 in
      let claim : ClaimIn v.log v.number v.task = subst (λ (l : List T). ClaimIn l v.number v.task) (sym same) mine.1 in
      let len = ap length same in
      let sums : (k : ℕ) → used k (items ++ x ∷ []) (set views port w) ≡ used k items views + one k x.number = λ k.
      omega (arith, sum_by_push (λ (i : Asked T). one k i.number) items x, sum_set (uses k) views port v w at) in (
        w,
        (
          kept.0,
          log,
          all_last log items x (all_more v.log x.task items items_in) (at_last v.log x.task x.number (sym number)),
          fits_set kept.0 log views port w
              (λ j u apart e.
              let theirs = kept.3 j u e in
              let c : ClaimIn v.log u.number u.task = subst (λ (l : List T). ClaimIn l u.number u.task) (sym same) theirs.1 in
              ((λ g. absurd (apart ((theirs.0 g).0 ∙ sym seat))), claim_more v.log x.task u.number u.task c))
              ((λ _. (seat, refl)), claim_more v.log x.task v.number v.task claim),
          (λ k.
              let s = sums k in
              let before = kept.4 k in
              let none : length kept.1 ≤ k → used k items views ≡ 0 = kept.5 k in
              few k (length kept.1) (used k items views) (used k (items ++ x ∷ []) (set views port w)) (one k x.number) s before (one_few k x.number) none
              (λ lt. one_else k x.number (λ e. absurd (omega (arith, lt, e, number, len))))),
          (λ k le.
              let s = sums k in
              let long : length log ≡ length v.log + 1 = length-append v.log (x.task ∷ []) in
              let none = kept.5 k (omega (arith, le, long, len)) in
              let zero_here = one_else k x.number (λ e. absurd (omega (arith, le, long, e, number))) in
              omega (arith, s, none, zero_here)),
        ),
        refl,
      )
    where
      few : (k m before after more : ℕ) → after ≡ before + more → before ≤ 1 → more ≤ 1 → (m ≤ k → before ≡ 0) → (k < m → more ≡ 0) → after ≤ 1
      few k m before after more s b o none lt = split (cases_lt k m)
        where
          split : (k < m) ⊎ (m ≤ k) → after ≤ 1
          split (inl h) = let z = lt h in omega (arith, s, z, b)
          split (inr h) = let z = none h in omega (arith, s, z, o)

  pub takes : (port : ℕ) (v : Slip T) → v.task ≡ [] → Pops Kept port v (λ x w. w ≡ slip v.gives v.log v.back x.number (x.task ∷ []))
  takes port v bare x items views kept at =
      let w : Slip T = slip v.gives v.log v.back x.number (x.task ∷ []) in
      let mine = kept.3 port v at in
      let none : (k : ℕ) → claims k v.number v.task ≡ 0 = λ k. ap (λ (t : List T). claims k v.number t) bare in
      let sums : (k : ℕ) → used k items (set views port w) ≡ used k (x ∷ items) views = λ k.
      omega (arith, sum_by-cons (λ (i : Asked T). one k i.number) x items, sum_set (uses k) views port v w at, none k) in (
        w,
        (
          kept.0,
          kept.1,
          kept.2.1,
          fits_set kept.0 kept.1 views port w (λ j u apart e. kept.3 j u e) (mine.0, kept.2.0),
          (λ k. let b = kept.4 k in let s = sums k in omega (arith, s, b)),
          (λ k le. let b = kept.5 k le in let s = sums k in omega (arith, s, b)),
        ),
        refl,
      )

  -- a pass is cut in two: each half has no more than the whole
  cuts : (port : ℕ) (v l r : Slip T) → (l.gives ≡ true → (v.gives ≡ true) × (l.log ≡ v.log)) → r.gives ≡ false → ((log : List T) → ClaimIn log v.number v.task
      → ClaimIn log l.number l.task × ClaimIn log r.number r.task)
      → ((k : ℕ) → uses k l + uses k r ≤ uses k v) → Forks Kept port v l r
  cuts port v l r gives plain claim less items views kept at =
      let mine = kept.3 port v at in
      let vs = set views port l in
      let both = claim kept.1 mine.1 in
      let fits = fits_set kept.0 kept.1 views port l (λ j u apart e. kept.3 j u e) ((λ g. let o = gives g in let m = mine.0 o.0 in (m.0, o.1 ∙ m.1)), both.0) in
      let sums : (k : ℕ) → used k items (vs ++ r ∷ []) ≤ used k items views = λ k.
      let le = less k in
      omega (arith, sum_by_push (uses k) vs r, sum_set (uses k) views port v l at, le) in (
        kept.0,
        kept.1,
        kept.2,
        (λ j u e. ⊎_elim (λ (was : get_elem? vs j ≡ some u). fits j u was)
            (λ (new : r ≡ u). subst (Fits kept.0 kept.1 j) new ((λ g. absurd (off (sym plain ∙ g))), both.1)) (at_snoc vs r u j e)),
        (λ k. let b = kept.4 k in let s = sums k in omega (arith, s, b)),
        (λ k le. let b = kept.5 k le in let s = sums k in omega (arith, s, b)),
      )

  pub blanks : (port : ℕ) (v : Slip T) → Forks Kept port v v blank
  blanks port v = cuts port v v blank (λ g. (g, refl)) refl (λ log c. (c, tt)) (λ k. omega arith)

  pub notes : (port : ℕ) (v : Slip T) → Forks Kept port v (slip v.gives v.log v.back 0 []) (slip false [] [] v.number v.task)
  notes port v = cuts port v (slip v.gives v.log v.back 0 []) (slip false [] [] v.number v.task) (λ g. (g, refl)) refl (λ log c. (tt, c)) (λ k. omega arith)

  pub ends : (port : ℕ) (v : Slip T) → 0 < length v.task → Forks Kept port v (slip v.gives v.log (v.number ∷ v.back) 0 []) blank
  ends port v some_task =
      cuts port v (slip v.gives v.log (v.number ∷ v.back) 0 []) blank (λ g. (g, refl)) refl (λ log c. (tt, tt))
      (λ k. let c = has k v.number v.task some_task in omega (arith, sum_by-cons (one k) v.number v.back, c))
    where
      has : (k n : ℕ) (task : List T) → 0 < length task → claims k n task ≡ one k n
      has k n [] lt = absurd (omega (arith, lt))
      has k n (x ∷ xs) lt = refl

  pub brings : (port : ℕ) (v : Slip T) (other : ℕ) (u : Slip T) → v.task ≡ [] → Merges Kept port v other u (slip v.gives v.log v.back u.number u.task) blank
  brings port v other u bare items views kept at apart there =
      let both : Slip T = slip v.gives v.log v.back u.number u.task in
      let mine = kept.3 port v at in
      let vs = set views port both in
      let was : get_elem? views other ≡ some u = ⊎_elim (λ (t : (other ≡ port) × (both ≡ u)). absurd (apart t.0)) (λ (t : (other ≢ port) × (get_elem? views other ≡ some u)). t.1)
      (at_set views port other both u there) in
      let theirs = kept.3 other u was in
      let none : (k : ℕ) → claims k v.number v.task ≡ 0 = λ k. ap (λ (t : List T). claims k v.number t) bare in
      let sums : (k : ℕ) → used k items (set vs other blank) ≤ used k items views = λ k.
      let z = none k in
      omega (arith, sum_set (uses k) views port v both at, sum_set (uses k) vs other u blank there, z) in (
        kept.0,
        kept.1,
        kept.2,
        fits_set kept.0 kept.1 vs other blank
            (λ j y _ e. fits_set kept.0 kept.1 views port both (λ i z _ e'. kept.3 i z e') (mine.0, theirs.1) j y e) ((λ g. absurd (off g)), tt),
        (λ k. let b = kept.4 k in let s = sums k in omega (arith, s, b)),
        (λ k le. let b = kept.5 k le in let s = sums k in omega (arith, s, b)),
      )

  pub knows : (port : ℕ) (v : Slip T) → Learns Kept port v (λ items. Known v)
  knows port v items views kept at gives =
      let mine = kept.3 port v at in
      let same : v.log ≡ kept.1 = (mine.0 gives).1 in
      let len = ap length same in
      let part : (k : ℕ) → uses k v ≤ used k items views = λ k. omega (arith, part_of_sum (uses k) views port v at) in (
        subst (λ (l : List T). ClaimIn l v.number v.task) (sym same) mine.1,
        (λ k. let b = kept.4 k in let p = part k in omega (arith, p, b)),
        (λ k le. let b = kept.5 k (omega (arith, le, len)) in let p = part k in omega (arith, p, b)),
      )

  -- of the task that the pass that asks has
  pub known_below : (v : Slip T) (n : ℕ) → n ≡ v.number → length v.task ≡ 1 → ((k : ℕ) → length v.log ≤ k → uses k v ≡ 0) → n < length v.log
  known_below v n e size h = split (cases_lt n (length v.log))
    where
      here : (k : ℕ) (task : List T) → length task ≡ 1 → claims k k task ≡ 1
      here k [] s = absurd (omega (arith, s))
      here k (x ∷ xs) s = grind arith

      split : (n < length v.log) ⊎ (length v.log ≤ n) → n < length v.log
      split (inl lt) = lt
      split (inr le) = let z = h v.number (omega (arith, le, e)) in let o = here v.number v.task size in absurd (omega (arith, z, o))
