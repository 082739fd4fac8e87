-- Each kind of step keeps the rule of the pool's queue.
use Rattle.std.proofs.Common.{◌≡◌, ◌≢◌, ℕ, ◌+◌, ◌-◌, ◌<◌, List, [], ◌∷◌, ◌++◌, length, set, sym, refl, ap, ◌∙◌, ⊎_elim, arith}
use Rattle.std.specs.List.{sum_by}
use Rattle.std.proofs.lemmas.List.Sums.{sum_by-append, sum_by_push}
use mathlib.Core.Option.{some}
use lib.ListN.{get_elem?}
use Rattle.crossbeam_queue.specs.Fifo.{Pushes, Pops, Forks, Merges, Learns}
use Rattle.crossbeam_queue.proofs.Lists.{at_set, at_snoc}
use Rattle.block_pool.specs.declared.shared.rule.Tally.{Tally}
use Rattle.block_pool.specs.QueueRule.{tally, parts_of, taken_of, put_of, IdleIsEmpty, IsEven, Kept, Shown}
use Rattle.block_pool.proofs.Totals.{sum_set, part_of_sum, count_by_ones, others_have_none, sum_of_one}

module _ {T : Type 0} where
  abbrev parts : Tally T → ℕ
  parts v = v.parts

  abbrev taken : (T → ℕ) → Tally T → ℕ
  taken h v = sum_by h v.taken

  abbrev put : (T → ℕ) → Tally T → ℕ
  put h v = sum_by h v.put

  abbrev made : (T → ℕ) → Tally T → ℕ
  made h v = sum_by h v.made

  -- A change of one pass leaves passes without parts idle, where the changed one has parts or is idle too.
  idle_set : (views : List (Tally T)) (port : ℕ) (w : Tally T) → (w.parts ≡ 0 → (w.taken ≡ []) × (w.put ≡ []))
      → IdleIsEmpty views → IdleIsEmpty (set views port w)
  idle_set views port w mine others j u there none =
      ⊎_elim (λ (here : (j ≡ port) × (w ≡ u)).
      let m = mine (ap parts here.1 ∙ none) in
      (sym (ap (λ (y : Tally T). y.taken) here.1) ∙ m.0, sym (ap (λ (y : Tally T). y.put) here.1) ∙ m.1))
      (λ (else : (j ≢ port) × (get_elem? views j ≡ some u)). others j u else.1 none) (at_set views port j w u there)

  -- A change of one pass: what is even of it and of all others is even of all.
  even_set : (items : List T) (views : List (Tally T)) (port : ℕ) (w : Tally T)
      → ((h : T → ℕ) → 0 < w.parts → sum_by h items + taken_of h (set views port w) ≡ sum_by h w.made + put_of h (set views port w))
      → ((h : T → ℕ) (j : ℕ) (u : Tally T) → j ≢ port → get_elem? views j ≡ some u → 0 < u.parts
      → sum_by h items + taken_of h (set views port w) ≡ sum_by h u.made + put_of h (set views port w))
      → IsEven items (set views port w)
  even_set items views port w mine others h j u there some_part =
      ⊎_elim (λ (here : (j ≡ port) × (w ≡ u)). let m = mine h (omega (arith, ap parts here.1, some_part)) in
      omega (arith, m, ap (made h) here.1))
      (λ (else : (j ≢ port) × (get_elem? views j ≡ some u)). others h j u else.0 else.1 some_part) (at_set views port j w u there)

  -- a push while the pool is made, by the pass that has all parts
  pub fills : (n port : ℕ) (v : Tally T) (x : T) → v.parts ≡ 65536
      → Pushes Kept n port v x (λ w. w ≡ tally v.parts (v.made ++ x ∷ []) v.taken v.put)
  fills n port v x all items views room kept at =
      let w : Tally T = tally v.parts (v.made ++ x ∷ []) v.taken v.put in
      let k = kept.0 in (
        w,
        (
          omega (arith, sum_set parts views port v w at, k),
          idle_set views port w (λ none. absurd (omega (arith, all, none))) kept.1,
          even_set (items ++ x ∷ []) views port w
              (λ h _.
              let m = kept.2 h port v at (omega (arith, all)) in
              omega (
                arith,
                m,
                sum_set (taken h) views port v w at,
                sum_set (put h) views port v w at,
                sum_by_push h items x,
                sum_by_push h v.made x,
              ))
              (λ h j u apart there some_part. absurd (omega (
                arith,
                others_have_none views port v at (omega (
                  arith,
                  k,
                  all,
                )) j u apart there,
                some_part,
              ))),
        ),
        refl,
      )

  pub puts : (n port : ℕ) (v : Tally T) (x : T) → 0 < v.parts → Pushes Kept n port v x (λ w. w
      ≡ tally v.parts v.made v.taken (v.put ++ x ∷ []))
  puts n port v x some_part items views room kept at =
      let w : Tally T = tally v.parts v.made v.taken (v.put ++ x ∷ []) in
      let k = kept.0 in
      let even : (h : T → ℕ) (j : ℕ) (u : Tally T) → get_elem? views j ≡ some u → 0 < u.parts
      → sum_by h (items ++ x ∷ []) + taken_of h (set views port w) ≡ sum_by h u.made + put_of h (set views port w) = λ h j u there theirs.
      let m = kept.2 h j u there theirs in
      omega (arith, m, sum_set (taken h) views port v w at, sum_set (put h) views port v w at, sum_by_push h items x, sum_by_push h v.put x)
      in (
        w,
        (
          omega (arith, sum_set parts views port v w at, k),
          idle_set views port w (λ none. absurd (omega (arith, some_part, none))) kept.1,
          even_set (items ++ x ∷ []) views port w (λ h _. even h port v at some_part) (λ h j u apart there theirs. even h j u there theirs),
        ),
        refl,
      )

  pub takes : (port : ℕ) (v : Tally T) → 0 < v.parts → Pops Kept port v (λ x w. w ≡ tally v.parts v.made (v.taken ++ x ∷ []) v.put)
  takes port v some_part x items views kept at =
      let w : Tally T = tally v.parts v.made (v.taken ++ x ∷ []) v.put in
      let k = kept.0 in
      let even : (h : T → ℕ) (j : ℕ) (u : Tally T) → get_elem? views j ≡ some u → 0 < u.parts
      → sum_by h items + taken_of h (set views port w) ≡ sum_by h u.made + put_of h (set views port w) = λ h j u there theirs.
      let m = kept.2 h j u there theirs in
      omega (
        arith,
        m,
        sum_set (taken h) views port v w at,
        sum_set (put h) views port v w at,
        sum_by-append h (x ∷ []) items,
        sum_by-append h v.taken (x ∷ []),
      )
      in (
        w,
        (
          omega (arith, sum_set parts views port v w at, k),
          idle_set views port w (λ none. absurd (omega (arith, some_part, none))) kept.1,
          even_set items views port w (λ h _. even h port v at some_part) (λ h j u apart there theirs. even h j u there theirs),
        ),
        refl,
      )

  pub forks : (port : ℕ) (v : Tally T) → 1 < v.parts → Forks Kept port v (tally (v.parts - 1) v.made v.taken v.put) (tally 1 v.made [] [])
  forks port v two items views kept at =
      let l : Tally T = tally (v.parts - 1) v.made v.taken v.put in
      let r : Tally T = tally 1 v.made [] [] in
      let vs : List (Tally T) = set views port l in
      let k = kept.0 in
      let idle : IdleIsEmpty vs = idle_set views port l (λ none. absurd (omega (arith, two, none))) kept.1 in
      let even : (h : T → ℕ) (j : ℕ) (u : Tally T) → get_elem? views j ≡ some u → 0 < u.parts
      → sum_by h items + taken_of h (vs ++ r ∷ []) ≡ sum_by h u.made + put_of h (vs ++ r ∷ []) = λ h j u there theirs.
      let m = kept.2 h j u there theirs in
      omega (
        arith,
        m,
        sum_set (taken h) views port v l at,
        sum_set (put h) views port v l at,
        sum_by_push (taken h) vs r,
        sum_by_push (put h) vs r,
      )
      in (
        omega (arith, sum_set parts views port v l at, sum_by_push parts vs r, k, two),
        (λ j u there none. ⊎_elim (λ (old : get_elem? vs j ≡ some u). idle j u old none)
            (λ (new : r ≡ u). absurd (omega (arith, ap parts new, none))) (at_snoc vs r u j there)),
        (λ h j u there theirs. ⊎_elim
            (λ (old : get_elem? vs j ≡ some u). ⊎_elim
            (λ (here : (j ≡ port) × (l ≡ u)). let m = even h port v at (omega (arith, two)) in omega (arith, m, ap (made h) here.1))
            (λ (else : (j ≢ port) × (get_elem? views j ≡ some u)). even h j u else.1 theirs) (at_set views port j l u old))
            (λ (new : r ≡ u). let m = even h port v at (omega (arith, two)) in omega (arith, m, ap (made h) new)) (at_snoc vs r u j there)),
      )

  pub merges : (port : ℕ) (v : Tally T) (other : ℕ) (u : Tally T) → 0 < v.parts
      → Merges Kept port v other u (tally (v.parts + u.parts) v.made (v.taken ++ u.taken) (v.put ++ u.put)) (tally 0 [] [] [])
  merges port v other u some_part items views kept at two at' =
      let both : Tally T = tally (v.parts + u.parts) v.made (v.taken ++ u.taken) (v.put ++ u.put) in
      let none : Tally T = tally 0 [] [] [] in
      let vs : List (Tally T) = set views port both in
      let k = kept.0 in
      let even : (h : T → ℕ) (j : ℕ) (y : Tally T) → get_elem? views j ≡ some y → 0 < y.parts
      → sum_by h items + taken_of h (set vs other none) ≡ sum_by h y.made + put_of h (set vs other none) = λ h j y there theirs.
      let m = kept.2 h j y there theirs in
      let t = sum_set (taken h) views port v both at in
      let q = sum_set (put h) views port v both at in
      let t' = sum_set (taken h) vs other u none at' in
      let q' = sum_set (put h) vs other u none at' in
      omega (arith, m, t, q, t', q', sum_by-append h v.taken u.taken, sum_by-append h v.put u.put)
      in (
        omega (arith, sum_set parts views port v both at, sum_set parts vs other u none at', k),
        idle_set vs other none (λ _. (refl, refl)) (idle_set views port both (λ e. absurd (omega (arith, some_part, e))) kept.1),
        even_set items vs other none (λ h e. absurd (omega (arith, e)))
            (λ h j y apart there theirs. ⊎_elim
            (λ (here : (j ≡ port) × (both ≡ y)). let m = even h port v at some_part in omega (arith, m, ap (made h) here.1))
            (λ (else : (j ≢ port) × (get_elem? views j ≡ some y)). even h j y else.1 theirs) (at_set views port j both y there)),
      )

  -- where a pass has all parts, what it took and put is all that was
  whole : (items : List T) (views : List (Tally T)) (port : ℕ) (v : Tally T) → Kept items views → get_elem? views port
      ≡ some v → v.parts ≡ 65536
      → (h : T → ℕ) → sum_by h items + sum_by h v.taken ≡ sum_by h v.made + sum_by h v.put
  whole items views port v kept at all h =
      let a : parts_of views ≡ v.parts = kept.0 ∙ sym all in
      let t = sum_of_one (taken h) views port v at a (λ j u there none. ap (sum_by h) (kept.1 j u there none).0) in
      let q = sum_of_one (put h) views port v at a (λ j u there none. ap (sum_by h) (kept.1 j u there none).1) in
      let m = kept.2 h port v at (omega (arith, all)) in
      omega (arith, t, q, m)

  -- what a list of no items weighs
  weighs_none : (items : List T) → length items ≡ 0 → (h : T → ℕ) → sum_by h items ≡ 0
  weighs_none [] none h = refl
  weighs_none (x ∷ xs) none h = absurd (omega (arith, none))

  pub learns : (port : ℕ) (v : Tally T) → Learns Kept port v (Shown v)
  learns port v items views kept at = (
    (
      omega (arith, kept.0, part_of_sum parts views port v at),
      (λ (all : v.parts ≡ 65536).
          let m = whole items views port v kept at all (λ _. 1) in
          omega (arith, m, count_by_ones items, count_by_ones v.taken, count_by_ones v.made, count_by_ones v.put)),
      (λ (all : v.parts ≡ 65536). whole items views port v kept at all),
    ),
    weighs_none items,
  )
