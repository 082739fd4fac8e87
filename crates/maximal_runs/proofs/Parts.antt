-- The runs of some of the flows are those of all flows that begin in these.
use Rattle.std.proofs.Common.{◌≡◌, ℕ, ◌<◌, Bool, true, false, cond, List, [], ◌∷◌, ◌++◌, length, take, refl, sym, ap, ◌∙◌, subst, arith}
use Rattle.std.specs.List.{filter, flat_map, AllByRecursion}
use Rattle.maximal_runs.specs.Cut.{AllNeighbours, IsCut, IsClosedUnderFronts}
use Rattle.maximal_runs.specs.Items.{begins_in, first_number, AreFlows, AreItems, items_of}
use Rattle.maximal_runs.proofs.Items.{unique_items}
use Rattle.maximal_runs.proofs.Ordered.{items_are_runs, all_filtered, all_passing, rises_of, rises_filtered, neighbours_of}

-- two tests may be asked in either order
filter_swap : {X : Type 0} (p q : X → Bool) (xs : List X) → filter p (filter q xs) ≡ filter q (filter p xs)
filter_swap p q [] = refl
filter_swap {X} p q (x ∷ xs) =
    elim (p x) as (λ v. p x ≡ v → filter p (cond (q x) (x ∷ filter q xs) (filter q xs)) ≡ filter q (cond v (x ∷ filter p xs) (filter p xs))) [
      | true ↦ λ e. elim (q x) as (λ w. q x ≡ w → filter p (cond w (x ∷ filter q xs) (filter q xs)) ≡ cond w (x ∷ filter q (filter p xs)) (filter q (filter p xs))) [
        | true ↦ λ d. rw e (ap (λ (z : List X). x ∷ z) (filter_swap p q xs))
        | false ↦ λ d. filter_swap p q xs
      ] refl
      | false ↦ λ e. elim (q x) as (λ w. filter p (cond w (x ∷ filter q xs) (filter q xs)) ≡ filter q (filter p xs)) [
        | true ↦ rw e (filter_swap p q xs)
        | false ↦ filter_swap p q xs
      ]
    ] refl

-- a test that answers the same at each element keeps all or none
filter_one : {X : Type 0} (p : X → Bool) (b : Bool) (xs : List X) → AllByRecursion (λ x. p x ≡ b) xs → filter p xs ≡ cond b xs []
filter_one p true [] h = refl
filter_one p false [] h = refl
filter_one {X} p true (x ∷ xs) h = rw h.0 (ap (λ (z : List X). x ∷ z) (filter_one p true xs h.1))
filter_one p false (x ∷ xs) h = rw h.0 (filter_one p false xs h.1)

each_of : {X : Type 0} (P Q : X → Type 0) (xs : List X) → ((x : X) → P x → Q x) → AllByRecursion P xs → AllByRecursion Q xs
each_of P Q [] f a = tt
each_of P Q (x ∷ xs) f a = (f x a.0, each_of P Q xs f a.1)

none_left : {A : Type 0} (runs : List (List A)) → AllByRecursion (λ run. 0 < length run) runs → flat_map (λ run. run) runs ≡ [] → runs ≡ []
none_left [] f e = refl
none_left ([] ∷ runs) f e = absurd (omega (arith, f.0))
none_left ((x ∷ run) ∷ runs) f e = absurd cc

module _ {A K : Type 0} (M : List A → Type 0) (flow : K → A → Bool) (key : A → K) (number : A → ℕ) (part : A → Bool)
    (flows : AreFlows flow key) (whole : (x y : A) → flow (key x) y ≡ true → part x ≡ part y) where
  -- two elements of one flow are both in the part, or neither is
  alike : (k : K) (x y : A) → flow k x ≡ true → flow k y ≡ true → part y ≡ part x
  alike k x y a b = sym (whole x y (sym (flows.one k x y a) ∙ b))

  begin_alike : (k : K) (x : A) (run : List A) → flow k x ≡ true → begins_in (flow k) run ≡ true → begins_in part run ≡ part x
  begin_alike k x [] a b = absurd cc
  begin_alike k x (y ∷ run) a b = alike k x y a b

  cut_part : (k : K) (xs : List A) (runs : List (List A)) → IsCut M (filter (flow k) xs) (filter (begins_in (flow k)) runs)
      → IsCut M (filter (flow k) (filter part xs)) (filter (begins_in (flow k)) (filter (begins_in part) runs))
  cut_part k xs runs c =
      let ys : List A = filter (flow k) xs in
      let rs : List (List A) = filter (begins_in (flow k)) runs in
      subst (λ (z : List A). IsCut M z (filter (begins_in (flow k)) (filter (begins_in part) runs))) (filter_swap part (flow k) xs)
      (subst (λ (z : List (List A)). IsCut M (filter part ys) z) (filter_swap (begins_in part) (begins_in (flow k)) runs)
      (own ys rs (all_passing (flow k) xs) (all_passing (begins_in (flow k)) runs) c))
    where
      own : (ys : List A) (rs : List (List A)) → AllByRecursion (λ x. flow k x ≡ true) ys → AllByRecursion (λ run. begins_in (flow k) run ≡ true) rs
          → IsCut M ys rs → IsCut M (filter part ys) (filter (begins_in part) rs)
      own [] rs a b c = subst (λ (z : List (List A)). IsCut M [] (filter (begins_in part) z)) (sym (none_left rs c.filled c.joined))
          (record { filled = tt; joined = refl; each = tt; maximal = tt })
      own (y ∷ ys) rs a b c =
          let ef : filter part (y ∷ ys) ≡ cond (part y) (y ∷ ys) [] = filter_one part (part y) (y ∷ ys)
          (each_of (λ x. flow k x ≡ true) (λ x. part x ≡ part y) (y ∷ ys) (λ x h. alike k y x a.0 h) a) in
          let er : filter (begins_in part) rs ≡ cond (part y) rs [] = filter_one (begins_in part) (part y) rs
          (each_of (λ run. begins_in (flow k) run ≡ true) (λ run. begins_in part run ≡ part y) rs (λ run h. begin_alike k y run a.0 h) b) in
          subst (λ (z : List A). IsCut M z (filter (begins_in part) rs)) (sym ef)
          (subst (λ (z : List (List A)). IsCut M (cond (part y) (y ∷ ys) []) z) (sym er)
          (elim (part y) as (λ v. IsCut M (cond v (y ∷ ys) []) (cond v rs [])) [
            | true ↦ c
            | false ↦ record { filled = tt; joined = refl; each = tt; maximal = tt }
          ]))

  -- the runs of a part of the flows
  pub part_items : (xs : List A) (items : List (List A)) → AreItems M flow number xs items → AreItems M flow number (filter part xs) (filter (begins_in part) items)
  part_items xs items i = record {
    full = all_filtered (λ run. 0 < length run) (begins_in part) items i.full;
    flows = λ k. cut_part k xs items (i.flows k);
    ordered = neighbours_of (first_number number) (filter (begins_in part) items) (rises_filtered (first_number number) (begins_in part) items (rises_of (first_number number) items i.ordered));
  }
