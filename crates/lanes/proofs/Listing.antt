-- Facts of each element, with its place.
use Rattle.std.proofs.Common.{◌≡◌, ℕ, zero, suc, ◌+◌, ◌<◌, ◌≤◌, List, [], ◌∷◌, ◌++◌, map, length, get_or, set, inl, inr, take, drop, refl, sym, ap, ◌∙◌, subst, below_more, arith}
use Rattle.std.proofs.lemmas.Bool.{cases_eq}
use Rattle.std.proofs.lemmas.List.{get_or_default, get_or-set_other, get_or-set_same, length-set}
use Rattle.std.specs.Prelude.{All}
use Rattle.std.specs.List.{range_with_len, AllByRecursion}
use Rattle.lanes.specs.Sharing.{EachFrom}

pub each_at : {A : Type 0} (P : ℕ → A → Type 0) (k : ℕ) (xs : List A) (i : ℕ) (d : A) → EachFrom P k xs → i < length xs → P (k + i) (get_or xs i d)
each_at P k [] i d h lt = absurd (omega (arith, lt))
each_at P k (x ∷ xs) zero d h lt = let e : k ≡ k + 0 = omega arith in subst (λ z. P z x) e h.0
each_at P k (x ∷ xs) (suc i) d h lt = let e : suc k + i ≡ k + suc i = omega arith in subst (λ z. P z (get_or xs i d)) e (each_at P (suc k) xs i d h.1 (omega (arith, lt)))

pub each_map : {A : Type 0} (P Q : ℕ → A → Type 0) (k : ℕ) (xs : List A) → ((i : ℕ) (x : A) → P i x → Q i x) → EachFrom P k xs → EachFrom Q k xs
each_map P Q k [] f h = tt
each_map P Q k (x ∷ xs) f h = (f k x h.0, each_map P Q (suc k) xs f h.1)

-- by places, and back from a list of which each place has it
each_from : {A : Type 0} (P : ℕ → A → Type 0) (k : ℕ) (xs : List A) → ((i : ℕ) (d : A) → i < length xs → P (k + i) (get_or xs i d)) → EachFrom P k xs
each_from P k [] h = tt
each_from P k (x ∷ xs) h =
    let e : k + 0 ≡ k = omega arith in (
      subst (λ z. P z x) e (h zero x (omega arith)),
      each_from P (suc k) xs (λ i d lt. let f : k + suc i ≡ suc k + i = omega arith in subst (λ z. P z (get_or xs i d)) f (h (suc i) d (omega (arith, lt)))),
    )

pub each_placed : {A : Type 0} (P : ℕ → A → Type 0) (xs : List A) → ((i : ℕ) (d : A) → i < length xs → P i (get_or xs i d)) → EachFrom P 0 xs
each_placed P xs h = each_from P 0 xs (λ i d lt. let e : i ≡ 0 + i = omega arith in subst (λ z. P z (get_or xs i d)) e (h i d lt))

-- what came of each element, one by one
pub each_did : {A : Type 0} (P Q : ℕ → A → Type 0) (D : A → A → Type 0) (k : ℕ) (xs ys : List A) → ((i : ℕ) (x y : A) → P i x → D x y → Q i y)
    → length ys ≡ length xs → EachFrom P k xs → ((i : ℕ) (d : A) → i < length xs → D (get_or xs i d) (get_or ys i d)) → EachFrom Q k ys
each_did P Q D k [] [] f e h did = tt
each_did P Q D k [] (y ∷ ys) f e h did = absurd (omega (arith, e))
each_did P Q D k (x ∷ xs) [] f e h did = absurd (omega (arith, e))
each_did P Q D k (x ∷ xs) (y ∷ ys) f e h did =
    (f k x y h.0 (did zero x (omega arith)), each_did P Q D (suc k) xs ys f (omega (arith, e)) h.1 (λ i d lt. did (suc i) d (omega (arith, lt))))

pub all_from : {A : Type 0} (P : ℕ → A → Type 0) (Q : A → Type 0) (k : ℕ) (xs : List A) → ((i : ℕ) (x : A) → P i x → Q x) → EachFrom P k xs → All Q xs
all_from P Q k xs f h i d lt = f (k + i) (get_or xs i d) (each_at P k xs i d h lt)

-- a value of each element that its place tells
pub each_equal : {A B : Type 0} (g : A → B) (f : ℕ → B) (k : ℕ) (xs : List A) → EachFrom (λ i x. g x ≡ f i) k xs → map g xs ≡ map f (range_with_len k (length xs))
each_equal g f k [] h = refl
each_equal g f k (x ∷ xs) h =
    let e : suc k ≡ k + 1 = omega arith in
    ap (λ z. z ∷ map g xs) h.0 ∙ ap (λ z. f k ∷ z) (each_equal g f (suc k) xs h.1 ∙ ap (λ z. map f (range_with_len z (length xs))) e)

pub all_set : {A : Type 0} (P : A → Type 0) (xs : List A) (i : ℕ) (y : A) → All P xs → P y → All P (set xs i y)
all_set P [] i y h p k d lt = absurd (omega (arith, lt))
all_set P (x ∷ xs) zero y h p zero d lt = p
all_set P (x ∷ xs) zero y h p (suc k) d lt = h (suc k) d (omega (arith, lt))
all_set P (x ∷ xs) (suc i) y h p zero d lt = h zero d (omega arith)
all_set P (x ∷ xs) (suc i) y h p (suc k) d lt = all_set P xs i y (λ j e l. h (suc j) e (omega (arith, l))) p k d (omega (arith, lt))

pub all_last : {A : Type 0} (P : A → Type 0) (xs : List A) (y : A) → All P xs → P y → All P (xs ++ y ∷ [])
all_last P [] y h p zero d lt = p
all_last P [] y h p (suc i) d lt = absurd (omega (arith, lt))
all_last P (x ∷ xs) y h p zero d lt = h zero d (omega arith)
all_last P (x ∷ xs) y h p (suc i) d lt = all_last P xs y (λ j e l. h (suc j) e (omega (arith, l))) p i d (omega (arith, lt))

-- the first i + 1 elements, of which one more is known
pub front_more : {A : Type 0} (P : A → Type 0) (xs : List A) (i : ℕ) (e : A) → i < length xs → ((k : ℕ) (d : A) → k < i → P (get_or xs k d)) → P (get_or xs i e)
    → (k : ℕ) (d : A) → k < i + 1 → P (get_or xs k d)
front_more {A} P xs i e lt below here k d less =
    below_more (λ j. (x : A) → P (get_or xs j x)) i (λ j h x. below j x h) (λ x. subst P (get_or_default xs i e x lt) here) k less d

-- below a place each has the property, and there it is had now
pub front_set : {A : Type 0} (P : A → Type 0) (xs : List A) (i : ℕ) (y : A) → ((k : ℕ) (d : A) → k < i → k < length xs → P (get_or xs k d)) → P y
    → (k : ℕ) (d : A) → k < suc i → k < length (set xs i y) → P (get_or (set xs i y) k d)
front_set P [] i y h p k d lt in_xs = absurd (omega (arith, in_xs))
front_set P (x ∷ xs) zero y h p zero d lt in_xs = p
front_set P (x ∷ xs) zero y h p (suc k) d lt in_xs = absurd (omega (arith, lt))
front_set P (x ∷ xs) (suc i) y h p zero d lt in_xs = h zero d (omega arith) (omega arith)
front_set P (x ∷ xs) (suc i) y h p (suc k) d lt in_xs = front_set P xs i y (λ j e l m. h (suc j) e (omega (arith, l)) (omega (arith, m))) p k d (omega (arith, lt)) (omega (arith, in_xs))

-- the same of a property that the place tells
pub place_set : {A : Type 0} (P : ℕ → A → Type 0) (xs : List A) (i n : ℕ) (y : A) → n ≡ i + 1 → ((k : ℕ) (d : A) → k < i → k < length xs → P k (get_or xs k d)) → P i y
    → (k : ℕ) (d : A) → k < n → k < length (set xs i y) → P k (get_or (set xs i y) k d)
place_set P xs i n y e h p k d low in_set =
    let size = length-set xs i y in
    elim (cases_eq k i) [
      | inl is ↦ subst (λ z. P z (get_or (set xs i y) z d)) (sym is) (subst (P i) (sym (get_or-set_same xs i y d (omega (arith, in_set, is, size)))) p)
      | inr not ↦ subst (P k) (sym (get_or-set_other xs i k y d not)) (h k d (omega (arith, low, e, not)) (omega (arith, in_set, size)))
    ]

-- from a place on none has changed
pub rest_set : {A : Type 0} (P : A → Type 0) (xs : List A) (i n : ℕ) (y : A) → n ≡ i + 1 → ((k : ℕ) (d : A) → i ≤ k → k < length xs → P (get_or xs k d))
    → (k : ℕ) (d : A) → n ≤ k → k < length (set xs i y) → P (get_or (set xs i y) k d)
rest_set P xs i n y e h k d le in_set =
    subst P (sym (get_or-set_other xs i k y d (λ is. absurd (omega (arith, is, le, e))))) (h k d (omega (arith, le, e)) (omega (arith, in_set, length-set xs i y)))

-- below a place each element is what came of it, and from there on none has changed
pub record DidUpTo {A : Type 0} (D : A → A → Type 0) (i : ℕ) (xs ys : List A) : Type 0 where
  pub front : (k : ℕ) (d : A) → k < i → k < length xs → D (get_or xs k d) (get_or ys k d)
  pub back : (k : ℕ) (d : A) → i ≤ k → get_or ys k d ≡ get_or xs k d
  pub size : length ys ≡ length xs

pub did_none : {A : Type 0} (D : A → A → Type 0) (xs : List A) → DidUpTo D 0 xs xs
did_none D xs = record { front = λ k d lt in_xs. absurd (omega (arith, lt)); back = λ k d le. refl; size = refl }

pub any_other : {A : Type 0} (xs : List A) (i : ℕ) (d e : A) → i < length xs → get_or xs i d ≡ get_or xs i e
any_other [] i d e lt = absurd (omega (arith, lt))
any_other (x ∷ xs) zero d e lt = refl
any_other (x ∷ xs) (suc i) d e lt = any_other xs i d e (omega (arith, lt))

pub did_more : {A : Type 0} (D : A → A → Type 0) (i n : ℕ) (xs ys : List A) (x y : A) → n ≡ i + 1 → i < length xs → D (get_or ys i x) y → DidUpTo D i xs ys → DidUpTo D n xs (set ys i y)
did_more {A = A} D i n xs ys x y e lt one h =
    let in_ys : i < length ys = omega (arith, lt, h.size) in
    let mine : (d : A) → D (get_or xs i d) y = λ d. subst (λ z. D z y) (h.back i x (omega arith) ∙ any_other xs i x d lt) one in
    record {
      front = λ k d low in_xs. elim (cases_eq k i) [
        | inl is ↦ subst (λ z. D (get_or xs z d) (get_or (set ys i y) z d)) (sym is) (subst (D (get_or xs i d)) (sym (get_or-set_same ys i y d in_ys)) (mine d))
        | inr not ↦ subst (D (get_or xs k d)) (sym (get_or-set_other ys i k y d not)) (h.front k d (omega (arith, low, e, not)) in_xs)
      ];
      back = λ k d le. get_or-set_other ys i k y d (λ is. absurd (omega (arith, is, le, e))) ∙ h.back k d (omega (arith, le, e));
      size = length-set ys i y ∙ h.size;
    }

-- what was written over all of a vector is what it holds
pub refilled : {A : Type 0} (len : ℕ) (ws xs : List A) → length ws ≡ length xs → len ≡ length xs → take len (ws ++ drop (length ws) xs) ≡ ws
refilled len ws xs e f = ap (λ z. take z (ws ++ drop (length ws) xs)) f ∙ whole ws xs e
  where
    whole : {A : Type 0} (ws xs : List A) → length ws ≡ length xs → take (length xs) (ws ++ drop (length ws) xs) ≡ ws
    whole [] [] e = refl
    whole [] (x ∷ xs) e = absurd (omega (arith, e))
    whole (w ∷ ws) [] e = absurd (omega (arith, e))
    whole (w ∷ ws) (x ∷ xs) e = ap (λ z. w ∷ z) (whole ws xs (omega (arith, e)))

-- ---- of each

pub all_front : {T : Type 0} (P : T → Type 0) (xs ys : List T) → AllByRecursion P (xs ++ ys) → AllByRecursion P xs
all_front P [] ys h = tt
all_front P (x ∷ xs) ys h = (h.0, all_front P xs ys h.1)

pub all_rear : {T : Type 0} (P : T → Type 0) (xs ys : List T) → AllByRecursion P (xs ++ ys) → AllByRecursion P ys
all_rear P [] ys h = h
all_rear P (x ∷ xs) ys h = all_rear P xs ys h.1

pub all_behind : {T : Type 0} (P : T → Type 0) (xs ys : List T) → AllByRecursion P xs → AllByRecursion P ys → AllByRecursion P (xs ++ ys)
all_behind P [] ys h k = k
all_behind P (x ∷ xs) ys h k = (h.0, all_behind P xs ys h.1 k)

pub all_turned : {T : Type 0} (P Q : T → Type 0) (xs : List T) → ((x : T) → P x → Q x) → AllByRecursion P xs → AllByRecursion Q xs
all_turned P Q [] f h = tt
all_turned P Q (x ∷ xs) f h = (f x h.0, all_turned P Q xs f h.1)
