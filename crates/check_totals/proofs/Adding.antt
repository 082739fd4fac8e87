-- Lists that are added element by element.
use Rattle.std.proofs.Common.{◌≡◌, ◌<◌, ℕ, zero, suc, List, [], ◌∷◌, ◌++◌, length, map, take, drop, refl, ap, ◌∙◌, arith, get_or}
use Rattle.std.specs.List.{AllByRecursion}
use Rattle.check_totals.specs.Counts.{each_plus}

pub plus_none : {A : Type 0} (plus : A → A → A) (xs : List A) → each_plus plus xs [] ≡ xs
plus_none plus [] = refl
plus_none plus (x ∷ xs) = refl

pub plus_assoc : {A : Type 0} (plus : A → A → A) → ((x y z : A) → plus (plus x y) z ≡ plus x (plus y z)) → (xs ys zs : List A)
    → each_plus plus (each_plus plus xs ys) zs ≡ each_plus plus xs (each_plus plus ys zs)
plus_assoc plus law [] ys zs = refl
plus_assoc plus law (x ∷ xs) [] zs = refl
plus_assoc plus law (x ∷ xs) (y ∷ ys) [] = refl
plus_assoc plus law (x ∷ xs) (y ∷ ys) (z ∷ zs) =
    ap (λ l. plus (plus x y) z ∷ l) (plus_assoc plus law xs ys zs) ∙ ap (λ w. w ∷ each_plus plus xs (each_plus plus ys zs)) (law x y z)

pub mapped : {A B : Type 0} (f g : A → B) → ((x : A) → f x ≡ g x) → (xs : List A) → map f xs ≡ map g xs
mapped f g h [] = refl
mapped f g h (x ∷ xs) = ap (λ l. f x ∷ l) (mapped f g h xs) ∙ ap (λ y. y ∷ map g xs) (h x)

pub plus_mapped : {A B : Type 0} (plus : B → B → B) (f g : A → B) (xs : List A)
    → each_plus plus (map f xs) (map g xs) ≡ map (λ x. plus (f x) (g x)) xs
plus_mapped plus f g [] = refl
plus_mapped plus f g (x ∷ xs) = ap (λ l. plus (f x) (g x) ∷ l) (plus_mapped plus f g xs)

pub all_at : {X : Type 0} (P : X → Type 0) (xs : List X) (i : ℕ) (d : X) → AllByRecursion P xs → i < length xs → P (get_or xs i d)
all_at P [] i d all lt = absurd (omega (arith, lt))
all_at P (x ∷ xs) zero d all lt = all.0
all_at P (x ∷ xs) (suc i) d all lt = all_at P xs i d all.1 (omega (arith, lt))

-- ---- in place: at i, in front of which the sums stand and behind which the old elements

pub record IsAdding {A : Type 0} (plus : A → A → A) (i : ℕ) (xs ys zs : List A) : Type 0 where
  pub size : length zs ≡ length xs
  pub old : drop i zs ≡ drop i xs
  pub done : take i zs ++ each_plus plus (drop i xs) (drop i ys) ≡ each_plus plus xs ys
