-- A run is its first events, and then one more.
use Rattle.std.proofs.Common.{◌≡◌, ℕ, ◌+◌, ◌<◌, List, [], ◌∷◌, ◌++◌, refl, sym, ap, ◌∙◌, length, take, get_or}
use Rattle.std.proofs.lemmas.List.{take_more}
use Rattle.ref_core.specs.Agreement.{answers_of, after}
use Rattle.ref_core.specs.declared.event.Event.{Event}
use Rattle.ref_core.specs.declared.event.Answer.{Answer}

module _ {S : Type 0} (step : S → Event → S × Answer) where
  after_more : (s : S) (xs : List Event) (x : Event) → after step s (xs ++ x ∷ []) ≡ (step (after step s xs) x).0
  after_more s [] x = refl
  after_more s (y ∷ xs) x = after_more (step s y).0 xs x

  answers_more : (s : S) (xs : List Event) (x : Event) → answers_of step s (xs ++ x ∷ []) ≡ answers_of step s xs ++ (step (after step s xs) x).1 ∷ []
  answers_more s [] x = refl
  answers_more s (y ∷ xs) x = ap (λ rest. (step s y).1 ∷ rest) (answers_more (step s y).0 xs x)

  module _ (s : S) (xs : List Event) (i : ℕ) (d : Event) (here next : S) (answer : Answer) where
    pub run_state : i < length xs → here ≡ after step s (take i xs) → (next, answer) ≡ step here (get_or xs i d) → next ≡ after step s (take (i + 1) xs)
    run_state lt at is = ap (λ r. r.0) is ∙ (λ j. (step (at j) (get_or xs i d)).0) ∙ sym (after_more s (take i xs) (get_or xs i d)) ∙ sym (ap (after step s) (take_more xs i d lt))

    pub run_answers : i < length xs → here ≡ after step s (take i xs) → (next, answer) ≡ step here (get_or xs i d) → answers_of step s (take i xs) ++ answer ∷ [] ≡ answers_of step s (take (i + 1) xs)
    run_answers lt at is = (λ j. answers_of step s (take i xs) ++ (ap (λ r. r.1) is ∙ (λ j. (step (at j) (get_or xs i d)).1)) j ∷ []) ∙ sym (answers_more s (take i xs) (get_or xs i d)) ∙ sym
        (ap (answers_of step s) (take_more xs i d lt))
