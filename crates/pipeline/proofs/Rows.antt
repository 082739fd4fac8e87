-- Rounds that were read one after another.
use Rattle.std.proofs.Common.{◌≡◌, ◌+◌, ◌≤◌, ℕ, List, [], ◌∷◌, ◌++◌, Option, refl, ap, ◌∙◌, sym, subst, length, arith, append_assoc}
use Rattle.pcap_io.specs.declared.place.Place.{Place}
use Rattle.rounds.specs.declared.round_stages.RoundRead.{RoundRead}
use Rattle.rounds.specs.Reads.{Spot, spot, ReadRound}
use Rattle.pipeline.specs.declared.parcel.Parcel.{Parcel}
use Rattle.pipeline.specs.Parcels.{last_blocks, packets_of, rounds_of, spares_before, spares_of, weights_sent}

-- ---- lists

pub none_known : {A : Type 0} (xs : List A) → length xs ≤ 0 → xs ≡ []
none_known [] e = refl
none_known (x ∷ xs) e = absurd (omega (arith, e))

pub spares_last : (xs : List Parcel) (x : Parcel) → spares_of (xs ++ x ∷ []) ≡ spares_of xs + length x.read.round.spares
spares_last [] x = omega arith
spares_last (p ∷ xs) x = omega (arith, spares_last xs x)

-- all but the last one's
pub before_last : (xs xs1 : List Parcel) (p : Parcel) → xs1 ≡ xs ++ p ∷ [] → spares_before xs1 ≡ spares_of xs
before_last xs xs1 p is = ap spares_before is ∙ ends xs
  where
    ends : (ys : List Parcel) → spares_before (ys ++ p ∷ []) ≡ spares_of ys
    ends [] = refl
    ends (y ∷ []) = refl
    ends (y ∷ z ∷ ys) = omega (arith, ends (z ∷ ys))

pub before_few : (xs : List Parcel) → spares_before xs ≤ spares_of xs
before_few [] = omega arith
before_few (y ∷ []) = omega arith
before_few (y ∷ z ∷ ys) = omega (arith, before_few (z ∷ ys))

-- what these weigh, each by its name
pub weights_sent_append : (h : ℕ → ℕ) (xs ys : List Parcel) → weights_sent h (xs ++ ys) ≡ weights_sent h xs + weights_sent h ys
weights_sent_append h [] ys = omega arith
weights_sent_append h (p ∷ xs) ys = omega (arith, weights_sent_append h xs ys)

-- the last one's
pub last_is : (xs xs1 : List Parcel) (p : Parcel) → xs1 ≡ xs ++ p ∷ [] → last_blocks xs1 ≡ p.read.round.blocks
last_is xs xs1 p is = ap last_blocks is ∙ ends xs
  where
    ends : (ys : List Parcel) → last_blocks (ys ++ p ∷ []) ≡ p.read.round.blocks
    ends [] = refl
    ends (y ∷ []) = refl
    ends (y ∷ z ∷ ys) = ends (z ∷ ys)

-- what a ring has, of which some was received, is all that was sent
pub sum_of_both : {A : Type 0} (sum : List A → ℕ) → ((xs ys : List A) → sum (xs ++ ys) ≡ sum xs + sum ys) → (got now known all sent : List A) → now ≡ got → now ++ known ≡ all → all ≡ sent → sum got + sum known ≡ sum sent
sum_of_both sum append got now known all sent same fifo is = ap (λ l. sum l + sum known) (sym same) ∙ sym (append now known) ∙ ap sum (fifo ∙ is)

-- ---- rounds

pub rounds_append : (xs ys : List Parcel) → rounds_of (xs ++ ys) ≡ rounds_of xs ++ rounds_of ys
rounds_append [] ys = refl
rounds_append (p ∷ xs) ys = ap (λ (rs : List RoundRead). p.read ∷ rs) (rounds_append xs ys)

pub packets_append : (xs ys : List RoundRead) → packets_of (xs ++ ys) ≡ packets_of xs + packets_of ys
packets_append [] ys = omega arith
packets_append (x ∷ xs) ys = omega (arith, packets_append xs ys)

pub packets_none : (n : ℕ) (xs : List Parcel) → xs ≡ [] → packets_of (rounds_of xs) ≤ n
packets_none n xs none = subst (λ (ys : List Parcel). packets_of (rounds_of ys) ≤ n) (sym none) (omega arith)

-- one round more was sent
pub sent_more : (before sent sent1 : List Parcel) (more : List RoundRead) (p : Parcel) → rounds_of sent ≡ rounds_of before ++ more → sent1 ≡ sent ++ p ∷ []
    → rounds_of sent1 ≡ rounds_of before ++ (more ++ p.read ∷ [])
sent_more before sent sent1 more p is is1 =
    ap rounds_of is1 ∙ rounds_append sent (p ∷ []) ∙ ap (λ (rs : List RoundRead). rs ++ p.read ∷ []) is ∙ append_assoc (rounds_of before) more (p.read ∷ [])

pub rounds_last : (xs xs1 : List Parcel) (p : Parcel) → xs1 ≡ xs ++ p ∷ [] → rounds_of xs1 ≡ rounds_of xs ++ p.read ∷ []
rounds_last xs xs1 p is = ap rounds_of is ∙ rounds_append xs (p ∷ [])

-- the same round, by names of the same numbers
pub read_as : (b b' n n' t t' : ℕ) (place : Place) (left : Option (List ℕ)) (faults : ℕ) (to : Spot) (read : RoundRead) → b' ≡ b → n' ≡ n → t' ≡ t
    → ReadRound b' n' (spot place left faults t') to read → ReadRound b n (spot place left faults t) to read
read_as b b' n n' t t' place left faults to read eb en et r =
    subst (λ (x : ℕ). ReadRound x n (spot place left faults t) to read) eb
    (subst (λ (x : ℕ). ReadRound b' x (spot place left faults t) to read) en (subst (λ (x : ℕ). ReadRound b' n' (spot place left faults x) to read) et r))
