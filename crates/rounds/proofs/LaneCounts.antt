-- What the lanes of a round hold, the first one apart, and clones beside them, the last one apart.
use Rattle.std.proofs.Common.{◌≡◌, ℕ, zero, suc, ◌+◌, ◌<◌, ◌≤◌, List, [], ◌∷◌, ◌++◌, length, drop, get_or, refl, sym, ap, ◌∙◌, subst, arith}
use Rattle.frags.specs.Account.{Tests}
use Rattle.skb.specs.SkbState.{of_buffer}
use Rattle.taps.specs.declared.clones.TapClone.{TapClone}
use Rattle.taps.specs.Clones.{blocks_of, of_clones}
use Rattle.lanes.specs.declared.lane.QueueLane.{QueueLane}
use Rattle.lanes.specs.declared.lane.TapLane.{TapLane}
use Rattle.gro.specs.Slots.{weighed_slots}
use Rattle.lanes.specs.Lanes.{of_queue, of_queues, of_tap, of_taps, count_of_queue, counts_of_queues, weighed_queues}
use Rattle.rounds.proofs.Coming.{IsSum}

-- ---- lists from a place on

pub dropped : {A : Type 0} (i : ℕ) (xs : List A) → length xs ≤ i → drop i xs ≡ []
dropped zero [] le = refl
dropped (suc i) [] le = refl
dropped zero (x ∷ xs) le = absurd (omega (arith, le))
dropped (suc i) (x ∷ xs) le = dropped i xs (omega (arith, le))

-- ---- queues

pub queue_first : (i n : ℕ) (xs : List QueueLane) (d x : QueueLane) → n ≡ suc i → i < length xs → x ≡ get_or xs i d → IsSum (of_queues (drop i xs)) (of_queue x) (of_queues (drop n xs))
queue_first i n xs d x e lt same =
    subst (λ (z : ℕ). IsSum (of_queues (drop i xs)) (of_queue x) (of_queues (drop z xs))) (sym e)
    (subst (λ (z : QueueLane). IsSum (of_queues (drop i xs)) (of_queue z) (of_queues (drop (suc i) xs))) (sym same) (first i xs lt))
  where
    first : (i : ℕ) (xs : List QueueLane) → i < length xs → IsSum (of_queues (drop i xs)) (of_queue (get_or xs i d)) (of_queues (drop (suc i) xs))
    first i [] lt = absurd (omega (arith, lt))
    first zero (y ∷ ys) lt = λ t m. (omega arith, omega arith)
    first (suc i) (y ∷ ys) lt = first i ys (omega (arith, lt))

pub queue_counts_first : (i n : ℕ) (xs : List QueueLane) (d x : QueueLane) → n ≡ suc i → i < length xs → x ≡ get_or xs i d
    → counts_of_queues (drop i xs) ≡ count_of_queue x + counts_of_queues (drop n xs)
queue_counts_first i n xs d x e lt same =
    subst (λ (z : ℕ). counts_of_queues (drop i xs) ≡ count_of_queue x + counts_of_queues (drop z xs)) (sym e)
    (subst (λ (z : QueueLane). counts_of_queues (drop i xs) ≡ count_of_queue z + counts_of_queues (drop (suc i) xs)) (sym same) (first i xs lt))
  where
    first : (i : ℕ) (xs : List QueueLane) → i < length xs → counts_of_queues (drop i xs) ≡ count_of_queue (get_or xs i d) + counts_of_queues (drop (suc i) xs)
    first i [] lt = absurd (omega (arith, lt))
    first zero (y ∷ ys) lt = refl
    first (suc i) (y ∷ ys) lt = first i ys (omega (arith, lt))

pub queue_weights_first : (h : ℕ → ℕ) (i n : ℕ) (xs : List QueueLane) (d x : QueueLane) → n ≡ suc i → i < length xs → x ≡ get_or xs i d
    → weighed_queues h (drop i xs) ≡ weighed_slots h x.packets.items + weighed_queues h (drop n xs)
queue_weights_first h i n xs d x e lt same =
    subst (λ (z : ℕ). weighed_queues h (drop i xs) ≡ weighed_slots h x.packets.items + weighed_queues h (drop z xs)) (sym e)
    (subst (λ (z : QueueLane). weighed_queues h (drop i xs) ≡ weighed_slots h z.packets.items + weighed_queues h (drop (suc i) xs)) (sym same) (first i xs lt))
  where
    first : (i : ℕ) (xs : List QueueLane) → i < length xs → weighed_queues h (drop i xs) ≡ weighed_slots h (get_or xs i d).packets.items + weighed_queues h (drop (suc i) xs)
    first i [] lt = absurd (omega (arith, lt))
    first zero (y ∷ ys) lt = refl
    first (suc i) (y ∷ ys) lt = first i ys (omega (arith, lt))

pub no_queues : (xs : List QueueLane) → xs ≡ [] → (t : Tests) (m : ℕ) → ((of_queues xs).held t m ≡ 0) × ((of_queues xs).homes t.blocks m ≡ 0)
no_queues xs e t m = (ap (λ (z : List QueueLane). (of_queues z).held t m) e, ap (λ (z : List QueueLane). (of_queues z).homes t.blocks m) e)

-- ---- taps

pub tap_first : (i n : ℕ) (xs : List TapLane) (d x : TapLane) → n ≡ suc i → i < length xs → x ≡ get_or xs i d → IsSum (of_taps (drop i xs)) (of_tap x) (of_taps (drop n xs))
tap_first i n xs d x e lt same =
    subst (λ (z : ℕ). IsSum (of_taps (drop i xs)) (of_tap x) (of_taps (drop z xs))) (sym e)
    (subst (λ (z : TapLane). IsSum (of_taps (drop i xs)) (of_tap z) (of_taps (drop (suc i) xs))) (sym same) (first i xs lt))
  where
    first : (i : ℕ) (xs : List TapLane) → i < length xs → IsSum (of_taps (drop i xs)) (of_tap (get_or xs i d)) (of_taps (drop (suc i) xs))
    first i [] lt = absurd (omega (arith, lt))
    first zero (y ∷ ys) lt = λ t m. (omega arith, omega arith)
    first (suc i) (y ∷ ys) lt = first i ys (omega (arith, lt))

pub no_taps : (xs : List TapLane) → xs ≡ [] → (t : Tests) (m : ℕ) → ((of_taps xs).held t m ≡ 0) × ((of_taps xs).homes t.blocks m ≡ 0)
no_taps xs e t m = (ap (λ (z : List TapLane). (of_taps z).held t m) e, ap (λ (z : List TapLane). (of_taps z).homes t.blocks m) e)

-- ---- clones that were kept

clones_last : (xs : List TapClone) (x : TapClone) → IsSum (of_clones (xs ++ x ∷ [])) (of_buffer x.skb) (of_clones xs)
clones_last [] x t m = (omega arith, omega arith)
clones_last (y ∷ ys) x t m = let i = clones_last ys x t m in (omega (arith, i), omega (arith, i))

pub clones_pop : (a b : List TapClone) (x : TapClone) → a ≡ b ++ x ∷ [] → IsSum (of_clones a) (of_buffer x.skb) (of_clones b)
clones_pop a b x e = subst (λ (z : List TapClone). IsSum (of_clones z) (of_buffer x.skb) (of_clones b)) (sym e) (clones_last b x)

pub no_clones : (xs : List TapClone) → xs ≡ [] → (t : Tests) (m : ℕ) → ((of_clones xs).held t m ≡ 0) × ((of_clones xs).homes t.blocks m ≡ 0)
no_clones xs e t m = (ap (λ (z : List TapClone). (of_clones z).held t m) e, ap (λ (z : List TapClone). (of_clones z).homes t.blocks m) e)

clone_blocks_last : (xs : List TapClone) (x : TapClone) → blocks_of (xs ++ x ∷ []) ≡ blocks_of (x ∷ []) + blocks_of xs
clone_blocks_last [] x = omega arith
clone_blocks_last (y ∷ ys) x = omega (arith, clone_blocks_last ys x)

pub clone_blocks_pop : (a b : List TapClone) (x : TapClone) → a ≡ b ++ x ∷ [] → blocks_of a ≡ blocks_of (x ∷ []) + blocks_of b
clone_blocks_pop a b x e = ap blocks_of e ∙ clone_blocks_last b x
