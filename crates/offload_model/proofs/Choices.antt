-- Whatever the queues, the runs of a round are the same.
use Rattle.std.proofs.Common.{◌≡◌, ℕ, zero, suc, ◌+◌, ◌<◌, ◌≤◌, inl, inr, Bool, cond, Option, List, [], ◌∷◌, ◌++◌, length, refl, sym, ap, ◌∙◌, subst, arith}
use Rattle.std.specs.Prelude.{◌==◌}
use Rattle.std.specs.List.{flat_map, filter, AllByRecursion, range_with_len}
use Rattle.std.specs.List.Sorted.{IsPermutation}
use Rattle.std.proofs.lemmas.Bool.{eq-eqb, ne_eqb, cases_eq}
use Rattle.std.proofs.lemmas.List.Sorted.{IsPermutation-refl, IsPermutation-sym, IsPermutation-trans, IsPermutation-cons, IsPermutation-middle, IsPermutation-append_right}
use Rattle.maximal_runs.specs.Cut.{AllNeighbours}
use Rattle.maximal_runs.specs.Items.{begins_in, AreItems}
use Rattle.maximal_runs.proofs.Items.{unique_items}
use Rattle.maximal_runs.proofs.Parts.{part_items}
use Rattle.pcap_io.specs.Capture.{Packet}
use Rattle.frame_layout.specs.Key.{key_of}
use Rattle.offload_model.specs.Mergeable.{up_to, IsMergeableWithin}
use Rattle.offload_model.specs.Rounds.{Spread, is_of, is_queued, key_in, number_of, items_of, runs_in}
use Rattle.offload_model.specs.CaptureLaws.{QueuesKeepRuns, ChoicesKeepItems}
use Rattle.offload_model.proofs.Fronts.{fronts_too}
use Rattle.offload_model.proofs.Items.{key_eq_self, key_eq_same, are_flows, items_are, within_are}

-- the runs of all flows
all_runs : (segs : ℕ) (ps : List Packet) → AllNeighbours (λ p q. p.number < q.number) ps → AreItems (IsMergeableWithin (up_to segs)) is_of number_of ps (runs_in segs ps)
all_runs segs ps rising = within_are (up_to segs) ps rising

pub queues_keep_runs : QueuesKeepRuns
queues_keep_runs segs spread q ps rising =
    unique_items is_of number_of key_in (λ p. key_eq_self (key_of p.frame)) (IsMergeableWithin (up_to segs)) (fronts_too (up_to segs)) (filter (is_queued spread q) ps) (items_of segs spread q ps)
    (filter (begins_in (is_queued spread q)) (runs_in segs ps))
    (items_are segs spread q ps rising)
    (part_items (IsMergeableWithin (up_to segs)) is_of key_in number_of (is_queued spread q) are_flows (λ x y e. ap (λ (k : Option (List ℕ)). spread k == q) (key_eq_same (key_of x.frame) (key_of y.frame) e))
    ps (runs_in segs ps) (all_runs segs ps rising))

-- ---- a list that is parted by a number below n

module _ {X : Type 0} (f : X → ℕ) where
  abbrev parted : ℕ → ℕ → List X → List X
  parted k n xs = flat_map (λ q. filter (λ x. f x == q) xs) (range_with_len k n)

  parted_none : (k n : ℕ) → parted k n [] ≡ []
  parted_none k zero = refl
  parted_none k (suc n) = parted_none (k + 1) n

  outside : (k n : ℕ) (x : X) (xs : List X) → f x < k → parted k n (x ∷ xs) ≡ parted k n xs
  outside k zero x xs h = refl
  outside k (suc n) x xs h =
      ap (λ (b : Bool). cond b (x ∷ filter (λ x. f x == k) xs) (filter (λ x. f x == k) xs) ++ parted (k + 1) n (x ∷ xs)) (ne_eqb (f x) k (λ e. absurd (omega (arith, h, e))))
      ∙ ap (λ (z : List X). filter (λ x. f x == k) xs ++ z) (outside (k + 1) n x xs (omega (arith, h)))

  inside : (k n : ℕ) (x : X) (xs : List X) → k ≤ f x → f x < k + n → IsPermutation (x ∷ parted k n xs) (parted k n (x ∷ xs))
  inside k zero x xs l h = absurd (omega (arith, l, h))
  inside k (suc n) x xs l h =
      let A : List X = filter (λ x. f x == k) xs in
      elim (cases_eq (f x) k) [
        | inl e ↦
            let is : parted k (suc n) (x ∷ xs) ≡ x ∷ (A ++ parted (k + 1) n xs) =
            ap (λ (b : Bool). cond b (x ∷ A) A ++ parted (k + 1) n (x ∷ xs)) (eq-eqb (f x) k e)
            ∙ ap (λ (z : List X). x ∷ (A ++ z)) (outside (k + 1) n x xs (omega (arith, e))) in
            subst (λ (z : List X). IsPermutation (x ∷ (A ++ parted (k + 1) n xs)) z) (sym is) (IsPermutation-refl (x ∷ (A ++ parted (k + 1) n xs)))
        | inr ne ↦
            let is : parted k (suc n) (x ∷ xs) ≡ A ++ parted (k + 1) n (x ∷ xs) =
            ap (λ (b : Bool). cond b (x ∷ A) A ++ parted (k + 1) n (x ∷ xs)) (ne_eqb (f x) k ne) in
            subst (λ (z : List X). IsPermutation (x ∷ (A ++ parted (k + 1) n xs)) z) (sym is)
            (IsPermutation-trans (x ∷ (A ++ parted (k + 1) n xs)) (A ++ (x ∷ parted (k + 1) n xs)) (A ++ parted (k + 1) n (x ∷ xs))
            (IsPermutation-sym (A ++ (x ∷ parted (k + 1) n xs)) (x ∷ (A ++ parted (k + 1) n xs)) (IsPermutation-middle A x (parted (k + 1) n xs)))
            (IsPermutation-append_right A (x ∷ parted (k + 1) n xs) (parted (k + 1) n (x ∷ xs)) (inside (k + 1) n x xs (above k (f x) l ne) (omega (arith, h)))))
      ]
    where
      above : (k m : ℕ) → k ≤ m → (m ≡ k → ⊥) → k + 1 ≤ m
      above k m l ne = omega (arith, l, ne)

  all_parted : (n : ℕ) (xs : List X) → AllByRecursion (λ x. f x < n) xs → IsPermutation xs (parted 0 n xs)
  all_parted n [] h = subst (λ (z : List X). IsPermutation [] z) (sym (parted_none 0 n)) (IsPermutation-refl [])
  all_parted n (x ∷ xs) h =
      IsPermutation-trans (x ∷ xs) (x ∷ parted 0 n xs) (parted 0 n (x ∷ xs))
      (IsPermutation-cons x xs (parted 0 n xs) (all_parted n xs h.1))
      (inside 0 n x xs (omega arith) (omega (arith, h.0)))

-- ---- the queue of a run

abbrev queue_of_run : Spread → List Packet → ℕ
queue_of_run spread [] = 0
queue_of_run spread (p ∷ run) = spread (key_of p.frame)

same_test : (spread : Spread) (q : ℕ) (runs : List (List Packet)) → AllByRecursion (λ run. 0 < length run) runs
    → filter (begins_in (is_queued spread q)) runs ≡ filter (λ run. queue_of_run spread run == q) runs
same_test spread q [] h = refl
same_test spread q ([] ∷ runs) h = absurd (omega (arith, h.0))
same_test spread q ((p ∷ run) ∷ runs) h =
    ap (λ (z : List (List Packet)). cond (spread (key_of p.frame) == q) ((p ∷ run) ∷ z) z) (same_test spread q runs h.1)

each_below : (spread : Spread) (queues : ℕ) (runs : List (List Packet)) → ((key : Option (List ℕ)) → spread key < queues) → AllByRecursion (λ run. queue_of_run spread run < queues) runs
each_below spread queues [] h = tt
each_below spread queues ([] ∷ runs) h = (omega (arith, h none), each_below spread queues runs h)
  where
    none : Option (List ℕ)
    none = key_of []
each_below spread queues ((p ∷ run) ∷ runs) h = (h (key_of p.frame), each_below spread queues runs h)

each_queue : {X Y : Type 0} (f g : X → List Y) (xs : List X) → ((x : X) → f x ≡ g x) → flat_map f xs ≡ flat_map g xs
each_queue f g [] h = refl
each_queue f g (x ∷ xs) h = ap (λ z. z ++ flat_map f xs) (h x) ∙ ap (λ z. g x ++ z) (each_queue f g xs h)

all_spread : (segs : ℕ) (spread : Spread) (queues : ℕ) (ps : List Packet) → AllNeighbours (λ p q. p.number < q.number) ps → ((key : Option (List ℕ)) → spread key < queues)
    → IsPermutation (runs_in segs ps) (flat_map (λ q. items_of segs spread q ps) (range_with_len 0 queues))
all_spread segs spread queues ps rising below =
    let full : AllByRecursion (λ run. 0 < length run) (runs_in segs ps) = (all_runs segs ps rising).full in
    let e : flat_map (λ q. items_of segs spread q ps) (range_with_len 0 queues) ≡ parted (queue_of_run spread) 0 queues (runs_in segs ps) =
    each_queue (λ q. items_of segs spread q ps) (λ q. filter (λ run. queue_of_run spread run == q) (runs_in segs ps)) (range_with_len 0 queues)
    (λ q. queues_keep_runs segs spread q ps rising ∙ same_test spread q (runs_in segs ps) full) in
    subst (λ (z : List (List Packet)). IsPermutation (runs_in segs ps) z) (sym e) (all_parted (queue_of_run spread) queues (runs_in segs ps) (each_below spread queues (runs_in segs ps) below))

pub choices_keep_items : ChoicesKeepItems
choices_keep_items segs spread other queues others ps rising below above =
    IsPermutation-trans (flat_map (λ q. items_of segs spread q ps) (range_with_len 0 queues)) (runs_in segs ps) (flat_map (λ q. items_of segs other q ps) (range_with_len 0 others))
    (IsPermutation-sym (runs_in segs ps) (flat_map (λ q. items_of segs spread q ps) (range_with_len 0 queues)) (all_spread segs spread queues ps rising below))
    (all_spread segs other others ps rising above)
