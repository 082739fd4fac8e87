-- The runs of a round's packets, flow by flow.
use Rattle.std.proofs.Common.{◌≡◌, ℕ, zero, suc, ◌+◌, ◌<◌, ◌≤◌, Bool, true, false, not, cond, Option, List, [], ◌∷◌, ◌++◌, length, refl, sym, ap, ◌∙◌, arith, length-append, subst}
use Rattle.std.specs.List.{flat_map, filter, AllByRecursion, range_with_len}
use Rattle.std.proofs.lemmas.List.Concat.{flat_map-append}
use Rattle.std.proofs.lemmas.List.Elements.{filter-append}
use Rattle.maximal_runs.specs.Items.{begins_in, AreItems}
use Rattle.frame_layout.specs.Key.{key_eq, key_of}
use Rattle.pcap_io.specs.Capture.{Packet}
use Rattle.offload_model.specs.Mergeable.{up_to, IsMergeableWithin}
use Rattle.offload_model.specs.Rounds.{Spread, is_of, is_queued, number_of, items_of}
use Rattle.offload_model.specs.Captured.{IsCaptured, AreCaptured}
use Rattle.offload_model.proofs.Lists.{all_filtered, one_of_range}
use Rattle.offload_model.proofs.Flows.{IsItem, all_items, own_queue, other_queue}
use Rattle.offload_model.proofs.Items.{key_eq_self, key_eq_same, items_are}

-- the packets of a flow's runs, in order
abbrev pub of_flow : Option (List ℕ) → List (List Packet) → List Packet
of_flow q runs = flat_map (λ run. run) (filter (begins_in (is_of q)) runs)

-- how many packets runs have
abbrev pub sizes : List (List Packet) → ℕ
sizes [] = 0
sizes (run ∷ runs) = length run + sizes runs

-- ---- how many packets they hold

apart : {A : Type 0} (p r : A → Bool) (xs : List A) → ((x : A) → p x ≡ true → r x ≡ false) → filter p (filter (λ x. not (r x)) xs) ≡ filter p xs
apart p r [] f = refl
apart p r (x ∷ xs) f = by (p x) (r x) refl refl (apart p r xs f)
  where
    by : (v w : Bool) → p x ≡ v → r x ≡ w → filter p (filter (λ x. not (r x)) xs) ≡ filter p xs
        → filter p (cond (not (r x)) (x ∷ filter (λ x. not (r x)) xs) (filter (λ x. not (r x)) xs)) ≡ cond (p x) (x ∷ filter p xs) (filter p xs)
    by v false e g i = rw g (ap (λ z. cond (p x) (x ∷ z) z) i)
    by true true e g i = absurd (let t : true ≡ false = sym g ∙ f x e in cc)
    by false true e g i = rw g (rw e i)

gone : {A : Type 0} (r : A → Bool) (xs : List A) → filter r (filter (λ x. not (r x)) xs) ≡ []
gone r [] = refl
gone r (x ∷ xs) = by (r x) refl (gone r xs)
  where
    by : (w : Bool) → r x ≡ w → filter r (filter (λ x. not (r x)) xs) ≡ [] → filter r (cond (not (r x)) (x ∷ filter (λ x. not (r x)) xs) (filter (λ x. not (r x)) xs)) ≡ []
    by true g i = rw g i
    by false g i = rw g (rw g i)

split_list : (r : Packet → Bool) (xs : List Packet) → length xs ≡ length (filter r xs) + length (filter (λ x. not (r x)) xs)
split_list r [] = refl
split_list r (x ∷ xs) = by (r x) (split_list r xs)
  where
    by : (w : Bool) → length xs ≡ length (filter r xs) + length (filter (λ x. not (r x)) xs)
        → suc (length xs) ≡ length (cond w (x ∷ filter r xs) (filter r xs)) + length (cond (not w) (x ∷ filter (λ x. not (r x)) xs) (filter (λ x. not (r x)) xs))
    by true i = omega (arith, i)
    by false i = omega (arith, i)

split_runs : (r : List Packet → Bool) (xs : List (List Packet)) → sizes xs ≡ length (flat_map (λ run. run) (filter r xs)) + sizes (filter (λ x. not (r x)) xs)
split_runs r [] = refl
split_runs r (x ∷ xs) = by (r x) (split_runs r xs)
  where
    by : (w : Bool) → sizes xs ≡ length (flat_map (λ run. run) (filter r xs)) + sizes (filter (λ x. not (r x)) xs)
        → length x + sizes xs ≡ length (flat_map (λ run. run) (cond w (x ∷ filter r xs) (filter r xs))) + sizes (cond (not w) (x ∷ filter (λ x. not (r x)) xs) (filter (λ x. not (r x)) xs))
    by true i = omega (arith, i, length-append x (flat_map (λ run. run) (filter r xs)))
    by false i = omega (arith, i)

-- a packet is of one flow, and a run too
one_flow : (q k : Option (List ℕ)) (p : Packet) → (q ≡ k → ⊥) → is_of q p ≡ true → is_of k p ≡ false
one_flow q k p n e = by (is_of k p) refl
  where
    by : (w : Bool) → is_of k p ≡ w → is_of k p ≡ false
    by true g = absurd (n (key_eq_same q (key_of p.frame) e ∙ sym (key_eq_same k (key_of p.frame) g)))
    by false g = g

one_run : (q k : Option (List ℕ)) (run : List Packet) → (q ≡ k → ⊥) → begins_in (is_of q) run ≡ true → begins_in (is_of k) run ≡ false
one_run q k [] n e = refl
one_run q k (p ∷ run) n e = one_flow q k p n e

-- runs that hold the packets of each flow hold as many as there are
pub same_size : (fuel : ℕ) (ys : List Packet) (runs : List (List Packet)) → length ys ≤ fuel → AllByRecursion (λ run. 0 < length run) runs
    → ((q : Option (List ℕ)) → of_flow q runs ≡ filter (is_of q) ys) → sizes runs ≡ length ys
same_size fuel [] [] l full same = refl
same_size fuel [] ([] ∷ runs) l full same = absurd (omega (arith, full.0))
same_size fuel [] ((p ∷ run) ∷ runs) l full same =
    let own : is_of (key_of p.frame) p ≡ true = key_eq_self (key_of p.frame) in
    let has : p ∷ (run ++ of_flow (key_of p.frame) runs) ≡ []
    = sym (ap (λ v. flat_map (λ (r : List Packet). r) (cond v ((p ∷ run) ∷ filter (begins_in (is_of (key_of p.frame))) runs) (filter (begins_in (is_of (key_of p.frame))) runs))) own) ∙ same
    (key_of p.frame) in
    absurd cc
same_size zero (y ∷ ys) runs l full same = absurd (omega arith)
same_size (suc fuel) (y ∷ ys) runs l full same =
    let k : Option (List ℕ) = key_of y.frame in
    let own : is_of k y ≡ true = key_eq_self k in
    let mine : length (filter (is_of k) (y ∷ ys)) ≡ suc (length (filter (is_of k) ys)) = ap (λ v. length (cond v (y ∷ filter (is_of k) ys) (filter (is_of k) ys))) own in
    let lists = split_list (is_of k) (y ∷ ys) in
    let shares = split_runs (begins_in (is_of k)) runs in
    let rest = same_size fuel (filter (λ x. not (is_of k x)) (y ∷ ys)) (filter (λ x. not (begins_in (is_of k) x)) runs) (omega (arith, mine, lists))
    (all_filtered (λ (run : List Packet). 0 < length run) (λ x. not (begins_in (is_of k) x)) runs full)
    (λ q. by q (key_eq q k) refl) in
    omega (arith, lists, shares, rest, ap length (same k))
  where
    by : (q : Option (List ℕ)) (v : Bool) → key_eq q (key_of y.frame) ≡ v
        → of_flow q (filter (λ x. not (begins_in (is_of (key_of y.frame)) x)) runs) ≡ filter (is_of q) (filter (λ x. not (is_of (key_of y.frame) x)) (y ∷ ys))
    by q true e =
        let is : q ≡ key_of y.frame = key_eq_same q (key_of y.frame) e in
        subst (λ z. of_flow z (filter (λ x. not (begins_in (is_of (key_of y.frame)) x)) runs) ≡ filter (is_of z) (filter (λ x. not (is_of (key_of y.frame) x)) (y ∷ ys))) (sym is)
        (ap (flat_map (λ (r : List Packet). r)) (gone (begins_in (is_of (key_of y.frame))) runs) ∙ sym (gone (is_of (key_of y.frame)) (y ∷ ys)))
    by q false e =
        let no : q ≡ key_of y.frame → ⊥ = λ h. (let t : true ≡ false = sym (key_eq_self (key_of y.frame)) ∙ ap (λ z. key_eq z (key_of y.frame)) (sym h) ∙ e in cc) in
        ap (flat_map (λ (r : List Packet). r)) (apart (begins_in (is_of q)) (begins_in (is_of (key_of y.frame))) runs (λ run g. one_run q (key_of y.frame) run no g))
        ∙ same q ∙ sym (apart (is_of q) (is_of (key_of y.frame)) (y ∷ ys) (λ p g. one_flow q (key_of y.frame) p no g))

-- ---- one queue

pub queue_items : (segs : ℕ) (queues : Spread) (q : ℕ) (ps : List Packet) → AreCaptured ps → AllByRecursion IsItem (items_of segs queues q ps)
queue_items segs queues q ps c = all_items (filter (is_queued queues q) ps) (items_of segs queues q ps) (all_filtered IsCaptured (is_queued queues q) ps c.each) (items_are segs queues q ps c.rising)

pub queue_size : (segs : ℕ) (queues : Spread) (q : ℕ) (ps : List Packet) → AreCaptured ps → sizes (items_of segs queues q ps) ≡ length (filter (is_queued queues q) ps)
queue_size segs queues q ps c =
    let i : AreItems (IsMergeableWithin (up_to segs)) is_of number_of (filter (is_queued queues q) ps) (items_of segs queues q ps) = items_are segs queues q ps c.rising in
    same_size (length (filter (is_queued queues q) ps)) (filter (is_queued queues q) ps) (items_of segs queues q ps) (omega arith) i.full (λ k. (i.flows k).joined)

-- ---- of all queues

-- the runs of k queues from queue q on
abbrev pub runs_from : ℕ → Spread → List Packet → ℕ → ℕ → List (List Packet)
runs_from segs spread ps q k = flat_map (λ q. items_of segs spread q ps) (range_with_len q k)

module _ (key : Option (List ℕ)) where
  each_queue : (segs : ℕ) (queues : Spread) (ps : List Packet) (qs : List ℕ) → AreCaptured ps
      → of_flow key (flat_map (λ q. items_of segs queues q ps) qs) ≡ flat_map (λ q. filter (is_of key) (filter (is_queued queues q) ps)) qs
  each_queue segs queues ps [] c = refl
  each_queue segs queues ps (q ∷ qs) c =
      let i : AreItems (IsMergeableWithin (up_to segs)) is_of number_of (filter (is_queued queues q) ps) (items_of segs queues q ps) = items_are segs queues q ps c.rising in
      ap (flat_map (λ (run : List Packet). run)) (filter-append (begins_in (is_of key)) (items_of segs queues q ps) (flat_map (λ q. items_of segs queues q ps) qs))
      ∙ flat_map-append (λ (run : List Packet). run) (filter (begins_in (is_of key)) (items_of segs queues q ps)) (filter (begins_in (is_of key)) (flat_map (λ q. items_of segs queues q ps) qs))
      ∙ ap (λ (z : List Packet). z ++ of_flow key (flat_map (λ q. items_of segs queues q ps) qs)) (i.flows key).joined
      ∙ ap (λ (z : List Packet). filter (is_of key) (filter (is_queued queues q) ps) ++ z) (each_queue segs queues ps qs c)

  -- the runs of all queues hold each flow's packets, in order
  pub all_runs : (segs : ℕ) (spread : Spread) (queues : ℕ) (ps : List Packet) → spread key < queues → AreCaptured ps → of_flow key (runs_from segs spread ps 0 queues) ≡ filter (is_of key) ps
  all_runs segs spread queues ps below c =
      each_queue segs spread ps (range_with_len 0 queues) c
      ∙ one_of_range (λ q. filter (is_of key) (filter (is_queued spread q) ps)) (spread key) queues below (λ q n. other_queue key spread q ps n)
      ∙ own_queue key spread ps
