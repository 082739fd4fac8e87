-- How great the numbers of a round are.
use Rattle.std.proofs.Common.{◌≡◌, ◌≤◌, ◌<◌, ◌+◌, ◌*◌, ℕ, suc, Bool, true, false, cond, List, [], ◌∷◌, ◌++◌, length, map, drop, refl, arith, length-append, length-take, length-drop}
use Rattle.std.proofs.lemmas.List.{length-map}
use Rattle.std.specs.Prelude.{◌==◌}
use Rattle.std.specs.List.{AllByRecursion, filter, flat_map, sum_by, range_with_len}
use Rattle.std.proofs.lemmas.Bool.{eqb-true}
use Rattle.std.proofs.lemmas.List.Sums.{sum_by-cons}
use Rattle.maximal_runs.specs.Cut.{AllNeighbours, cut_of}
use Rattle.maximal_runs.specs.Items.{first_number}
use Rattle.pcap_io.specs.Capture.{Packet}
use Rattle.offload_model.specs.Mergeable.{up_to}
use Rattle.offload_model.specs.Captured.{IsCaptured}
use Rattle.offload_model.specs.Rounds.{Spread, is_queued, is_of, key_in, number_of, items_of}
use Rattle.offload_model.specs.Tests.{is_mergeable_within}
use Rattle.offload_model.specs.Written.{Options, shown_of, window_of, windows_of, windows_by}
use Rattle.offload_model.proofs.Items.{items_are}
use Rattle.offload_model.proofs.Lists.{all_of}
use Rattle.offload_model.proofs.Shown.{all_shown}
use Rattle.check_totals.specs.declared.totals.QueueTotals.{QueueTotals}
use Rattle.check_totals.specs.declared.totals.TapTotals.{TapTotals}
use Rattle.check_totals.specs.Counts.{is_merged, shown, queue_totals, window_length, tap_totals, queue_plus, tap_plus, each_plus, IsQueueWithin, IsTapWithin}
use Rattle.check_totals.specs.Tallies.{TotalsAreFew, BoundsAdd}
use Rattle.check_totals.proofs.Returning.{queue_returns}

-- ---- filters

length_filter : {A : Type 0} (p : A → Bool) (xs : List A) → length (filter p xs) ≤ length xs
length_filter p [] = omega arith
length_filter p (x ∷ xs) = elim (p x) as (λ v. length (cond v (x ∷ filter p xs) (filter p xs)) ≤ length (x ∷ xs)) [
  | true ↦ omega (arith, length_filter p xs)
  | false ↦ omega (arith, length_filter p xs)
]

all_pass : {A : Type 0} (p : A → Bool) (xs : List A) → AllByRecursion (λ x. p x ≡ true) (filter p xs)
all_pass p [] = tt
all_pass p (x ∷ xs) = by (p x) refl (all_pass p xs)
  where
    by : (v : Bool) → p x ≡ v → AllByRecursion (λ y. p y ≡ true) (filter p xs) → AllByRecursion (λ y. p y ≡ true) (cond v (x ∷ filter p xs) (filter p xs))
    by true is more = (is, more)
    by false is more = more

-- ---- items

-- of pieces that are of one number each, where the numbers rise over all, there are no more than numbers
few_pieces : {A B : Type 0} (f : A → List B) (first : B → ℕ) (number : A → ℕ) (xs : List A) → ((x : A) → AllByRecursion (λ b. first b ≡ number x) (f x))
    → AllNeighbours (λ a b. first a < first b) (flat_map f xs) → length (flat_map f xs) ≤ length xs
few_pieces f first number [] own rising = omega arith
few_pieces {A} {B} f first number (x ∷ xs) own rising = by (f x) (own x) rising (few_pieces f first number xs own)
  where
    behind : (b : B) (bs : List B) → AllNeighbours (λ a b. first a < first b) (b ∷ bs) → AllNeighbours (λ a b. first a < first b) bs
    behind b [] near = tt
    behind b (c ∷ bs) near = near.1

    by : (ys : List B) → AllByRecursion (λ b. first b ≡ number x) ys → AllNeighbours (λ a b. first a < first b) (ys ++ flat_map f xs)
        → (AllNeighbours (λ a b. first a < first b) (flat_map f xs) → length (flat_map f xs) ≤ length xs) → length (ys ++ flat_map f xs) ≤ length (x ∷ xs)
    by [] all near few = omega (arith, few near)
    by (b ∷ []) all near few = omega (arith, few (behind b (flat_map f xs) near))
    by (b ∷ c ∷ ys) all near few = absurd (omega (arith, near.0, all.0, all.1.0))

begins_at : (n : ℕ) (runs : List (List Packet)) → AllByRecursion (λ run. first_number number_of run ≡ n) (filter (λ run. first_number number_of run == n) runs)
begins_at n runs = all_of (λ run. (first_number number_of run == n) ≡ true) (λ run. first_number number_of run ≡ n) (filter (λ run. first_number number_of run == n) runs)
    (λ run e. eqb-true (first_number number_of run) n e) (all_pass (λ run. first_number number_of run == n) runs)

few_items : (segs : ℕ) (spread : Spread) (q : ℕ) (ps : List Packet) → AllNeighbours (λ p q. p.number < q.number) ps → length (items_of segs spread q ps) ≤ length (filter (is_queued spread q) ps)
few_items segs spread q ps rising =
    let xs = filter (is_queued spread q) ps in
    few_pieces (λ x. filter (λ run. first_number number_of run == number_of x) (cut_of (is_mergeable_within (up_to segs)) (filter (is_of (key_in x)) xs))) (first_number number_of) number_of xs
    (λ x. begins_at (number_of x) (cut_of (is_mergeable_within (up_to segs)) (filter (is_of (key_in x)) xs))) (items_are segs spread q ps rising).ordered

-- ---- windows

few_windows : (snap t : ℕ) (ps : List Packet) → length (windows_of snap t ps) ≤ length ps
few_windows snap t [] = omega arith
few_windows snap t (p ∷ ps) =
    omega (arith, one (window_of snap t p.frame), length-append (windows_by t p (window_of snap t p.frame)) (windows_of snap t ps), few_windows snap t ps)
  where
    one : (window : List ℕ) → length (windows_by t p window) ≤ 1
    one [] = omega arith
    one (b ∷ bytes) = omega arith

few_bytes : (o : Options) (t : ℕ) (ps : List Packet) → AllByRecursion IsCaptured ps → sum_by (window_length o t) ps ≤ 262144 * length ps
few_bytes o t [] each = omega arith
few_bytes o t (p ∷ ps) each =
    let within : length (window_of o.snap t p.frame) ≤ length p.frame = omega (arith, length-take o.snap (drop (t * o.snap) p.frame), length-drop (t * o.snap) p.frame) in
    let times : 262144 * (suc (length ps)) ≡ 262144 + 262144 * length ps = omega arith in
    omega (arith, times, sum_by-cons (window_length o t) p ps, within, each.0.short, few_bytes o t ps each.1)

-- ---- a round

pub totals_are_few : TotalsAreFew
totals_are_few o ps captured =
    let n = length ps in
    record {
      queues = all_lanes (IsQueueWithin n) (λ q. queue_totals o q ps) (λ q.
          let few = length_filter (is_queued o.spread q) ps in
          let items = few_items o.segs o.spread q ps captured.rising in
          record {
            records = omega (arith, few);
            items = omega (arith, few, items);
            merged = omega (arith, few, items, length_filter is_merged (items_of o.segs o.spread q ps));
            returned = omega (arith, few, queue_returns o.segs o.spread q ps captured);
          }) (range_with_len 0 o.queues);
      taps = all_lanes (IsTapWithin (262144 * n)) (λ t. tap_totals o t ps) (λ t. record {
        windows = omega (arith, few_windows o.snap t (shown o ps), length-map ps (shown_of o.filter));
        bytes = omega (arith, few_bytes o t (shown o ps) (all_shown o.filter ps captured.each), length-map ps (shown_of o.filter));
      }) (range_with_len 0 o.taps);
    }
  where
    all_lanes : {B : Type 0} (P : B → Type 0) (f : ℕ → B) → ((q : ℕ) → P (f q)) → (qs : List ℕ) → AllByRecursion P (map f qs)
    all_lanes P f each [] = tt
    all_lanes P f each (q ∷ qs) = (each q, all_lanes P f each qs)

-- ---- sums

queue_within : (m j : ℕ) (xs ys : List QueueTotals) → AllByRecursion (IsQueueWithin m) xs → AllByRecursion (IsQueueWithin j) ys
    → AllByRecursion (IsQueueWithin (m + j)) (each_plus queue_plus xs ys)
queue_within m j [] ys p q = all_of (IsQueueWithin j) (IsQueueWithin (m + j)) ys (λ y w. record {
  records = omega (arith, w.records);
  items = omega (arith, w.items);
  merged = omega (arith, w.merged);
  returned = omega (arith, w.returned);
}) q
queue_within m j (x ∷ xs) [] p q = all_of (IsQueueWithin m) (IsQueueWithin (m + j)) (x ∷ xs) (λ y w. record {
  records = omega (arith, w.records);
  items = omega (arith, w.items);
  merged = omega (arith, w.merged);
  returned = omega (arith, w.returned);
}) p
queue_within m j (x ∷ xs) (y ∷ ys) p q = (
  record {
    records = omega (arith, p.0.records, q.0.records);
    items = omega (arith, p.0.items, q.0.items);
    merged = omega (arith, p.0.merged, q.0.merged);
    returned = omega (arith, p.0.returned, q.0.returned);
  },
  queue_within m j xs ys p.1 q.1,
)

tap_within : (m j : ℕ) (xs ys : List TapTotals) → AllByRecursion (IsTapWithin m) xs → AllByRecursion (IsTapWithin j) ys
    → AllByRecursion (IsTapWithin (m + j)) (each_plus tap_plus xs ys)
tap_within m j [] ys p q = all_of (IsTapWithin j) (IsTapWithin (m + j)) ys (λ y w. record { windows = omega (arith, w.windows); bytes = omega (arith, w.bytes) }) q
tap_within m j (x ∷ xs) [] p q = all_of (IsTapWithin m) (IsTapWithin (m + j)) (x ∷ xs) (λ y w. record { windows = omega (arith, w.windows); bytes = omega (arith, w.bytes) }) p
tap_within m j (x ∷ xs) (y ∷ ys) p q =
    (record { windows = omega (arith, p.0.windows, q.0.windows); bytes = omega (arith, p.0.bytes, q.0.bytes) }, tap_within m j xs ys p.1 q.1)

pub bounds_add : BoundsAdd
bounds_add a b m n j k p q = record {
  queues = queue_within m j a.queues b.queues p.queues q.queues;
  taps = tap_within n k a.taps b.taps p.taps q.taps;
}
