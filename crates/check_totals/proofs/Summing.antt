-- Totals that are added, and those of rounds.
use Rattle.std.proofs.Common.{◌≡◌, ◌≤◌, ◌<◌, ◌+◌, ◌*◌, ℕ, zero, suc, List, [], ◌∷◌, ◌++◌, length, map, take, drop, replicate, refl, sym, ap, ◌∙◌, arith, append_assoc, take-append-drop, length-drop}
use Rattle.std.specs.List.{AllByRecursion, range_with_len}
use Rattle.std.proofs.lemmas.List.{length-take-le}
use Rattle.std.proofs.lemmas.List.FromFn.{length-map-range_with_len}
use Rattle.std.proofs.lemmas.List.Sums.{sum_by-cons}
use Rattle.pcap_io.specs.Capture.{Packet}
use Rattle.offload_model.specs.Rounds.{rounds_of}
use Rattle.offload_model.specs.Written.{Options}
use Rattle.offload_model.proofs.Rounding.{rounds_full, rounds_last}
use Rattle.check_totals.specs.declared.totals.QueueTotals.{QueueTotals}
use Rattle.check_totals.specs.declared.totals.TapTotals.{TapTotals}
use Rattle.check_totals.specs.Counts.{Counts, queue_totals, tap_totals, round_totals, queue_sum, tap_sum, totals_of, queue_plus, tap_plus, each_plus, added, no_lanes, IsQueueWithin}
use Rattle.check_totals.specs.Tallies.{TotalsGoByRound, LanesStay}
use Rattle.check_totals.proofs.Adding.{plus_none, plus_assoc, mapped, plus_mapped}

-- ---- records of numbers

abbrev queue : ℕ → ℕ → ℕ → ℕ → QueueTotals
queue a b c d = record { records = a; items = b; merged = c; returned = d }

pub same_queue : (a b c d a' b' c' d' : ℕ) → a ≡ a' → b ≡ b' → c ≡ c' → d ≡ d' → queue a b c d ≡ queue a' b' c' d'
same_queue a b c d a' b' c' d' p q r s =
    ap (λ n. queue n b c d) p ∙ ap (λ n. queue a' n c d) q ∙ ap (λ n. queue a' b' n d) r ∙ ap (λ n. queue a' b' c' n) s

abbrev tap : ℕ → ℕ → TapTotals
tap a b = record { windows = a; bytes = b }

pub same_tap : (a b a' b' : ℕ) → a ≡ a' → b ≡ b' → tap a b ≡ tap a' b'
same_tap a b a' b' p q = ap (λ n. tap n b) p ∙ ap (λ n. tap a' n) q

abbrev counts : List QueueTotals → List TapTotals → Counts
counts qs ts = record { queues = qs; taps = ts }

pub same_counts : (qs qs' : List QueueTotals) (ts ts' : List TapTotals) → qs ≡ qs' → ts ≡ ts' → counts qs ts ≡ counts qs' ts'
same_counts qs qs' ts ts' p q = ap (λ l. counts l ts) p ∙ ap (λ l. counts qs' l) q

queue_assoc : (x y z : QueueTotals) → queue_plus (queue_plus x y) z ≡ queue_plus x (queue_plus y z)
queue_assoc x y z = same_queue _ _ _ _ _ _ _ _ (omega arith) (omega arith) (omega arith) (omega arith)

tap_assoc : (x y z : TapTotals) → tap_plus (tap_plus x y) z ≡ tap_plus x (tap_plus y z)
tap_assoc x y z = same_tap _ _ _ _ (omega arith) (omega arith)

pub added_assoc : (a b c : Counts) → added (added a b) c ≡ added a (added b c)
added_assoc a b c =
    same_counts _ _ _ _ (plus_assoc queue_plus queue_assoc a.queues b.queues c.queues) (plus_assoc tap_plus tap_assoc a.taps b.taps c.taps)

pub added_none : (a : Counts) → added a no_lanes ≡ a
added_none a = same_counts _ _ _ _ (plus_none queue_plus a.queues) (plus_none tap_plus a.taps)

-- ---- sums

queue_none : (x : QueueTotals) → queue_plus (queue_sum []) x ≡ x
queue_none x = same_queue _ _ _ _ _ _ _ _ (omega arith) (omega arith) (omega arith) (omega arith)

queue_none_behind : (x : QueueTotals) → queue_plus x (queue_sum []) ≡ x
queue_none_behind x = same_queue _ _ _ _ _ _ _ _ (omega arith) (omega arith) (omega arith) (omega arith)

tap_none : (x : TapTotals) → tap_plus (tap_sum []) x ≡ x
tap_none x = same_tap _ _ _ _ (omega arith) (omega arith)

tap_none_behind : (x : TapTotals) → tap_plus x (tap_sum []) ≡ x
tap_none_behind x = same_tap _ _ _ _ (omega arith) (omega arith)

pub queue_sum_more : (x : QueueTotals) (xs : List QueueTotals) → queue_sum (x ∷ xs) ≡ queue_plus x (queue_sum xs)
queue_sum_more x xs =
    same_queue _ _ _ _ _ _ _ _ (sum_by-cons (λ y. y.records) x xs) (sum_by-cons (λ y. y.items) x xs) (sum_by-cons (λ y. y.merged) x xs)
    (sum_by-cons (λ y. y.returned) x xs)

tap_sum_more : (x : TapTotals) (xs : List TapTotals) → tap_sum (x ∷ xs) ≡ tap_plus x (tap_sum xs)
tap_sum_more x xs = same_tap _ _ _ _ (sum_by-cons (λ y. y.windows) x xs) (sum_by-cons (λ y. y.bytes) x xs)

-- ---- rounds

-- the totals of some rounds
abbrev sums : Options → List (List Packet) → Counts
sums o rounds = record {
  queues = map (λ q. queue_sum (map (queue_totals o q) rounds)) (range_with_len 0 o.queues);
  taps = map (λ t. tap_sum (map (tap_totals o t) rounds)) (range_with_len 0 o.taps);
}

sums_more : (o : Options) (ps : List Packet) (rounds : List (List Packet)) → sums o (ps ∷ rounds) ≡ added (round_totals o ps) (sums o rounds)
sums_more o ps rounds =
    let qs = range_with_len 0 o.queues in
    let ts = range_with_len 0 o.taps in
    same_counts _ _ _ _
    (mapped (λ q. queue_sum (map (queue_totals o q) (ps ∷ rounds))) (λ q. queue_plus (queue_totals o q ps) (queue_sum (map (queue_totals o q) rounds)))
    (λ q. queue_sum_more (queue_totals o q ps) (map (queue_totals o q) rounds)) qs
    ∙ sym (plus_mapped queue_plus (λ q. queue_totals o q ps) (λ q. queue_sum (map (queue_totals o q) rounds)) qs))
    (mapped (λ t. tap_sum (map (tap_totals o t) (ps ∷ rounds))) (λ t. tap_plus (tap_totals o t ps) (tap_sum (map (tap_totals o t) rounds)))
    (λ t. tap_sum_more (tap_totals o t ps) (map (tap_totals o t) rounds)) ts
    ∙ sym (plus_mapped tap_plus (λ t. tap_totals o t ps) (λ t. tap_sum (map (tap_totals o t) rounds)) ts))

-- no packet adds nothing to the totals of as many lanes
none_added : (o : Options) (f : ℕ → QueueTotals) (g : ℕ → TapTotals)
    → added (sums o []) (counts (map f (range_with_len 0 o.queues)) (map g (range_with_len 0 o.taps)))
    ≡ counts (map f (range_with_len 0 o.queues)) (map g (range_with_len 0 o.taps))
none_added o f g =
    let qs = range_with_len 0 o.queues in
    let ts = range_with_len 0 o.taps in
    same_counts _ _ _ _
    (plus_mapped queue_plus (λ q. queue_sum []) f qs ∙ mapped (λ q. queue_plus (queue_sum []) (f q)) f (λ q. queue_none (f q)) qs)
    (plus_mapped tap_plus (λ t. tap_sum []) g ts ∙ mapped (λ t. tap_plus (tap_sum []) (g t)) g (λ t. tap_none (g t)) ts)

none_behind : (o : Options) (f : ℕ → QueueTotals) (g : ℕ → TapTotals)
    → added (counts (map f (range_with_len 0 o.queues)) (map g (range_with_len 0 o.taps))) (sums o [])
    ≡ counts (map f (range_with_len 0 o.queues)) (map g (range_with_len 0 o.taps))
none_behind o f g =
    let qs = range_with_len 0 o.queues in
    let ts = range_with_len 0 o.taps in
    same_counts _ _ _ _
    (plus_mapped queue_plus f (λ q. queue_sum []) qs ∙ mapped (λ q. queue_plus (f q) (queue_sum [])) f (λ q. queue_none_behind (f q)) qs)
    (plus_mapped tap_plus g (λ t. tap_sum []) ts ∙ mapped (λ t. tap_plus (g t) (tap_sum [])) g (λ t. tap_none_behind (g t)) ts)

round_behind : (o : Options) (ps : List Packet) → added (round_totals o ps) (totals_of o []) ≡ round_totals o ps
round_behind o ps = none_behind o (λ q. queue_totals o q ps) (λ t. tap_totals o t ps)

pub totals_full : (o : Options) (ps more : List Packet) → 0 < o.budget → length ps ≡ o.budget → totals_of o (ps ++ more) ≡ added (round_totals o ps) (totals_of o more)
totals_full o ps more room full = ap (sums o) (rounds_full o.budget ps more room full) ∙ sums_more o ps (rounds_of o.budget more)

pub totals_last : (o : Options) (ps : List Packet) → 0 < o.budget → length ps ≤ o.budget → totals_of o ps ≡ round_totals o ps
totals_last o [] room le = refl
totals_last o (p ∷ ps) room le =
    ap (sums o) (rounds_last o.budget (p ∷ ps) room (omega arith) le) ∙ sums_more o (p ∷ ps) [] ∙ round_behind o (p ∷ ps)

pub none_totals : (o : Options) (ps : List Packet) → added (totals_of o []) (totals_of o ps) ≡ totals_of o ps
none_totals o ps =
    let rounds = rounds_of o.budget ps in
    none_added o (λ q. queue_sum (map (queue_totals o q) rounds)) (λ t. tap_sum (map (tap_totals o t) rounds))

totals_none : (o : Options) (ps : List Packet) → added (totals_of o ps) (totals_of o []) ≡ totals_of o ps
totals_none o ps =
    let rounds = rounds_of o.budget ps in
    none_behind o (λ q. queue_sum (map (queue_totals o q) rounds)) (λ t. tap_sum (map (tap_totals o t) rounds))

totals_rounds : (o : Options) (k : ℕ) (ps more : List Packet) → 0 < o.budget → length ps ≡ k * o.budget
    → totals_of o (ps ++ more) ≡ added (totals_of o ps) (totals_of o more)
totals_rounds o zero [] more room size = sym (none_totals o more)
totals_rounds o zero (p ∷ ps) more room size = absurd (omega (arith, size))
totals_rounds o (suc k) ps more room size =
    let b = o.budget in
    let times : (suc k) * b ≡ b + k * b = omega arith in
    let front = take b ps in
    let rest = drop b ps in
    let full : length front ≡ b = length-take-le b ps (omega (arith, size, times)) in
    let left : length rest ≡ k * b = omega (arith, length-drop b ps, size, times) in
    let split : front ++ rest ≡ ps = take-append-drop b ps in
    ap (λ l. totals_of o (l ++ more)) (sym split) ∙ ap (totals_of o) (append_assoc front rest more)
    ∙ totals_full o front (rest ++ more) room full ∙ ap (added (round_totals o front)) (totals_rounds o k rest more room left)
    ∙ sym (added_assoc (round_totals o front) (totals_of o rest) (totals_of o more))
    ∙ ap (λ c. added c (totals_of o more)) (sym (totals_full o front rest room full) ∙ ap (totals_of o) split)

pub totals_go_by_round : TotalsGoByRound
totals_go_by_round o ps room = record {
  full = λ more full. totals_full o ps more room full;
  rounds = λ k more size. totals_rounds o k ps more room size;
  last = λ le. totals_last o ps room le;
  none = none_totals o ps;
  none_behind = totals_none o ps;
}

-- ---- lanes of nothing

pub alike : {A : Type 0} (x : A) (a n : ℕ) → map (λ q. x) (range_with_len a n) ≡ replicate n x
alike x a zero = refl
alike x a (suc n) = ap (λ l. x ∷ l) (alike x (a + 1) n)

pub made_of : (o : Options) (n m : ℕ) → o.queues ≡ n → o.taps ≡ m → counts (replicate n (queue_sum [])) (replicate m (tap_sum [])) ≡ totals_of o []
made_of o n m p q =
    same_counts _ _ _ _ (ap (λ k. replicate k (queue_sum [])) (sym p) ∙ sym (alike (queue_sum []) 0 o.queues))
    (ap (λ k. replicate k (tap_sum [])) (sym q) ∙ sym (alike (tap_sum []) 0 o.taps))

-- ---- bounds

pub sum_within : (n : ℕ) (xs : List QueueTotals) → AllByRecursion (IsQueueWithin n) xs → IsQueueWithin (length xs * n) (queue_sum xs)
sum_within n [] all = record { records = omega arith; items = omega arith; merged = omega arith; returned = omega arith }
sum_within n (x ∷ xs) all =
    let more = sum_within n xs all.1 in
    let times : (suc (length xs)) * n ≡ n + length xs * n = omega arith in
    record {
      records = omega (arith, times, sum_by-cons (λ (y : QueueTotals). y.records) x xs, all.0.records, more.records);
      items = omega (arith, times, sum_by-cons (λ (y : QueueTotals). y.items) x xs, all.0.items, more.items);
      merged = omega (arith, times, sum_by-cons (λ (y : QueueTotals). y.merged) x xs, all.0.merged, more.merged);
      returned = omega (arith, times, sum_by-cons (λ (y : QueueTotals). y.returned) x xs, all.0.returned, more.returned);
    }

pub within_more : (m n : ℕ) (x : QueueTotals) → m ≤ n → IsQueueWithin m x → IsQueueWithin n x
within_more m n x le p = record {
  records = omega (arith, le, p.records);
  items = omega (arith, le, p.items);
  merged = omega (arith, le, p.merged);
  returned = omega (arith, le, p.returned);
}

-- ---- lanes

length_plus : {A : Type 0} (plus : A → A → A) (xs ys : List A) → length xs ≡ length ys → length (each_plus plus xs ys) ≡ length ys
length_plus plus [] ys same = refl
length_plus plus (x ∷ xs) [] same = same
length_plus plus (x ∷ xs) (y ∷ ys) same = ap suc (length_plus plus xs ys (omega (arith, same)))

-- what changes nothing beside each element changes nothing
plus_nothing : {A : Type 0} (plus : A → A → A) (z : A) (a n : ℕ) (xs : List A) → ((x : A) → plus x z ≡ x) → length xs ≡ n
    → each_plus plus xs (map (λ q. z) (range_with_len a n)) ≡ xs
plus_nothing plus z a zero [] law same = refl
plus_nothing plus z a zero (x ∷ xs) law same = refl
plus_nothing plus z a (suc n) [] law same = absurd (omega (arith, same))
plus_nothing plus z a (suc n) (x ∷ xs) law same =
    ap (λ l. plus x z ∷ l) (plus_nothing plus z (a + 1) n xs law (omega (arith, same))) ∙ ap (λ y. y ∷ xs) (law x)

pub lanes_stay : LanesStay
lanes_stay o = record {
  of_round = λ ps. record {
    queues = length-map-range_with_len (λ q. queue_totals o q ps) 0 o.queues;
    taps = length-map-range_with_len (λ t. tap_totals o t ps) 0 o.taps;
  };
  of_all = λ ps. record {
    queues = length-map-range_with_len (λ q. queue_sum (map (queue_totals o q) (rounds_of o.budget ps))) 0 o.queues;
    taps = length-map-range_with_len (λ t. tap_sum (map (tap_totals o t) (rounds_of o.budget ps))) 0 o.taps;
  };
  of_sum = λ a b p q. record {
    queues = length_plus queue_plus a.queues b.queues (p.queues ∙ sym q.queues) ∙ q.queues;
    taps = length_plus tap_plus a.taps b.taps (p.taps ∙ sym q.taps) ∙ q.taps;
  };
  of_nothing = λ a p. same_counts _ _ _ _ (plus_nothing queue_plus (queue_sum []) 0 o.queues a.queues queue_none_behind p.queues)
      (plus_nothing tap_plus (tap_sum []) 0 o.taps a.taps tap_none_behind p.taps);
}
