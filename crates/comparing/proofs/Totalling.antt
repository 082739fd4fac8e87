-- The totals of queues and taps, as the definition has them.
use Rattle.std.proofs.Common.{◌≡◌, ℕ, suc, ◌+◌, ◌*◌, ◌^◌, ◌<◌, ◌≤◌, Bool, true, false, cond, Option, Some, List, [], ◌∷◌, ◌++◌, length, map, get_or, drop, refl, sym, ap, ◌∙◌}
use Rattle.std.proofs.Common.{subst, arith, length-append, length-drop}
use Rattle.std.specs.Prelude.{IfSome}
use Rattle.std.specs.List.{filter, AllByRecursion, range_with_len, sum_by}
use Rattle.std.proofs.lemmas.List.{get_or-map, length-take}
use Rattle.std.proofs.lemmas.List.Sums.{sum_by-cons}
use Rattle.std.proofs.lemmas.List.FromFn.{get_or-map-range_with_len}
use Rattle.maximal_runs.specs.Cut.{AllNeighbours}
use Rattle.pcap_io.specs.Capture.{Packet}
use Rattle.offload_model.specs.Captured.{IsCaptured, AreCaptured}
use Rattle.offload_model.specs.Merged.{merged_of}
use Rattle.offload_model.specs.Rounds.{Spread, is_queued, items_of}
use Rattle.offload_model.specs.Written.{Options, window_of, windows_by, windows_of}
use Rattle.taps.specs.Texts.{text_by, texts_of}
use Rattle.lanes.specs.declared.lane.QueueLane.{QueueLane}
use Rattle.lanes.specs.declared.lane.TapLane.{TapLane}
use Rattle.lanes.specs.Packets.{RiseFrom}
use Rattle.lanes.specs.Work.{AreMerged, AreWatched, merged_in}
use Rattle.check_totals.specs.declared.totals.TapTotals.{TapTotals}
use Rattle.check_totals.specs.Counts.{shown, queue_totals, tap_totals, is_merged}
use Rattle.comparing.specs.Texts.{text_bytes, IsShort, totals_of_texts}
use Rattle.check_totals.proofs.Flowing.{sizes, queue_size}
use Rattle.check_totals.proofs.Returning.{queue_returns}
use Rattle.comparing.proofs.Comparing.{totals, totals_of_runs}

pub map_same : {A : Type 0} (f g : ℕ → A) (xs : List ℕ) → ((x : ℕ) → f x ≡ g x) → map f xs ≡ map g xs
map_same f g [] e = refl
map_same f g (x ∷ xs) e = ap (λ z. z ∷ map f xs) (e x) ∙ ap (λ z. g x ∷ z) (map_same f g xs e)

-- ---- queues

-- what the i-th queue came to
pub lane_at : (segs : ℕ) (spread : Spread) (queues : ℕ) (ps : List Packet) (ls : List QueueLane) (i : ℕ) (d : QueueLane) → AreMerged segs spread queues ps ls → i < length ls → i < queues
    → merged_in (get_or ls i d) ≡ map merged_of (items_of segs spread i ps)
lane_at segs spread queues ps ls i d m l k =
    sym (get_or-map merged_in ls i d [] l) ∙ ap (λ z. get_or z i []) m.items
    ∙ get_or-map-range_with_len (λ q. map merged_of (items_of segs spread q ps)) 0 queues i i [] k (omega arith)

filter_short : (p : Packet → Bool) (ps : List Packet) → length (filter p ps) ≤ length ps
filter_short p [] = omega arith
filter_short p (x ∷ xs) = elim (p x) as (λ v. length (cond v (x ∷ filter p xs) (filter p xs)) ≤ suc (length xs)) [
  | true ↦ omega (arith, filter_short p xs)
  | false ↦ omega (arith, filter_short p xs)
]

no_more : (runs : List (List Packet)) → AllByRecursion (λ run. 0 < length run) runs → length runs ≤ sizes runs
no_more [] a = omega arith
no_more (run ∷ runs) a = omega (arith, a.0, no_more runs a.1)

pub totals_are : (o : Options) (q : ℕ) (ps : List Packet) → AreCaptured ps → totals_of_runs (items_of o.segs o.spread q ps) ≡ queue_totals o q ps
totals_are o q ps c =
    let items = items_of o.segs o.spread q ps in
    ap (λ n. totals n (length items) (length (filter is_merged items)) n) (queue_size o.segs o.spread q ps c)
    ∙ ap (totals (length (filter (is_queued o.spread q) ps)) (length items) (length (filter is_merged items))) (sym (queue_returns o.segs o.spread q ps c))

-- ---- taps

text_count : (t : ℕ) (p : Packet) (w : List ℕ) → length (text_by p w) ≡ length (windows_by t p w)
text_count t p [] = refl
text_count t p (b ∷ bytes) = refl

abbrev frame_size : Packet → ℕ
frame_size x = length x.frame

text_size : (p : Packet) (w : List ℕ) → text_bytes (text_by p w) ≡ length w
text_size p [] = refl
text_size p (b ∷ bytes) = omega arith

bytes_append : (xs ys : List Packet) → text_bytes (xs ++ ys) ≡ text_bytes xs + text_bytes ys
bytes_append [] ys = omega arith
bytes_append (x ∷ xs) ys = omega (arith, sum_by-cons frame_size x (xs ++ ys), sum_by-cons frame_size x xs, bytes_append xs ys)

windows_are : (snap t : ℕ) (ps : List Packet) → length (texts_of snap t ps) ≡ length (windows_of snap t ps)
windows_are snap t [] = refl
windows_are snap t (p ∷ ps) =
    omega (
      arith,
      text_count t p (window_of snap t p.frame),
      windows_are snap t ps,
      length-append (text_by p (window_of snap t p.frame)) (texts_of snap t ps),
      length-append
          (windows_by t p (window_of snap t p.frame)) (windows_of snap t ps),
    )

bytes_are : (snap t : ℕ) (ps : List Packet) → text_bytes (texts_of snap t ps) ≡ sum_by (λ p. length (window_of snap t p.frame)) ps
bytes_are snap t [] = refl
bytes_are snap t (p ∷ ps) = omega (
  arith,
  sum_by-cons (λ (p : Packet). length (window_of snap t p.frame)) p ps,
  text_size p (window_of snap t p.frame),
  bytes_are snap t ps,
  bytes_append
      (text_by p (window_of snap t p.frame)) (texts_of snap t ps),
)

abbrev windows : ℕ → ℕ → TapTotals
windows n bytes = record { windows = n; bytes = bytes }

tap_is : (o : Options) (t : ℕ) (ps : List Packet) → totals_of_texts (Some (texts_of o.snap t (shown o ps))) ≡ tap_totals o t ps
tap_is o t ps =
    ap (λ n. windows n (text_bytes (texts_of o.snap t (shown o ps)))) (windows_are o.snap t (shown o ps))
    ∙ ap (λ n. windows (length (windows_of o.snap t (shown o ps))) n) (bytes_are o.snap t (shown o ps))

map_map : (f : Option (List Packet) → TapTotals) (ls : List TapLane) → map (λ (l : TapLane). f l.texts) ls ≡ map f (map (λ (l : TapLane). l.texts) ls)
map_map f [] = refl
map_map f (l ∷ ls) = ap (λ z. f l.texts ∷ z) (map_map f ls)

map_of : (f : Option (List Packet) → TapTotals) (g : ℕ → Option (List Packet)) (xs : List ℕ) → map f (map g xs) ≡ map (λ x. f (g x)) xs
map_of f g [] = refl
map_of f g (x ∷ xs) = ap (λ z. f (g x) ∷ z) (map_of f g xs)

pub taps_are : (o : Options) (taps : ℕ) (ps : List Packet) (ls : List TapLane) → o.taps ≡ taps → AreWatched o.snap taps (shown o ps) ls
    → map (λ (l : TapLane). totals_of_texts l.texts) ls ≡ map (λ t. tap_totals o t ps) (range_with_len 0 o.taps)
taps_are o taps ps ls e w =
    map_map totals_of_texts ls ∙ ap (map totals_of_texts) w.texts ∙ map_of totals_of_texts (λ t. Some (texts_of o.snap t (shown o ps))) (range_with_len 0 taps)
    ∙ map_same (λ t. totals_of_texts (Some (texts_of o.snap t (shown o ps)))) (λ t. tap_totals o t ps) (range_with_len 0 taps) (λ t. tap_is o t ps)
    ∙ ap (λ n. map (λ t. tap_totals o t ps) (range_with_len 0 n)) (sym e)

-- ---- how long windows are

windows_short : (snap t : ℕ) (ps : List Packet) → AllByRecursion IsCaptured ps → sum_by (λ p. length (window_of snap t p.frame)) ps ≤ length ps * 262144
windows_short snap t [] c = omega arith
windows_short snap t (p ∷ ps) c =
    omega (
      arith,
      sum_by-cons (λ (p : Packet). length (window_of snap t p.frame)) p ps,
      windows_short snap t ps c.1,
      c.0.short,
      length-take snap (drop (t * snap) p.frame),
      length-drop
          (t * snap) p.frame,
    )

short_texts : (snap : ℕ) (ps : List Packet) (ls : List TapLane) (ts : List ℕ) → AllByRecursion IsCaptured ps → length ps ≤ 4096
    → map (λ (l : TapLane). l.texts) ls ≡ map (λ t. Some (texts_of snap t ps)) ts → AllByRecursion (λ (l : TapLane). IfSome l.texts IsShort) ls
short_texts snap ps [] ts c few e = tt
short_texts snap ps (l ∷ ls) [] c few e = absurd cc
short_texts snap ps (l ∷ ls) (t ∷ ts) c few e =
    let both : l.texts ∷ map (λ (l : TapLane). l.texts) ls ≡ Some (texts_of snap t ps) ∷ map (λ t. Some (texts_of snap t ps)) ts = e in
    let first : l.texts ≡ Some (texts_of snap t ps) = cc in
    let rest : map (λ (l : TapLane). l.texts) ls ≡ map (λ t. Some (texts_of snap t ps)) ts = cc in
    let short : text_bytes (texts_of snap t ps) < 2 ^ 62 = omega (arith, bytes_are snap t ps, windows_short snap t ps c, few) in
    (subst (λ z. IfSome z IsShort) (sym first) short, short_texts snap ps ls ts c few rest)

pub watched_short : (snap taps : ℕ) (ps : List Packet) (ls : List TapLane) → AllByRecursion IsCaptured ps → length ps ≤ 4096 → AreWatched snap taps ps ls
    → AllByRecursion (λ (l : TapLane). IfSome l.texts IsShort) ls
watched_short snap taps ps ls c few w = short_texts snap ps ls (range_with_len 0 taps) c few w.texts

-- ---- numbers that rise

pub rising : (k : ℕ) (ps : List Packet) → RiseFrom k ps → AllNeighbours (λ (p q : Packet). p.number < q.number) ps
rising k [] r = tt
rising k (p ∷ []) r = tt
rising k (p ∷ q ∷ ps) r = (omega (arith, r.1.0), rising (p.number + 1) (q ∷ ps) r.1)

-- a queue has no more items than there are packets
pub items_few : (segs : ℕ) (queues : Spread) (q : ℕ) (ps : List Packet) → AreCaptured ps → AllByRecursion (λ run. 0 < length run) (items_of segs queues q ps)
    → length (items_of segs queues q ps) ≤ length ps
items_few segs queues q ps c full = omega (arith, no_more (items_of segs queues q ps) full, queue_size segs queues q ps c, filter_short (is_queued queues q) ps)
