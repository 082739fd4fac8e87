-- What is known of a queue's lane, and of the totals that it adds.
use Rattle.std.proofs.Common.{◌≡◌, ℕ, zero, suc, ◌+◌, ◌<◌, ◌≤◌, Option, List, [], ◌∷◌, ◌++◌, length, map, get_or, drop, append_assoc, refl, sym, ap, ◌∙◌, subst, arith, append-nil}
use Rattle.std.specs.List.{AllByRecursion, filter, flat_map, range_with_len}
use Rattle.std.proofs.lemmas.List.Concat.{flat_map-append}
use Rattle.std.proofs.lemmas.List.Elements.{filter-append}
use Rattle.std.proofs.lemmas.List.{length-map}
use Rattle.std.proofs.lemmas.Simd.{map-map}
use Rattle.pcap_io.specs.Capture.{Packet}
use Rattle.offload_model.specs.Captured.{IsCaptured, AreCaptured}
use Rattle.maximal_runs.specs.Items.{begins_in}
use Rattle.offload_model.specs.Merged.{Merged, merged_of}
use Rattle.offload_model.specs.Rounds.{Spread, is_of, items_of}
use Rattle.offload_model.specs.Written.{Options}
use Rattle.offload_model.proofs.Flows.{IsItem}
use Rattle.offload_model.proofs.Lists.{all_of}
use Rattle.gro.specs.declared.slot.Slot.{Slot}
use Rattle.frame_runs.specs.Chains.{run_of}
use Rattle.gro.specs.Slots.{packet_of}
use Rattle.lanes.specs.declared.lane.QueueLane.{QueueLane}
use Rattle.lanes.specs.Lanes.{runs_in_lane, IsMerged}
use Rattle.lanes.specs.Work.{AreMerged, AreWatched, merged_in}
use Rattle.lanes.specs.Packets.{RiseFrom}
use Rattle.lanes.specs.declared.lane.TapLane.{TapLane}
use Rattle.check_totals.specs.declared.totals.QueueTotals.{QueueTotals}
use Rattle.comparing.specs.declared.kept_flows.KeptFlows.{KeptFlows}
use Rattle.check_totals.specs.declared.totals.TapTotals.{TapTotals}
use Rattle.check_totals.specs.Counts.{Counts, shown, queue_totals, round_totals}
use Rattle.comparing.specs.Texts.{totals_of_texts}
use Rattle.check_totals.specs.Returned.{Lefts, flows_of, behind_items}
use Rattle.check_totals.proofs.Flowing.{of_flow, queue_items, runs_from, all_runs}
use Rattle.comparing.specs.Items.{MayCompare, AreLeft, item_at, totals_of_items, totals_by}
use Rattle.comparing.proofs.Comparing.{totals_of_runs, runs_counted}
use Rattle.comparing.proofs.ItemTotals.{all_get, mapped_gone}
use Rattle.comparing.proofs.Totalling.{lane_at, items_few, map_same, totals_are, taps_are, rising}

-- a merged lane that holds what the runs of its queue come to may be compared
lane_known : (segs : ℕ) (spread : Spread) (ps : List Packet) (ls : List QueueLane) (i : ℕ) (l : QueueLane) → AreCaptured ps → length ps ≤ 4096 → AreMerged segs spread (length ls) ps ls
    → AllByRecursion IsMerged ls → i < length ls → l ≡ get_or ls i l → MayCompare l
lane_known segs spread ps ls i l c few m are less is =
    let items : merged_in l ≡ map merged_of (items_of segs spread i ps) = ap merged_in is ∙ lane_at segs spread (length ls) ps ls i l m less less in
    let own : AllByRecursion IsItem (items_of segs spread i ps) = queue_items segs spread i ps c in
    record {
      is = subst IsMerged (sym is) (all_get IsMerged ls i l less are);
      few = omega (
        arith,
        ap length items,
        length-map (runs_in_lane l) merged_of,
        length-map l.engine.runs.items (run_of (map packet_of l.packets.items) l.engine.next.items),
        length-map (items_of segs spread i ps) merged_of,
        few,
        items_few segs spread i ps c (all_of IsItem (λ run. 0 < length run) (items_of segs spread i ps) (λ run k. k.full) own),
      );
    }

all_by : {A : Type 0} (P : A → Type 0) (xs : List A) → ((i : ℕ) (d : A) → i < length xs → d ≡ get_or xs i d → P d) → AllByRecursion P xs
all_by P [] f = tt
all_by P (x ∷ xs) f = (f 0 x (omega arith) refl, all_by P xs (λ i d l e. f (suc i) d (omega (arith, l)) e))

-- so what a round's work came to may be compared
pub lanes_known : (segs : ℕ) (spread : Spread) (ps : List Packet) (ls : List QueueLane) → AreCaptured ps → length ps ≤ 4096 → AreMerged segs spread (length ls) ps ls
    → AllByRecursion IsMerged ls → AllByRecursion MayCompare ls
lanes_known segs spread ps ls c few m are = all_by MayCompare ls (λ i l less is. lane_known segs spread ps ls i l c few m are less is)

-- what the runs of a lane come to is told by its slots
pub lane_items : (slots : List Slot) (l : QueueLane) → slots ≡ l.packets.items → map (item_at slots l.engine.next.items) l.engine.runs.items ≡ merged_in l
lane_items slots l e =
    ap (λ (ss : List Slot). map (item_at ss l.engine.next.items) l.engine.runs.items) e
    ∙ sym (map-map merged_of (run_of (map packet_of l.packets.items) l.engine.next.items) l.engine.runs.items)

-- ---- lane by lane

-- What some lanes came to, of which those in `todo` are still to be counted.
pub record LanesSoFar (ps : List Packet) (all todo : List (List Merged)) (f : KeptFlows) (done : List QueueTotals) : Type 0 where
  pub now : Lefts
  pub are : AreLeft ps f now
  pub totals : done ++ totals_by now todo ≡ totals_by (flows_of ps) all

pub lanes_next : (ps : List Packet) (all : List (List Merged)) (i : ℕ) (rs : List Merged) (f g : KeptFlows) (old new : List QueueTotals) (t : QueueTotals) (x : LanesSoFar ps all (drop i all) f old)
    → drop i all ≡ rs ∷ drop (i + 1) all
    → new ≡ old ++ t ∷ [] → (t ≡ totals_of_items x.now rs) × AreLeft ps g (behind_items x.now rs) → LanesSoFar ps all (drop (i + 1) all) g new
lanes_next ps all i rs f g old new t x e grown a = record {
  now = behind_items x.now rs;
  are = a.1;
  totals = ap (λ z. z ++ totals_by (behind_items x.now rs) (drop (i + 1) all)) grown
      ∙ append_assoc old (t ∷ []) (totals_by (behind_items x.now rs) (drop (i + 1) all))
      ∙ ap (λ z. old ++ z ∷ totals_by (behind_items x.now rs) (drop (i + 1) all)) a.0
      ∙ ap (λ z. old ++ totals_by x.now z) (sym e) ∙ x.totals;
}

pub lanes_all : (ps : List Packet) (ls : List QueueLane) (i : ℕ) (f : KeptFlows) (done : List QueueTotals) → length ls ≤ i
    → LanesSoFar ps (map merged_in ls) (drop i (map merged_in ls)) f done → done ≡ totals_by (flows_of ps) (map merged_in ls)
lanes_all ps ls i f done l x = sym (append-nil done) ∙ ap (λ z. done ++ totals_by x.now z) (sym (mapped_gone merged_in ls i l)) ∙ x.totals

-- ---- where they hold what the runs of their queues come to

flow_append : (q : Option (List ℕ)) (xs ys : List (List Packet)) → of_flow q (xs ++ ys) ≡ of_flow q xs ++ of_flow q ys
flow_append q xs ys =
    ap (flat_map (λ (run : List Packet). run)) (filter-append (begins_in (is_of q)) xs ys)
    ∙ flat_map-append (λ (run : List Packet). run) (filter (begins_in (is_of q)) xs) (filter (begins_in (is_of q)) ys)

queues_counted : (segs : ℕ) (spread : Spread) (ps : List Packet) → AreCaptured ps → (k n : ℕ) (left : Lefts) → ((q : Option (List ℕ)) → left q ≡ of_flow q (runs_from segs spread ps k n))
    → totals_by left (map (λ q. map merged_of (items_of segs spread q ps)) (range_with_len k n)) ≡ map (λ q. totals_of_runs (items_of segs spread q ps)) (range_with_len k n)
queues_counted segs spread ps c k zero left is = refl
queues_counted segs spread ps c k (suc n) left is =
    let one = runs_counted (items_of segs spread k ps) left (λ q. of_flow q (runs_from segs spread ps (k + 1) n)) (queue_items segs spread k ps c)
    (λ q. is q ∙ flow_append q (items_of segs spread k ps) (runs_from segs spread ps (k + 1) n)) in
    ap (λ z. z ∷ totals_by (behind_items left (map merged_of (items_of segs spread k ps))) (map (λ q. map merged_of (items_of segs spread q ps)) (range_with_len (k + 1) n))) one.0
    ∙ ap (λ z. totals_of_runs (items_of segs spread k ps) ∷ z) (queues_counted segs spread ps c (k + 1) n (behind_items left (map merged_of (items_of segs spread k ps))) one.1)

abbrev pub counts : List QueueTotals → List TapTotals → Counts
counts qs ts = record { queues = qs; taps = ts }

-- the totals of all lanes are the round's
pub all_totals : (o : Options) (ps : List Packet) (qls : List QueueLane) (ls : List TapLane) (qs : List QueueTotals) (ts : List TapTotals)
    → ((key : Option (List ℕ)) → o.spread key < o.queues) → o.queues ≡ length qls → o.taps ≡ length ls → AreCaptured ps
    → AreMerged o.segs o.spread (length qls) ps qls → AreWatched o.snap (length ls) (shown o ps) ls
    → qs ≡ totals_by (flows_of ps) (map merged_in qls) → ts ≡ map (λ (l : TapLane). totals_of_texts l.texts) ls → counts qs ts ≡ round_totals o ps
all_totals o ps qls ls qs ts below eq et c m w q t =
    let own : qs ≡ map (λ q. queue_totals o q ps) (range_with_len 0 o.queues)
    = q ∙ ap (totals_by (flows_of ps)) m.items
    ∙ ap (λ n. totals_by (flows_of ps) (map (λ q. map merged_of (items_of o.segs o.spread q ps)) (range_with_len 0 n))) (sym eq)
    ∙ queues_counted o.segs o.spread ps c 0 o.queues (flows_of ps) (λ k. sym (all_runs k o.segs o.spread o.queues ps (below k) c))
    ∙ map_same (λ q. totals_of_runs (items_of o.segs o.spread q ps)) (λ q. queue_totals o q ps) (range_with_len 0 o.queues) (λ q. totals_are o q ps c) in
    ap (λ z. counts z ts) own ∙ ap (counts (map (λ q. queue_totals o q ps) (range_with_len 0 o.queues))) (t ∙ taps_are o (length ls) ps ls et w)

pub are_captured : (k : ℕ) (ps : List Packet) → AllByRecursion IsCaptured ps → RiseFrom k ps → AreCaptured ps
are_captured k ps c r = record { each = c; rising = rising k ps r }
