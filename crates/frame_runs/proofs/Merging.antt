-- A packet comes: a run takes it, or it opens one.
use Rattle.std.proofs.Common.{◌≡◌, ◌≢◌, ℕ, zero, suc, ◌+◌, ◌<◌, ◌≤◌, inl, inr, Bool, true, false, Option, Some, None, List}
use Rattle.std.proofs.Common.{[], ◌∷◌, ◌++◌, length, get_or, map, set, take, vec_len, vec_capacity, refl, sym, ap, ◌∙◌, subst, arith, length-append}
use Rattle.std.specs.Prelude.{if◌then◌else◌}
use Rattle.std.specs.List.{AllByRecursion}
use Rattle.std.proofs.lemmas.List.{map-append, get_or-map, length-map, length-set, get_or-set_same, get_or_push}
use Rattle.std.proofs.lemmas.Bool.{cases_eq, cases_Bool}
use Rattle.maximal_runs.specs.Items.{begins_in, first_number}
use Rattle.maximal_runs.proofs.Pass.{all_append}
use Rattle.frame_layout.specs.Key.{key_eq, key_of}
use Rattle.offload_model.specs.declared.limits.Limits.{Limits}
use Rattle.pcap_io.specs.Capture.{Packet}
use Rattle.offload_model.specs.Mergeable.{IsMergeable, IsMergeableWithin}
use Rattle.offload_model.specs.Rounds.{is_of, number_of}
use Rattle.offload_model.proofs.Items.{key_eq_same, key_eq_self}
use Rattle.merge_rule.specs.Runs.{IsNoCandidate}
use Rattle.merge_rule.specs.Steps.{IsLastBelow, TakesPacket, KeepsEarly}
use Rattle.merge_rule.proofs.Knows.{shut_by, no_first}
use Rattle.merge_rule.proofs.Steps.{early_grows}
use Rattle.frame_runs.specs.declared.run.Run.{Run}
use Rattle.frame_runs.specs.declared.flows.Flows.{Flows}
use Rattle.frame_runs.specs.declared.engine.Engine.{Engine}
use Rattle.frame_runs.specs.Flows.{place_of, AreFlows, IsOwn, Puts, HasRoom}
use Rattle.frame_runs.specs.Index.{IsShut, IsIndexOf, IsLatest}
use Rattle.frame_runs.specs.Chains.{chain_of, behind, indices, last_in, packet_at, run_of, index_sum, index_sums, sum_below, AreSharedOut, mark}
use Rattle.frame_runs.specs.Engine.{Knows, IsChain, runs_of, chains_of, AreRuns, Grows, HasPlaces, Takes}
use Rattle.frame_runs.proofs.Keys.{keys_equiv}
pub use Rattle.frame_runs.proofs.Flowing.{room_less}
use Rattle.frame_runs.proofs.Indexing.{found_last, own_last, index_grows, takes_grows, index_opens, takes_opens, index_none, latest_of}
use Rattle.frame_runs.proofs.Chains.{mark_same, once, last_counts, chain_apart, chain_grown, last_grown, totals_push, totals_set, one_of, two_of}
use Rattle.std.proofs.lemmas.List.{get_or-set_other, take_more, take_all}
use Rattle.maximal_runs.specs.Items.{AreItems}
use Rattle.offload_model.specs.Rounds.{runs_within}
use Rattle.offload_model.proofs.Items.{within_alone}
use Rattle.frame_runs.specs.Chains.{no_packet}
use Rattle.frame_runs.specs.Engine.{HasReceived, DoRise, IsReady}

-- ---- lists

pub all_at : {X : Type 0} (P : X → Type 0) (xs : List X) (i : ℕ) (d : X) → AllByRecursion P xs → i < length xs → P (get_or xs i d)
all_at P [] i d a h = absurd (omega (arith, h))
all_at P (x ∷ xs) zero d a h = a.0
all_at P (x ∷ xs) (suc i) d a h = all_at P xs i d a.1 (omega (arith, h))

mapped_same : {X Y : Type 0} (f g : X → Y) (xs : List X) → ((j : ℕ) (d : X) → j < length xs → g (get_or xs j d) ≡ f (get_or xs j d)) → map g xs ≡ map f xs
mapped_same f g [] h = refl
mapped_same f g (x ∷ xs) h =
    ap (λ z. z ∷ map g xs) (h 0 x (omega arith)) ∙ ap (λ z. f x ∷ z) (mapped_same f g xs (λ j d l. h (suc j) d (omega (arith, l))))

mapped_set : {X Y : Type 0} (f g : X → Y) (xs : List X) (i : ℕ) (x : X) (y : Y) → g x ≡ y
    → ((j : ℕ) (d : X) → j < length xs → j ≢ i → g (get_or xs j d) ≡ f (get_or xs j d)) → map g (set xs i x) ≡ set (map f xs) i y
mapped_set f g [] i x y e h = refl
mapped_set f g (z ∷ xs) zero x y e h =
    ap (λ w. w ∷ map g xs) e ∙ ap (λ w. y ∷ w) (mapped_same f g xs (λ j d l. h (suc j) d (omega (arith, l)) (λ s. omega (arith, s))))
mapped_set f g (z ∷ xs) (suc i) x y e h =
    ap (λ w. w ∷ map g (set xs i x)) (h 0 z (omega arith) (λ s. omega (arith, s)))
    ∙ ap (λ w. f z ∷ w) (mapped_set f g xs i x y e (λ j d l o. h (suc j) d (omega (arith, l)) (λ s. o (omega (arith, s)))))

all_same : {X : Type 0} (P Q : X → Type 0) (xs : List X) → AllByRecursion P xs
    → ((j : ℕ) (d : X) → j < length xs → P (get_or xs j d) → Q (get_or xs j d)) → AllByRecursion Q xs
all_same P Q [] a h = tt
all_same P Q (x ∷ xs) a h = (h 0 x (omega arith) a.0, all_same P Q xs a.1 (λ j d l. h (suc j) d (omega (arith, l))))

all_set : {X : Type 0} (P Q : X → Type 0) (xs : List X) (i : ℕ) (y : X) → AllByRecursion P xs → Q y
    → ((j : ℕ) (d : X) → j < length xs → j ≢ i → P (get_or xs j d) → Q (get_or xs j d)) → AllByRecursion Q (set xs i y)
all_set P Q [] i y a q h = tt
all_set P Q (x ∷ xs) zero y a q h = (q, all_same P Q xs a.1 (λ j d l. h (suc j) d (omega (arith, l)) (λ s. omega (arith, s))))
all_set P Q (x ∷ xs) (suc i) y a q h =
    (h 0 x (omega arith) (λ s. omega (arith, s)) a.0, all_set P Q xs i y a.1 q (λ j d l o. h (suc j) d (omega (arith, l)) (λ s. o (omega (arith, s)))))

pub last_inside : (P : ℕ → Type 0) (x : ℕ) (ys : List ℕ) → AllByRecursion P (x ∷ ys) → P (last_in x ys)
last_inside P x [] a = a.0
last_inside P x (y ∷ ys) a = last_inside P y ys a.1

-- ---- an item that an index isn't in keeps its chain

behind_apart : (next : List ℕ) (k v : ℕ) (item : Run) → index_sum (mark k) (indices next item) ≡ 0 → behind (set next k v) item ≡ behind next item
behind_apart next k v item h = elim (cases_eq item.first k) [
  | inl same ↦ absurd (omega (arith, h, subst (λ z. mark k z ≡ 1) (sym same) (mark_same k)))
  | inr other ↦
      ap (λ z. chain_of (set next k v) item.more z) (get_or-set_other next k item.first v 0 other)
      ∙ chain_apart next k v item.more (get_or next item.first 0) (omega (arith, h))
]

item_apart : (ps : List Packet) (next : List ℕ) (k v : ℕ) (item : Run) → index_sum (mark k) (indices next item) ≡ 0 → IsChain ps next item → IsChain ps (set next k v) item
item_apart ps next k v item h is = record {
  knows = subst (λ (z : List ℕ). Knows item (packet_at ps item.first) (map (packet_at ps) z)) (sym (behind_apart next k v item h)) is.knows;
  last = subst (λ (z : List ℕ). last_in item.first z ≡ item.last) (sym (behind_apart next k v item h)) is.last;
  inside = subst (λ (z : List ℕ). AllByRecursion (λ k. k < length ps) (item.first ∷ z)) (sym (behind_apart next k v item h)) is.inside;
}

shut_item : (item : Run) (p : Packet) (rest : List Packet) → Knows item p rest → item.progress.is_open ≡ false → IsShut (p ∷ rest)
shut_item item p rest k e = λ x m. shut_by item.layout item.payload item.flags item.progress p x rest k.is e m

-- ---- the item at a place

module _ (ps : List Packet) (i place : ℕ) (a : Engine) (old : Run) (each : AllByRecursion (IsChain ps a.next.items) a.runs.items) (inside : place < length a.runs.items)
    (was : old ≡ get_or a.runs.items place old) where
  pub item_at : IsChain ps a.next.items old
  item_at = subst (IsChain ps a.next.items) (sym was) (all_at (IsChain ps a.next.items) a.runs.items place old each inside)

  pub first_below : old.first < length ps
  first_below = item_at.inside.0

  pub last_below : length ps ≤ length a.next.items → old.last < length a.next.items
  last_below h = omega (arith, h, item_at.last, last_inside (λ k. k < length ps) old.first (behind a.next.items old) item_at.inside)

  abbrev others_of : List Packet
  others_of = map (packet_at ps) (behind a.next.items old)

  pub run_there : get_or (runs_of ps a) place [] ≡ packet_at ps old.first ∷ others_of
  run_there = get_or-map (run_of ps a.next.items) a.runs.items place old [] inside ∙ ap (run_of ps a.next.items) (sym was)

  module _ (p : Packet) (ep : packet_at ps old.first ≡ p) where
    pub known_at : Knows old p others_of
    known_at = subst (λ z. Knows old z others_of) ep item_at.knows

    pub run_is : get_or (runs_of ps a) place [] ≡ p ∷ others_of
    run_is = run_there ∙ ap (λ z. z ∷ others_of) ep

    pub knows_linked : (new : Run) (x : Packet) → packet_at ps i ≡ x
        → ((rest : List Packet) → Knows old p rest → IsMergeable ((p ∷ rest) ++ (x ∷ [])) → Knows new p (rest ++ (x ∷ [])))
        → IsMergeable (get_or (runs_of ps a) place [] ++ (x ∷ []))
        → Knows new (packet_at ps old.first) (others_of ++ (packet_at ps i ∷ []))
    knows_linked new x ex f m =
        subst (λ z. Knows new z (others_of ++ (packet_at ps i ∷ []))) (sym ep)
        (subst (λ z. Knows new p (others_of ++ (z ∷ []))) (sym ex)
        (f others_of known_at (subst (λ (z : List Packet). IsMergeable (z ++ (x ∷ []))) run_is m)))

-- ---- the run at a place takes packet i

module _ (ps : List Packet) (i place : ℕ) (a b : Engine) (old new : Run) (runs : AreRuns ps i a) (inside : place < length a.runs.items)
    (was : old ≡ get_or a.runs.items place old)
    (items : b.runs.items ≡ set a.runs.items place new)
    (next : b.next.items ≡ set a.next.items old.last i)
    (flows : b.flows ≡ a.flows)
    (here : i < length ps)
    (first_is : new.first ≡ old.first) (last_is : new.last ≡ i) (more_is : new.more ≡ old.more + 1)
    (knows : Knows new (packet_at ps old.first) (map (packet_at ps) (behind a.next.items old) ++ (packet_at ps i ∷ []))) where
  abbrev links : List ℕ
  links = a.next.items

  pub own : IsChain ps links old
  own = subst (IsChain ps links) (sym was) (all_at (IsChain ps links) a.runs.items place old runs.each inside)

  own_chain : get_or (chains_of a) place [] ≡ indices links old
  own_chain = get_or-map (indices links) a.runs.items place old [] inside ∙ ap (indices links) (sym was)

  few : index_sums (mark old.last) (chains_of a) ≤ 1
  few = omega (arith, runs.shared (mark old.last), (once old.last i).1)

  has : 1 ≤ index_sum (mark old.last) (indices links old)
  has = last_counts old.first (behind links old) old.last own.last

  own_once : index_sum (mark old.last) (indices links old) ≤ 1
  own_once = omega (arith, few, one_of (mark old.last) (chains_of a) place, ap (index_sum (mark old.last)) own_chain)

  -- no other item has the old last one
  others : (j : ℕ) (d : Run) → j < length a.runs.items → j ≢ place → index_sum (mark old.last) (indices links (get_or a.runs.items j d)) ≡ 0
  others j d l o =
      omega (
        arith,
        few,
        has,
        two_of (mark old.last) (chains_of a) j place o,
        ap (index_sum (mark old.last)) own_chain,
        ap (index_sum (mark old.last)) (get_or-map (indices links) a.runs.items j d [] l),
      )

  behind_new : behind b.next.items new ≡ behind links old ++ (i ∷ [])
  behind_new =
      ap (λ (z : List ℕ). behind z new) next
      ∙ ap (λ (z : ℕ). chain_of (set links old.last i) z (get_or (set links old.last i) new.first 0)) (let s : new.more ≡ suc old.more = omega (arith, more_is) in s)
      ∙ ap (λ (z : ℕ). chain_of (set links old.last i) (suc old.more) (get_or (set links old.last i) z 0)) first_is
      ∙ chain_grown links old.last i old.more old.first (omega (arith, last_inside (λ k. k < length ps) old.first (behind links old) own.inside, own.last, runs.linked)) own.last own_once

  indices_new : indices b.next.items new ≡ indices links old ++ (i ∷ [])
  indices_new = ap (λ (z : ℕ). z ∷ behind b.next.items new) first_is ∙ ap (λ (z : List ℕ). old.first ∷ z) behind_new

  chains_new : chains_of b ≡ set (chains_of a) place (get_or (chains_of a) place [] ++ (i ∷ []))
  chains_new =
      ap (λ (z : List Run). map (indices b.next.items) z) items
      ∙ mapped_set (indices links) (indices b.next.items) a.runs.items place new (get_or (chains_of a) place [] ++ (i ∷ []))
      (indices_new ∙ ap (λ (z : List ℕ). z ++ (i ∷ [])) (sym own_chain))
      (λ j d l o.
      let it : Run = get_or a.runs.items j d in
      ap (λ (z : List ℕ). indices z it) next ∙ ap (λ (z : List ℕ). it.first ∷ z) (behind_apart links old.last i it (others j d l o)))

  own_run : get_or (runs_of ps a) place [] ≡ map (packet_at ps) (indices links old)
  own_run = get_or-map (run_of ps links) a.runs.items place old [] inside ∙ ap (run_of ps links) (sym was)

  run_new : run_of ps b.next.items new ≡ get_or (runs_of ps a) place [] ++ (packet_at ps i ∷ [])
  run_new =
      ap (map (packet_at ps)) indices_new ∙ map-append (packet_at ps) (indices links old) (i ∷ [])
      ∙ ap (λ (z : List Packet). z ++ (packet_at ps i ∷ [])) (sym own_run)

  runs_new : runs_of ps b ≡ set (runs_of ps a) place (get_or (runs_of ps a) place [] ++ (packet_at ps i ∷ []))
  runs_new =
      ap (λ (z : List Run). map (run_of ps b.next.items) z) items
      ∙ mapped_set (run_of ps links) (run_of ps b.next.items) a.runs.items place new (get_or (runs_of ps a) place [] ++ (packet_at ps i ∷ []))
      run_new
      (λ j d l o.
      let it : Run = get_or a.runs.items j d in
      ap (λ (z : List ℕ). run_of ps z it) next ∙ ap (λ (z : List ℕ). map (packet_at ps) (it.first ∷ z)) (behind_apart links old.last i it (others j d l o)))

  rest_new : map (packet_at ps) (behind b.next.items new) ≡ map (packet_at ps) (behind links old) ++ (packet_at ps i ∷ [])
  rest_new = ap (map (packet_at ps)) behind_new ∙ map-append (packet_at ps) (behind links old) (i ∷ [])

  knows_new : Knows new (packet_at ps new.first) (map (packet_at ps) (behind b.next.items new))
  knows_new =
      subst (λ (z : ℕ). Knows new (packet_at ps z) (map (packet_at ps) (behind b.next.items new))) (sym first_is)
      (subst (λ (z : List Packet). Knows new (packet_at ps old.first) z) (sym rest_new) knows)

  is_new : IsChain ps b.next.items new
  is_new = record {
    knows = knows_new;
    last = ap (λ (z : List ℕ). last_in new.first z) behind_new ∙ last_grown new.first (behind links old) i ∙ sym last_is;
    inside = subst (AllByRecursion (λ k. k < length ps)) (sym indices_new) (all_append (λ k. k < length ps) (indices links old) (i ∷ []) own.inside (here, tt));
  }

  each_new : AllByRecursion (IsChain ps b.next.items) b.runs.items
  each_new =
      subst (AllByRecursion (IsChain ps b.next.items)) (sym items)
      (all_set (IsChain ps links) (IsChain ps b.next.items) a.runs.items place new runs.each is_new
      (λ j d l o is. subst (λ (z : List ℕ). IsChain ps z (get_or a.runs.items j d)) (sym next) (item_apart ps links old.last i (get_or a.runs.items j d) (others j d l o) is)))

  shared_new : AreSharedOut (i + 1) (chains_of b)
  shared_new f =
      ap (index_sums f) chains_new
      ∙ totals_set f (chains_of a) place i (omega (arith, inside, length-map a.runs.items (indices links)))
      ∙ ap (λ (z : ℕ). z + f i) (runs.shared f)
      ∙ ap (sum_below f) (let s : suc i ≡ i + 1 = omega arith in s)

  pub grown : (room : (vec_len b.runs ≡ vec_len a.runs) × (vec_capacity b.runs ≡ vec_capacity a.runs)) → Grows ps i place new.progress.is_open a b
  grown room = record {
    each = each_new;
    shared = shared_new;
    linked = ap length next ∙ length-set links old.last i;
    runs = runs_new;
    shut = λ e. subst IsShut run_new (shut_item new (packet_at ps new.first) (map (packet_at ps) (behind b.next.items new)) knows_new e);
    flows = flows;
    room = room;
  }

-- ---- and its flow finds it as long as it is open

module _ (limits : Limits) (ps : List Packet) (i place : ℕ) (is_open : Bool) (a b : Engine) (found_at : Flows) (runs : AreRuns ps i a) (inside : place < length a.runs.items)
    (g : Grows ps i place is_open a b) (key : Option (List ℕ)) (k : key_of (packet_at ps i).frame ≡ key) (found : place_of ps a.flows key ≡ Some place)
    (m : IsMergeableWithin limits (get_or (runs_of ps a) place [] ++ (packet_at ps i ∷ []))) (flows : AreFlows ps found_at)
    (puts : Puts ps a.flows key (if is_open then Some place else None) found_at)
    (room : (n : ℕ) → HasRoom a.flows (n + 1) → HasRoom found_at n) where
  abbrev after : Engine
  after = record { runs = b.runs; next = b.next; flows = found_at; last = (if is_open then Some place else None) }

  abbrev run : List Packet
  run = get_or (runs_of ps a) place []

  long : place < length (runs_of ps a)
  long = omega (arith, inside, length-map a.runs.items (run_of ps a.next.items))

  last : IsLastBelow (begins_in (is_of key)) (runs_of ps a) (length (runs_of ps a)) (Some place)
  last = found_last (place_of ps a.flows) (runs_of ps a) key place runs.index found

  now_there : get_or (runs_of ps b) place [] ≡ run ++ (packet_at ps i ∷ [])
  now_there = ap (λ (z : List (List Packet)). get_or z place []) g.runs ∙ get_or-set_same (runs_of ps a) place (run ++ (packet_at ps i ∷ [])) [] long

  begins_more : (r : List Packet) → begins_in (is_of key) r ≡ true → begins_in (is_of key) (r ++ (packet_at ps i ∷ [])) ≡ true
  begins_more [] e = absurd cc
  begins_more (y ∷ r) e = e

  pub taken : Takes limits ps i a after
  taken = record {
    runs = record {
      each = g.each;
      shared = g.shared;
      linked = omega (arith, runs.linked, g.linked);
      flows = flows;
      index = subst (IsIndexOf (place_of ps found_at)) (sym g.runs)
          (index_grows (place_of ps a.flows) (runs_of ps a) key place run (packet_at ps i) runs.index found refl (place_of ps found_at) is_open puts g.shut);
      latest = latest_of (place_of ps found_at) (runs_of ps b) key place is_open
          (omega (arith, long, ap length g.runs, length-set (runs_of ps a) place (run ++ (packet_at ps i ∷ []))))
          (ap (begins_in (is_of key)) now_there ∙ begins_more run (last.1 []))
          (puts key ∙ ap (λ (b : Bool). if b then (if is_open then Some place else None) else place_of ps a.flows key) (keys_equiv.refl key));
    };
    takes = subst (TakesPacket limits (runs_of ps a) (packet_at ps i)) (sym g.runs)
        (takes_grows (place_of ps a.flows) (runs_of ps a) key place run (packet_at ps i) runs.index found refl limits k m);
    early = subst (KeepsEarly (runs_of ps a) (packet_at ps i)) (sym g.runs) (early_grows (runs_of ps a) key place (packet_at ps i) run refl last);
    linked = g.linked;
    places = λ n h. (omega (arith, h.0, g.room.0, g.room.1), room n h.1);
  }

-- ---- a packet opens a run

module _ (limits : Limits) (ps : List Packet) (i : ℕ) (a b : Engine) (item : Run) (runs : AreRuns ps i a)
    (items : b.runs.items ≡ a.runs.items ++ (item ∷ [])) (next : b.next ≡ a.next) (here : i < length ps)
    (first_is : item.first ≡ i) (last_is : item.last ≡ i) (more_is : item.more ≡ 0)
    (knows : Knows item (packet_at ps i) [])
    (places : (n : ℕ) → HasPlaces a (n + 1) → HasPlaces b n) where
  abbrev x : Packet
  x = packet_at ps i

  none_behind : behind b.next.items item ≡ []
  none_behind = ap (λ (z : ℕ). chain_of b.next.items z (get_or b.next.items item.first 0)) more_is

  indices_one : indices b.next.items item ≡ i ∷ []
  indices_one = ap (λ (z : ℕ). z ∷ behind b.next.items item) first_is ∙ ap (λ (z : List ℕ). i ∷ z) none_behind

  chains : chains_of b ≡ chains_of a ++ ((i ∷ []) ∷ [])
  chains =
      ap (λ (z : List Run). map (indices b.next.items) z) items
      ∙ map-append (indices b.next.items) a.runs.items (item ∷ [])
      ∙ ap (λ (z : List ℕ). map (indices b.next.items) a.runs.items ++ (z ∷ [])) indices_one
      ∙ ap (λ z. map (indices z.items) a.runs.items ++ ((i ∷ []) ∷ [])) next

  pub packets : runs_of ps b ≡ runs_of ps a ++ ((x ∷ []) ∷ [])
  packets =
      ap (λ (z : List Run). map (run_of ps b.next.items) z) items
      ∙ map-append (run_of ps b.next.items) a.runs.items (item ∷ [])
      ∙ ap (λ (z : List ℕ). map (run_of ps b.next.items) a.runs.items ++ (map (packet_at ps) z ∷ [])) indices_one
      ∙ ap (λ z. map (run_of ps z.items) a.runs.items ++ ((x ∷ []) ∷ [])) next

  is_item : IsChain ps b.next.items item
  is_item = record {
    knows = subst (λ (z : ℕ). Knows item (packet_at ps z) (map (packet_at ps) (behind b.next.items item))) (sym first_is)
        (subst (λ (z : List ℕ). Knows item x (map (packet_at ps) z)) (sym none_behind) knows);
    last = ap (λ (z : List ℕ). last_in item.first z) none_behind ∙ first_is ∙ sym last_is;
    inside = subst (AllByRecursion (λ k. k < length ps)) (sym indices_one) (here, tt);
  }

  each : AllByRecursion (IsChain ps b.next.items) b.runs.items
  each = subst (AllByRecursion (IsChain ps b.next.items)) (sym items)
      (all_append (IsChain ps b.next.items) a.runs.items (item ∷ []) (subst (λ z. AllByRecursion (IsChain ps z.items) a.runs.items) (sym next) runs.each) (is_item, tt))

  shared : AreSharedOut (i + 1) (chains_of b)
  shared f =
      ap (index_sums f) chains ∙ totals_push f (chains_of a) i ∙ ap (λ (z : ℕ). z + f i) (runs.shared f)
      ∙ ap (sum_below f) (let s : suc i ≡ i + 1 = omega arith in s)

  opened_by : AreFlows ps b.flows → IsIndexOf (place_of ps b.flows) (runs_of ps a ++ ((x ∷ []) ∷ []))
      → TakesPacket limits (runs_of ps a) x (runs_of ps a ++ ((x ∷ []) ∷ []))
      → IsLatest (place_of ps b.flows) (runs_of ps a ++ ((x ∷ []) ∷ [])) b.last → Takes limits ps i a b
  opened_by flows index takes latest = record {
    runs = record {
      each = each;
      shared = shared;
      linked = omega (arith, runs.linked, ap (λ z. length z.items) next);
      flows = flows;
      index = subst (IsIndexOf (place_of ps b.flows)) (sym packets) index;
      latest = subst (λ (z : List (List Packet)). IsLatest (place_of ps b.flows) z b.last) (sym packets) latest;
    };
    takes = subst (TakesPacket limits (runs_of ps a) x) (sym packets) takes;
    early = subst (KeepsEarly (runs_of ps a) x) (sym packets) (λ n a' b'. all_append (λ run. first_number number_of run < n) (runs_of ps a) ((x ∷ []) ∷ []) a' (b', tt));
    linked = ap (λ z. length z.items) next;
    places = places;
  }

  opens_at : (key : Option (List ℕ)) (j : ℕ) (is_open : Bool) → key_of x.frame ≡ key
      → j ≡ length a.runs.items → AreFlows ps b.flows
      → Puts ps a.flows key (if is_open then Some j else None) b.flows → (is_open ≡ false → IsShut (x ∷ []))
      → ((l : ℕ) → place_of ps a.flows key ≡ Some l → IsMergeableWithin limits (get_or (runs_of ps a) l [] ++ (x ∷ [])) → ⊥)
      → IsLatest (place_of ps b.flows) (runs_of ps a ++ ((x ∷ []) ∷ [])) b.last → Takes limits ps i a b
  opens_at key j is_open k e flows puts shut not latest = opened_by flows
      (index_opens (place_of ps a.flows) (place_of ps b.flows) (runs_of ps a) x key runs.index k j is_open
      (e ∙ sym (length-map a.runs.items (run_of ps a.next.items))) puts shut)
      (takes_opens (place_of ps a.flows) (place_of ps b.flows) (runs_of ps a) x key runs.index k limits not)
      latest

  latest_opened : (key : Option (List ℕ)) (j : ℕ) (is_open : Bool) → key_of x.frame ≡ key
      → j ≡ length a.runs.items → Puts ps a.flows key (if is_open then Some j else None) b.flows
      → b.last ≡ (if is_open then Some j else None) → IsLatest (place_of ps b.flows) (runs_of ps a ++ ((x ∷ []) ∷ [])) b.last
  latest_opened key j is_open k e puts last =
      let n : j ≡ length (runs_of ps a) = e ∙ sym (length-map a.runs.items (run_of ps a.next.items)) in
      subst (IsLatest (place_of ps b.flows) (runs_of ps a ++ ((x ∷ []) ∷ []))) (sym last)
      (latest_of (place_of ps b.flows) (runs_of ps a ++ ((x ∷ []) ∷ [])) key j is_open
      (omega (arith, n, length-append (runs_of ps a) ((x ∷ []) ∷ [])))
      (ap (begins_in (is_of key)) (get_or_push (runs_of ps a) (x ∷ []) [] j (sym n)) ∙ ap (key_eq key) k ∙ key_eq_self key)
      (puts key ∙ ap (λ (b : Bool). if b then (if is_open then Some j else None) else place_of ps a.flows key) (keys_equiv.refl key)))

  pub opens_run : (key : Option (List ℕ)) (j : ℕ) → key_of x.frame ≡ key → j ≡ length a.runs.items → AreFlows ps b.flows
      → Puts ps a.flows key (if item.progress.is_open then Some j else None) b.flows
      → ((l : ℕ) → place_of ps a.flows key ≡ Some l → IsMergeableWithin limits (get_or (runs_of ps a) l [] ++ (x ∷ [])) → ⊥)
      → b.last ≡ (if item.progress.is_open then Some j else None) → Takes limits ps i a b
  opens_run key j k e flows puts not last =
      opens_at key j item.progress.is_open k e flows puts (λ s. shut_item item x [] knows s) not
      (latest_opened key j item.progress.is_open k e puts last)

  -- the same of a packet by another name
  pub begins_run : (y : Packet) (key : Option (List ℕ)) (j : ℕ) → x ≡ y → key_of y.frame ≡ key → j ≡ length a.runs.items → AreFlows ps b.flows
      → Puts ps a.flows key (if item.progress.is_open then Some j else None) b.flows
      → ((l : ℕ) → place_of ps a.flows key ≡ Some l → IsMergeableWithin limits (get_or (runs_of ps a) l [] ++ (y ∷ [])) → ⊥)
      → b.last ≡ (if item.progress.is_open then Some j else None) → Takes limits ps i a b
  begins_run y key j e k n flows puts not last =
      opens_run key j (ap (λ (z : Packet). key_of z.frame) e ∙ k) n flows puts
      (λ l g m. not l g (subst (λ z. IsMergeableWithin limits (get_or (runs_of ps a) l [] ++ (z ∷ []))) e m)) last

  -- what finds nothing finds nothing else
  keeps_none : (look : Option (List ℕ) → Option ℕ) (key q : Option (List ℕ)) → look key ≡ None
      → look q ≡ (if key_eq key q then None else look q)
  keeps_none look key q e = elim (cases_Bool (key_eq key q)) [
    | inl t ↦ ap look (sym (key_eq_same key q t)) ∙ e ∙ sym (ap (λ (b : Bool). if b then None else look q) t)
    | inr f ↦ sym (ap (λ (b : Bool). if b then None else look q) f)
  ]

  -- a packet that no other joins, of a flow that finds nothing
  pub opens_alone : place_of ps a.flows (key_of x.frame) ≡ None → IsShut (x ∷ []) → b.flows ≡ a.flows → b.last ≡ None → Takes limits ps i a b
  opens_alone none shut e last =
      let key : Option (List ℕ) = key_of x.frame in
      opens_at key (length a.runs.items) false refl refl (subst (AreFlows ps) (sym e) runs.flows)
      (λ q. ap (λ z. place_of ps z q) e ∙ keeps_none (place_of ps a.flows) key q none)
      (λ s. shut)
      (λ l g m. let t : None ≡ Some l = sym none ∙ g in absurd cc)
      (subst (IsLatest (place_of ps b.flows) (runs_of ps a ++ ((x ∷ []) ∷ []))) (sym last) tt)

-- a packet that is no candidate is followed by none
pub alone_shut : (p : Packet) → IsNoCandidate p.frame p.original → IsShut (p ∷ [])
alone_shut p j = λ x m. no_first p x [] j m

-- ---- packets in their list

-- a packet of the list is the one at its index
pub slot_at : {S : Type 0} (packet : S → Packet) (xs : List S) (k : ℕ) (p : S) → k < length xs → p ≡ get_or xs k p → packet_at (map packet xs) k ≡ packet p
slot_at packet xs k p h e = get_or-map packet xs k p (packet_at [] 0) h ∙ ap packet (sym e)

-- a run that is found is one of them
pub found_inside : (ps : List Packet) (a : Engine) (key : Option (List ℕ)) (place : ℕ) → IsIndexOf (place_of ps a.flows) (runs_of ps a) → place_of ps a.flows key ≡ Some place
    → place < length a.runs.items
found_inside ps a key place index found =
    omega (arith, (found_last (place_of ps a.flows) (runs_of ps a) key place index found).0, length-map a.runs.items (run_of ps a.next.items))

-- and of no other flow
pub own_by : (ps : List Packet) (a : Engine) (key : Option (List ℕ)) (place : ℕ) → IsIndexOf (place_of ps a.flows) (runs_of ps a) → place_of ps a.flows key ≡ Some place
    → IsOwn ps a.flows key place
own_by ps a key place index found = (found, own_last (place_of ps a.flows) (runs_of ps a) key place index found)

-- a run that has taken a packet, and the flows behind it
pub taken_by : (limits : Limits) (ps : List Packet) (i place : ℕ) (is_open : Bool) (a b : Engine) (f : Flows) (runs : AreRuns ps i a) (inside : place < length a.runs.items)
    (g : Grows ps i place is_open a b) (x : Packet) → packet_at ps i ≡ x → (key : Option (List ℕ)) → key_of x.frame ≡ key → place_of ps a.flows key ≡ Some place
    → IsMergeableWithin limits (get_or (runs_of ps a) place [] ++ (x ∷ [])) → (now : Option ℕ) → now ≡ (if is_open then Some place else None)
    → AreFlows ps f → Puts ps b.flows key (if is_open then Some place else None) f → ((n : ℕ) → HasRoom b.flows (n + 1) → HasRoom f n)
    → Takes limits ps i a (record { runs = b.runs; next = b.next; flows = f; last = now })
taken_by limits ps i place is_open a b f runs inside g x ex key k found m now el flows puts room =
    subst (λ (z : Option ℕ). Takes limits ps i a (record { runs = b.runs; next = b.next; flows = f; last = z })) (sym el)
    (taken limits ps i place is_open a b f runs inside g key (ap (λ (z : Packet). key_of z.frame) ex ∙ k) found
    (subst (λ z. IsMergeableWithin limits (get_or (runs_of ps a) place [] ++ (z ∷ []))) (sym ex) m) flows
    (subst (λ (z : Flows). Puts ps z key (if is_open then Some place else None) f) g.flows puts)
    (subst (λ (z : Flows). (n : ℕ) → HasRoom z (n + 1) → HasRoom f n) g.flows room))

pub latest_inside : (ps : List Packet) (i : ℕ) (a : Engine) (place : ℕ) → AreRuns ps i a → a.last ≡ Some place → place < length a.runs.items
latest_inside ps i a place runs e =
    omega (arith, (subst (IsLatest (place_of ps a.flows) (runs_of ps a)) e runs.latest).0, length-map a.runs.items (run_of ps a.next.items))

pub latest_finds : (ps : List Packet) (i : ℕ) (a : Engine) (place : ℕ) → AreRuns ps i a → a.last ≡ Some place → (q : Option (List ℕ))
    → begins_in (is_of q) (get_or (runs_of ps a) place []) ≡ true → place_of ps a.flows q ≡ Some place
latest_finds ps i a place runs e q b = (subst (IsLatest (place_of ps a.flows) (runs_of ps a)) e runs.latest).1 q b

-- ---- all packets of a list

above : (ps : List Packet) (q : Packet) (i : ℕ) (d : Packet) → DoRise (q ∷ ps) → i < length (q ∷ ps) → q.number ≤ (get_or (q ∷ ps) i d).number
above ps q zero d r h = omega arith
above [] q (suc i) d r h = absurd (omega (arith, h))
above (p ∷ ps) q (suc i) d r h = omega (arith, r.0, above ps p i d r.1 (omega (arith, h)))

earlier : (ps : List Packet) (i : ℕ) (d : Packet) → DoRise ps → i < length ps → AllByRecursion (λ (p : Packet). p.number < (get_or ps i d).number) (take i ps)
earlier [] i d r h = absurd (omega (arith, h))
earlier (p ∷ ps) zero d r h = tt
earlier (p ∷ []) (suc i) d r h = absurd (omega (arith, h))
earlier (p ∷ q ∷ ps) (suc i) d r h = (omega (arith, r.0, above ps q i d r.1 (omega (arith, h))), earlier (q ∷ ps) i d r.1 (omega (arith, h)))

split_all : {X : Type 0} (P : X → Type 0) (xs : List X) (y : X) → AllByRecursion P (xs ++ (y ∷ [])) → AllByRecursion P xs × P y
split_all P [] y a = (tt, a.0)
split_all P (x ∷ xs) y a = let s = split_all P xs y a.1 in ((a.0, s.0), s.1)

pub received_one : (limits : Limits) (ps : List Packet) (i : ℕ) (a b : Engine) → HasReceived limits ps i a → Takes limits ps i a b → DoRise ps → i < length ps → HasReceived limits ps (i + 1) b
received_one limits ps i a b r t rise h =
    let x : Packet = packet_at ps i in
    let more : take (i + 1) ps ≡ take i ps ++ (x ∷ []) = take_more ps i no_packet h in
    record {
      are = t.runs;
      runs = subst (λ (z : List Packet). AreItems (IsMergeableWithin limits) is_of number_of z (runs_of ps b)) (sym more)
          (t.takes (take i ps) (r.early x.number (earlier ps i no_packet rise h)) r.runs);
      early = λ n all.
          let s = split_all (λ (p : Packet). p.number < n) (take i ps) x (subst (AllByRecursion (λ (p : Packet). p.number < n)) more all) in
          t.early n (r.early n s.0) s.1;
    }

pub all_received : (limits : Limits) (ps : List Packet) (n : ℕ) (e : Engine) → HasReceived limits ps n e → n ≡ length ps → DoRise ps → runs_of ps e ≡ runs_within limits ps
all_received limits ps n e r l rise =
    within_alone limits ps (runs_of ps e) rise
    (subst (λ (z : List Packet). AreItems (IsMergeableWithin limits) is_of number_of z (runs_of ps e)) (take_all n ps (omega (arith, l))) r.runs)

-- none yet
pub none_yet : (limits : Limits) → AreItems (IsMergeableWithin limits) is_of number_of [] []
none_yet limits = record { full = tt; flows = λ k. record { filled = tt; joined = refl; each = tt; maximal = tt }; ordered = tt }

pub ready_received : (limits : Limits) (ps : List Packet) (n : ℕ) (e : Engine) → IsReady e n → length ps ≤ n → HasReceived limits ps 0 e
ready_received limits ps n e r h =
    let none : runs_of ps e ≡ [] = ap (λ (z : List Run). map (run_of ps e.next.items) z) r.none in
    record {
      are = record {
        each = subst (AllByRecursion (IsChain ps e.next.items)) (sym r.none) tt;
        shared = λ f. ap (λ (z : List Run). index_sums f (map (indices e.next.items) z)) r.none;
        linked = omega (arith, h, r.linked);
        flows = r.flows ps;
        index = subst (IsIndexOf (place_of ps e.flows)) (sym none) (index_none (place_of ps e.flows) (r.nothing ps));
        latest = subst (IsLatest (place_of ps e.flows) (runs_of ps e)) (sym r.last) tt;
      };
      runs = subst (AreItems (IsMergeableWithin limits) is_of number_of []) (sym none) (none_yet limits);
      early = λ n' a. subst (AllByRecursion (λ run. first_number number_of run < n')) (sym none) tt;
    }

-- an engine without runs, with other places
pub ready_again : (a b : Engine) (m n : ℕ) → IsReady a m → b.runs.items ≡ a.runs.items → n ≤ length b.next.items
    → ((ps : List Packet) → AreFlows ps b.flows)
    → ((ps : List Packet) (q : Option (List ℕ)) → place_of ps b.flows q ≡ place_of ps a.flows q) → b.last ≡ a.last → HasPlaces b n → IsReady b n
ready_again a b m n r runs linked flows same last places = record {
  none = runs ∙ r.none;
  linked = linked;
  flows = flows;
  nothing = λ ps q. same ps q ∙ r.nothing ps q;
  last = last ∙ r.last;
  places = places;
}
