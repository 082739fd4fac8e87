-- Lanes go away as tasks, and come back.
use Rattle.std.proofs.Common.{◌≡◌, ◌≢◌, ℕ, ◌+◌, ◌<◌, List, [], ◌∷◌, ◌++◌, length, get_or, set, inl, inr, append_assoc, refl, sym, ap, ◌∙◌, subst, arith}
use Rattle.std.proofs.lemmas.Bool.{cases_eq}
use Rattle.std.proofs.lemmas.List.{get_or-set_other, get_or-set_same, length-set}
use Rattle.std.specs.Prelude.{Option}
use Rattle.std.specs.List.{AllByRecursion}
use Rattle.errands.specs.Answers.{EachDid}
use Rattle.block_pool.specs.Giving.{GiverState}
use Rattle.lanes.specs.declared.lane.QueueLane.{QueueLane}
use Rattle.lanes.specs.declared.lane.TapLane.{TapLane}
use Rattle.lanes.specs.declared.lane.Lanes.{Lanes}
use Rattle.lanes.specs.declared.plan.LanePlan.{LanePlan}
use Rattle.lane_crew.specs.declared.tasks.LaneTask.{LaneTask}
use Rattle.lane_crew.specs.declared.tasks.LaneTask.TheVariants as asked
use Rattle.lane_crew.specs.declared.tasks.LaneDone.{LaneDone}
use Rattle.lane_crew.specs.declared.tasks.LaneDone.TheVariants as answered
use Rattle.tap_filter.specs.declared.instr.Instr.{Instr}
use Rattle.lanes.specs.Lanes.{DidQueue, DidTap}
use Rattle.lane_crew.specs.declared.loads.QueueLoad.{QueueLoad}
use Rattle.lane_crew.specs.declared.loads.TapLoad.{TapLoad}
use Rattle.lane_crew.specs.Loads.{queue_load, tap_load}
use Rattle.lane_crew.specs.Tasks.{DidLane, IsOfQueues, IsOfTaps, IsOf, IsElseQueue, IsElseTap, Parted, SentQueues, SentTaps, Away, HasPlace, IsPlaced, IsPut}
use Rattle.lanes.specs.Work.{Did}
use Rattle.lanes.proofs.Listing.{any_other, all_behind, all_front, all_rear, all_turned}

-- one more task behind those that came behind others
pub one_more : (now mid before more : List LaneTask) (t : LaneTask) → now ≡ mid ++ t ∷ [] → mid ≡ before ++ more → now ≡ before ++ (more ++ t ∷ [])
one_more now mid before more t e f = e ∙ ap (λ z. z ++ t ∷ []) f ∙ append_assoc before more (t ∷ [])

-- ---- lanes of one kind

module _ {L : Type 0} (D : L → L → Type 0) (E : ℕ → LaneTask → Type 0) where
  -- what came of the lane at a place stands there
  mine : (i : ℕ) (xs ys : List L) (y d : L) → i < length ys → D (get_or xs i d) y → D (get_or xs i d) (get_or (set ys i y) i d)
  mine i xs ys y d lt one = subst (D (get_or xs i d)) (sym (get_or-set_same ys i y d lt)) one

  -- the next lane is worked
  pub parted_here : (i n : ℕ) (xs ys : List L) (ts : List LaneTask) (x y : L) → n ≡ i + 1 → i < length xs → D (get_or ys i x) y → Parted D E i xs ys ts → Parted D E n xs (set ys i y) ts
  parted_here i n xs ys ts x y e lt one h =
      let in_ys : i < length ys = omega (arith, lt, h.size) in
      let at_i : (d : L) → D (get_or xs i d) y = λ d. subst (λ z. D z y) (h.rest i x (omega arith) ∙ any_other xs i x d lt) one in
      record {
        did = λ k d low in_xs a. elim (cases_eq k i) [
          | inl is ↦ subst (λ z. D (get_or xs z d) (get_or (set ys i y) z d)) (sym is) (mine i xs ys y d in_ys (at_i d))
          | inr not ↦ subst (D (get_or xs k d)) (sym (get_or-set_other ys i k y d not)) (h.did k d (omega (arith, low, e, not)) in_xs a)
        ];
        rest = λ k d le. get_or-set_other ys i k y d (λ is. absurd (omega (arith, is, le, e))) ∙ h.rest k d (omega (arith, le, e));
        size = length-set ys i y ∙ h.size;
      }

  -- the next lane goes away
  pub parted_sent : (i n : ℕ) (xs ys : List L) (ts : List LaneTask) (t : LaneTask) (y : L) → n ≡ i + 1 → (E i t → ⊥) → Parted D E i xs ys ts → Parted D E n xs (set ys i y) (ts ++ t ∷ [])
  parted_sent i n xs ys ts t y e away h = record {
    did = λ k d low in_xs a. elim (cases_eq k i) [
      | inl is ↦ absurd (away (subst (λ z. E z t) is (all_rear (E k) ts (t ∷ []) a).0))
      | inr not ↦ subst (D (get_or xs k d)) (sym (get_or-set_other ys i k y d not)) (h.did k d (omega (arith, low, e, not)) in_xs (all_front (E k) ts (t ∷ []) a))
    ];
    rest = λ k d le. get_or-set_other ys i k y d (λ is. absurd (omega (arith, is, le, e))) ∙ h.rest k d (omega (arith, le, e));
    size = length-set ys i y ∙ h.size;
  }

  -- the lane of the first task comes back
  pub parted_back : (k : ℕ) (xs ys : List L) (t : LaneTask) (ts : List LaneTask) (y : L) → k < length xs → ((d : L) → D (get_or xs k d) y) → ((i : ℕ) → k ≢ i → E i t)
      → Parted D E (length xs) xs ys (t ∷ ts) → Parted D E (length xs) xs (set ys k y) ts
  parted_back k xs ys t ts y lt one others h =
      let in_ys : k < length ys = omega (arith, lt, h.size) in
      record {
        did = λ i d low in_xs a. elim (cases_eq i k) [
          | inl is ↦ subst (λ z. D (get_or xs z d) (get_or (set ys k y) z d)) (sym is) (mine k xs ys y d in_ys (one d))
          | inr not ↦ subst (D (get_or xs i d)) (sym (get_or-set_other ys k i y d not)) (h.did i d low in_xs (others i (λ e. not (sym e)), a))
        ];
        rest = λ i d le. get_or-set_other ys k i y d (λ is. absurd (omega (arith, is, le, lt))) ∙ h.rest i d le;
        size = length-set ys k y ∙ h.size;
      }

  -- the lane of a task of another kind comes back
  pub parted_else : (n : ℕ) (xs ys : List L) (t : LaneTask) (ts : List LaneTask) → ((i : ℕ) → E i t) → Parted D E n xs ys (t ∷ ts) → Parted D E n xs ys ts
  parted_else n xs ys t ts other h = record { did = λ i d low in_xs a. h.did i d low in_xs (other i, a); rest = h.rest; size = h.size }

  -- with tasks of another kind behind, or before
  pub parted_front : (n : ℕ) (xs ys : List L) (ts us : List LaneTask) → Parted D E n xs ys ts → Parted D E n xs ys (ts ++ us)
  parted_front n xs ys ts us h = record { did = λ i d low in_xs a. h.did i d low in_xs (all_front (E i) ts us a); rest = h.rest; size = h.size }

  pub parted_rear : (n : ℕ) (xs ys : List L) (ts us : List LaneTask) → Parted D E n xs ys us → Parted D E n xs ys (ts ++ us)
  parted_rear n xs ys ts us h = record { did = λ i d low in_xs a. h.did i d low in_xs (all_rear (E i) ts us a); rest = h.rest; size = h.size }

-- ---- all lanes

turned_queues : (plan : LanePlan) (l : Lanes) (t : LaneTask) → IsOfQueues plan.segs l.queues.items t → IsOf plan l t
turned_queues plan l (asked.Queue t) h = h
turned_queues plan l (asked.Tap t) h = absurd h

turned_taps : (plan : LanePlan) (l : Lanes) (t : LaneTask) → IsOfTaps plan l.taps.items t → IsOf plan l t
turned_taps plan l (asked.Queue t) h = absurd h
turned_taps plan l (asked.Tap t) h = h

-- the lane at a place went away
pub own_queue : (segs at : ℕ) (old now : List QueueLane) (x : QueueLane) (giver : Option GiverState) (t : QueueLoad) → t ≡ queue_load at (get_or now at x) segs giver → get_or now at x ≡ get_or old at x
    → at < length old → IsOfQueues segs old (asked.Queue t)
own_queue segs at old now x giver t e same lt = subst (λ z. IsOfQueues segs old (asked.Queue z)) (sym e) (lt, refl, λ d. same ∙ any_other old at x d lt)

pub own_tap : (plan : LanePlan) (at : ℕ) (old now : List TapLane) (x : TapLane) (filter : Option (List Instr)) (giver : Option GiverState) (t : TapLoad) → t ≡ tap_load at (get_or now at x) plan.snap filter giver
    → filter ≡ plan.filter
    → get_or now at x ≡ get_or old at x → at < length old → IsOfTaps plan old (asked.Tap t)
own_tap plan at old now x filter giver t e shown same lt = subst (λ z. IsOfTaps plan old (asked.Tap z)) (sym e) (lt, refl, shown, λ d. same ∙ any_other old at x d lt)

-- the queues went away, and then the taps
pub all_away : (plan : LanePlan) (old new : Lanes) (qs : List QueueLane) (ls : List TapLane) (before mid after : List LaneTask) → before ≡ [] → new.queues.items ≡ qs → new.taps.items ≡ ls
    → SentQueues plan.segs (length old.queues.items) old.queues.items qs before mid → SentTaps plan (length old.taps.items) old.taps.items ls mid after → Away plan old new after
all_away plan old new qs ls before mid after none is_q is_t q t =
    let e : after ≡ q.0 ++ t.0 = t.1 ∙ ap (λ z. z ++ t.0) (q.1 ∙ ap (λ z. z ++ q.0) none) in
    subst (Away plan old new) (sym e) (record {
      own = all_behind (IsOf plan old) q.0 t.0 (all_turned (IsOfQueues plan.segs old.queues.items) (IsOf plan old) q.0 (turned_queues plan old) q.2)
          (all_turned (IsOfTaps plan old.taps.items) (IsOf plan old) t.0 (turned_taps plan old) t.2);
      queues = subst (λ z. Parted (DidQueue plan.segs) IsElseQueue (length old.queues.items) old.queues.items z (q.0 ++ t.0)) (sym is_q)
          (parted_front (DidQueue plan.segs) IsElseQueue (length old.queues.items) old.queues.items qs q.0 t.0 q.3);
      taps = subst (λ z. Parted (DidTap plan.filter plan.snap) IsElseTap (length old.taps.items) old.taps.items z (q.0 ++ t.0)) (sym is_t)
          (parted_rear (DidTap plan.filter plan.snap) IsElseTap (length old.taps.items) old.taps.items ls q.0 t.0 t.3);
    })

-- the answer of the first task comes back
pub brought : (plan : LanePlan) (old l m : Lanes) (t : LaneTask) (ts : List LaneTask) (d : LaneDone) → DidLane t d → IsPut d l m → Away plan old l (t ∷ ts) → Away plan old m ts
brought plan old l m (asked.Queue t) ts (answered.Queue d) did put h =
    let own = h.own.0 in
    let one : (x : QueueLane) → DidQueue plan.segs (get_or old.queues.items d.at x) d.lane = λ x.
    subst (λ z. DidQueue z (get_or old.queues.items d.at x) d.lane) own.1 (subst (λ z. DidQueue t.segs z d.lane) (own.2 x ∙ ap (λ j. get_or old.queues.items j x) (sym did.0)) did.1) in
    record {
      own = h.own.1;
      queues = subst (λ z. Parted (DidQueue plan.segs) IsElseQueue (length old.queues.items) old.queues.items z ts) (sym put.0)
          (parted_back (DidQueue plan.segs) IsElseQueue d.at old.queues.items l.queues.items (asked.Queue t) ts d.lane (omega (arith, own.0, did.0)) one (λ i apart e. apart (did.0 ∙ e)) h.queues);
      taps = subst (λ z. Parted (DidTap plan.filter plan.snap) IsElseTap (length old.taps.items) old.taps.items z ts) (sym put.1)
          (parted_else (DidTap plan.filter plan.snap) IsElseTap (length old.taps.items) old.taps.items l.taps.items (asked.Queue t) ts (λ i. tt) h.taps);
    }
brought plan old l m (asked.Tap t) ts (answered.Tap d) did put h =
    let own = h.own.0 in
    let one : (x : TapLane) → DidTap plan.filter plan.snap (get_or old.taps.items d.at x) d.lane = λ x.
    subst (λ z. DidTap z plan.snap (get_or old.taps.items d.at x) d.lane) own.2
    (subst (λ z. DidTap t.filter z (get_or old.taps.items d.at x) d.lane) own.1 (subst (λ z. DidTap t.filter t.snap z d.lane) (own.3 x ∙ ap (λ j. get_or old.taps.items j x) (sym did.0)) did.1)) in
    record {
      own = h.own.1;
      queues = subst (λ z. Parted (DidQueue plan.segs) IsElseQueue (length old.queues.items) old.queues.items z ts) (sym put.0)
          (parted_else (DidQueue plan.segs) IsElseQueue (length old.queues.items) old.queues.items l.queues.items (asked.Tap t) ts (λ i. tt) h.queues);
      taps = subst (λ z. Parted (DidTap plan.filter plan.snap) IsElseTap (length old.taps.items) old.taps.items z ts) (sym put.1)
          (parted_back (DidTap plan.filter plan.snap) IsElseTap d.at old.taps.items l.taps.items (asked.Tap t) ts d.lane (omega (arith, own.0, did.0)) one (λ i apart e. apart (did.0 ∙ e)) h.taps);
    }
brought plan old l m (asked.Queue t) ts (answered.Tap d) did put h = absurd did
brought plan old l m (asked.Tap t) ts (answered.Queue d) did put h = absurd did

-- each lane that is away has an answer
abbrev pub Answered : LanePlan → Lanes → Lanes → List LaneDone → Type 0
Answered plan old l ds = (ts : List LaneTask) × EachDid DidLane ts ds × Away plan old l ts

pub brought_next : (plan : LanePlan) (old l m : Lanes) (d : LaneDone) (ds : List LaneDone) → IsPut d l m → Answered plan old l (d ∷ ds) → Answered plan old m ds
brought_next plan old l m d ds put h = step h.0 h.1 h.2
  where
    step : (ts : List LaneTask) → EachDid DidLane ts (d ∷ ds) → Away plan old l ts → Answered plan old m ds
    step [] e a = absurd e
    step (t ∷ ts) e a = (ts, e.1, brought plan old l m t ts d e.0 put a)

pub none_away : (plan : LanePlan) (old l : Lanes) → Away plan old l [] → Did plan old l
none_away plan old l h = record {
  queues = λ i d lt. h.queues.did i d lt lt tt;
  taps = λ i d lt. h.taps.did i d lt lt tt;
  sizes = (h.queues.size, h.taps.size);
}

pub all_answered : (plan : LanePlan) (old l : Lanes) → Answered plan old l [] → Did plan old l
all_answered plan old l h = step h.0 h.1 h.2
  where
    step : (ts : List LaneTask) → EachDid DidLane ts [] → Away plan old l ts → Did plan old l
    step [] e a = none_away plan old l a
    step (t ∷ ts) e a = absurd e

-- ---- places

pub sizes_put : (d : LaneDone) (l m : Lanes) → IsPut d l m → (length m.queues.items ≡ length l.queues.items) × (length m.taps.items ≡ length l.taps.items)
sizes_put (answered.Queue d) l m put = (ap length put.0 ∙ length-set l.queues.items d.at d.lane, ap length put.1)
sizes_put (answered.Tap d) l m put = (ap length put.0, ap length put.1 ∙ length-set l.taps.items d.at d.lane)

pub have_places : (d : LaneDone) (l m : Lanes) (ds : List LaneDone) → IsPut d l m → AllByRecursion (HasPlace l) ds → AllByRecursion (HasPlace m) ds
have_places d l m ds put h = let e = sizes_put d l m put in all_turned (HasPlace l) (HasPlace m) ds (turn e.0 e.1) h
  where
    turn : length m.queues.items ≡ length l.queues.items → length m.taps.items ≡ length l.taps.items → (x : LaneDone) → HasPlace l x → HasPlace m x
    turn q t (answered.Queue x) lt = omega (arith, lt, q)
    turn q t (answered.Tap x) lt = omega (arith, lt, t)

pub are_placed : (d : LaneDone) (l m : Lanes) (ts : List LaneTask) → IsPut d l m → AllByRecursion (IsPlaced l) ts → AllByRecursion (IsPlaced m) ts
are_placed d l m ts put h = let e = sizes_put d l m put in all_turned (IsPlaced l) (IsPlaced m) ts (turn e.0 e.1) h
  where
    turn : length m.queues.items ≡ length l.queues.items → length m.taps.items ≡ length l.taps.items → (x : LaneTask) → IsPlaced l x → IsPlaced m x
    turn q t (asked.Queue x) lt = omega (arith, lt, q)
    turn q t (asked.Tap x) lt = omega (arith, lt, t)

-- the answer of a task has the task's place
pub place_did : (l : Lanes) (t : LaneTask) (d : LaneDone) → DidLane t d → IsPlaced l t → HasPlace l d
place_did l (asked.Queue t) (answered.Queue d) did lt = omega (arith, lt, did.0)
place_did l (asked.Tap t) (answered.Tap d) did lt = omega (arith, lt, did.0)
place_did l (asked.Queue t) (answered.Tap d) did lt = absurd did
place_did l (asked.Tap t) (answered.Queue d) did lt = absurd did

pub places_did : (l : Lanes) (ts : List LaneTask) (ds : List LaneDone) → EachDid DidLane ts ds → AllByRecursion (IsPlaced l) ts → AllByRecursion (HasPlace l) ds
places_did l [] [] e h = tt
places_did l [] (d ∷ ds) e h = absurd e
places_did l (t ∷ ts) [] e h = absurd e
places_did l (t ∷ ts) (d ∷ ds) e h = (place_did l t d e.0 h.0, places_did l ts ds e.1 h.1)

pub placed_away : (plan : LanePlan) (old l : Lanes) (ts : List LaneTask) → Away plan old l ts → AllByRecursion (IsPlaced l) ts
placed_away plan old l ts h = all_turned (IsOf plan old) (IsPlaced l) ts (turn h.queues.size h.taps.size) h.own
  where
    turn : length l.queues.items ≡ length old.queues.items → length l.taps.items ≡ length old.taps.items → (t : LaneTask) → IsOf plan old t → IsPlaced l t
    turn q e (asked.Queue t) own = omega (arith, own.0, q)
    turn q e (asked.Tap t) own = omega (arith, own.0, e)
